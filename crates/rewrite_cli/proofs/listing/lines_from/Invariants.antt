use Rattle.std.proofs.Common.{◌≡◌, ◌++◌, drop, string_bytes}
use Rattle.rewrite_cli.specs.Listing.{lines_from, lines_of}
use Rattle.rewrite_cli.proofs.listing.lines_from.Given as goal

abbrev pub invariant-loop-place : goal.invariant-loop-place
invariant-loop-place l =
    string_bytes l.text ++ lines_from l.place l.chosen (drop l.place l.all) ≡ lines_of l.chosen l.all

use Rattle.std.proofs.Common.{◌≡◌, drop}
use Rattle.std.specs.List.{list_all}
use Rattle.alias_checks.specs.AccessTests.{keeps_off}
use Rattle.alias_checks.proofs.access_tests.keep_off.Given as goal

abbrev pub invariant-loop-place : goal.invariant-loop-place
invariant-loop-place l =
    list_all (keeps_off l.regs l.cell) (drop l.place-index l.places) ≡ list_all (keeps_off l.regs l.cell) l.places

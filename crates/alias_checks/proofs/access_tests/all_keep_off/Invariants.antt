use Rattle.std.proofs.Common.{◌≡◌, drop}
use Rattle.alias_checks.specs.AccessTests.{all_keep_off}
use Rattle.alias_checks.proofs.access_tests.all_keep_off.Given as goal

abbrev pub invariant-loop-cell : goal.invariant-loop-cell
invariant-loop-cell l =
    all_keep_off l.regs (drop l.cell-index l.cells) l.places ≡ all_keep_off l.regs l.cells l.places

use Rattle.std.proofs.Common.{◌≡◌, drop}
use Rattle.alias_checks.specs.CellTests.{all_clear}
use Rattle.alias_checks.proofs.cell_tests.all_clear.Given as goal

abbrev pub invariant-loop-i : goal.invariant-loop-i
invariant-loop-i l = all_clear l.regs (drop l.i l.cells) ≡ all_clear l.regs l.cells

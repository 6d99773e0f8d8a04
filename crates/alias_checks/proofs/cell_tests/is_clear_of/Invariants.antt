use Rattle.std.proofs.Common.{◌≡◌, drop}
use Rattle.std.specs.List.{list_all}
use Rattle.alias_checks.specs.CellTests.{are_clear}
use Rattle.alias_checks.proofs.cell_tests.is_clear_of.Given as goal

abbrev pub invariant-loop-other : goal.invariant-loop-other
invariant-loop-other l =
    list_all (are_clear l.regs l.cell) (drop l.other-index l.others) ≡ list_all (are_clear l.regs l.cell) l.others

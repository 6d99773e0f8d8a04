use Rattle.std.proofs.Common.{ℕ, List, drop}
use Rattle.std.specs.Prelude.{flat_map}
use Rattle.stub_laws.specs.Code.{Appended}
use Rattle.check_code.specs.CellCode.{clear_code}
use Rattle.check_code.proofs.emit.push_clear_row.Given as goal

abbrev pub invariant-loop-other : goal.invariant-loop-other
invariant-loop-other l = (fin : List ℕ) → Appended l.code.items fin (flat_map (clear_code l.cell) (drop l.other-index l.others)) → Appended l.initial.code.items fin (flat_map (clear_code l.cell) l.others)

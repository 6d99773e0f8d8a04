use Rattle.std.proofs.Common.{ℕ, List, drop}
use Rattle.stub_laws.specs.Code.{Appended}
use Rattle.check_code.specs.CheckCode.{cells_code}
use Rattle.check_code.proofs.emit.push_cells.Given as goal

abbrev pub invariant-loop-k : goal.invariant-loop-k
invariant-loop-k l = (fin : List ℕ) → Appended l.code.items fin (cells_code l.areas l.k (drop l.k l.cells)) → Appended l.initial.code.items fin (cells_code l.areas 0 l.cells)

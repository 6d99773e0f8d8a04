use Rattle.std.proofs.Common.{ℕ, List, drop}
use Rattle.stub_laws.specs.Code.{Appended}
use Rattle.turn_copies.specs.StubCode.{write_back_code}
use Rattle.outliner.proofs.ends.push_cells.Given as goal

-- what completes the words so far completes those at the start
abbrev pub invariant-loop-k : goal.invariant-loop-k
invariant-loop-k l = (fin : List ℕ) → Appended l.code.items fin (write_back_code l.k (drop l.k l.cells)) → Appended l.initial.code.items fin (write_back_code 0 l.cells)

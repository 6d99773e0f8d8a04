use Rattle.std.proofs.Common.{ℕ, ◌-◌, List}
use Rattle.stub_laws.specs.Code.{Appended}
use Rattle.turn_copies.specs.StubCode.{movings_from, movings, advances_code}
use Rattle.outliner.specs.Moves.{roles_in}
use Rattle.outliner.proofs.turns.push_advances.Given as goal

-- what completes the words so far completes those at the start
abbrev pub invariant-loop-k : goal.invariant-loop-k
invariant-loop-k l = (fin : List ℕ) → Appended l.code.items fin (advances_code (movings_from (roles_in l.classes) l.k (48 - l.k))) → Appended l.initial.code.items fin (advances_code (movings (roles_in l.classes)))

use Rattle.std.proofs.Common.{ℕ, List, drop}
use Rattle.std.specs.Prelude.{slice_index}
use Rattle.stub_laws.specs.Code.{Appended}
use Rattle.turn_copies.specs.Copies.{in_order, copies_code, body_code}
use Rattle.outliner.specs.Sizes.{loop_code}
use Rattle.outliner.proofs.bodies.push_body.Given as goal

-- what completes the words so far completes those at the start
abbrev pub invariant-loop-k : goal.invariant-loop-k
invariant-loop-k l =
    (fin : List ℕ) → Appended l.code.items fin (copies_code l.level (loop_code l.graph l.cells) (in_order l.level (loop_code l.graph l.cells) (slice_index l.places 0)) (drop l.k l.level.body))
    → Appended l.initial.code.items fin (body_code l.level (loop_code l.graph l.cells) (slice_index l.places 0))

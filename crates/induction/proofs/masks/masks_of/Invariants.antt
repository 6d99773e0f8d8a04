use Rattle.std.proofs.Common.{◌≡◌, ℕ, ◌<◌, length, get_or}
use Rattle.loop_data.specs.Flows.{rows}
use Rattle.induction.specs.Masks.{IsMaskAt}
use Rattle.induction.proofs.masks.masks_of.Given as goal

abbrev pub invariant-loop-p : goal.invariant-loop-p
invariant-loop-p l = (length l.masks.items ≡ length l.body) × ((j : ℕ) → j < l.p-index → IsMaskAt l.header l.body l.flow (rows l.sources) l.masks.items (get_or l.order j 0))

use Rattle.std.proofs.Common.{◌≡◌, ◌∷◌, ◌++◌, [], ap, ◌∙◌, arith}
use Rattle.hart_core.specs.Machine.{Hart}
use Rattle.hart_core.proofs.Sums.{one_more_idle}
use Rattle.hart_core.proofs.harts.seats_of.Goals as goal

pub loop-i-preserved : goal.loop-i-preserved
loop-i-preserved c =
    one_more_idle c.args.first c.loop-i.i c.loop-i.seats.items _ (omega arith) c.loop-i.invariant
    (c.in_ok-push-2.ensures.items ∙ ap (λ (v : Hart). c.loop-i.seats.items ++ v ∷ []) c.idle.ensures)

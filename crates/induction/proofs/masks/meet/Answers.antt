use Rattle.std.proofs.Common.{get_or, refl}
use Rattle.induction.proofs.MaskBits.{full_mask, meet_more}
use Rattle.induction.proofs.masks.meet.Goals as goal

pub loop-k-init : goal.loop-k-init
loop-k-init c = full_mask

pub loop-k-preserved : goal.loop-k-preserved
loop-k-preserved c =
    let sources = c.args.sources.now in
    meet_more c.args.flow.now c.args.masks.now sources c.loop-k.k-index c.loop-k.mask c.after-mask.result _ (get_or sources c.loop-k.k-index 0) c.loop-k-test.true refl c.loop-k.invariant c.after-mask.ensures refl

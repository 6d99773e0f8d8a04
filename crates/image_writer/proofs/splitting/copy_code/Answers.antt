use Rattle.image_writer.proofs.Steps.{words_step}
use Rattle.image_writer.proofs.splitting.copy_code.Goals as goal

pub loop-i-preserved : goal.loop-i-preserved
loop-i-preserved c =
    words_step c.args.rest.now c.args.place c.loop-i.i c.args.count _ _ _ _ c.loop-i-test.true c.loop-i.invariant c.in_ok-push.ensures.items c.field32.ensures

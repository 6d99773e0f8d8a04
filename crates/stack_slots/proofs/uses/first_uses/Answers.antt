use Rattle.stack_slots.proofs.FirstsFound.{first_more}
use Rattle.stack_slots.proofs.uses.first_uses.Goals as goal

pub loop-w-preserved : goal.loop-w-preserved
loop-w-preserved c =
    first_more c.args.words.now c.requires c.loop-w.w-index c.w-item.result c.loop-w-test.true c.w-item.is c.loop-w.firsts.items c.add_first.new.firsts.items c.loop-w.invariant c.add_first.ensures

use Rattle.stack_slots.proofs.UseLists.{found_at, use_more}
use Rattle.stack_slots.proofs.list.uses_of.Goals as goal

pub add_use-requires-clause-found : goal.add_use-requires-clause-found
add_use-requires-clause-found c =
    found_at c.args.words.now c.args.firsts.now c.requires.firsts c.loop-w.w-index c.w-item.result c.loop-w-test.true c.w-item.is

pub loop-w-preserved : goal.loop-w-preserved
loop-w-preserved c =
    use_more c.args.words.now c.args.firsts.now c.requires.firsts c.loop-w.w-index c.w-item.result c.loop-w-test.true c.w-item.is c.loop-w.uses.items c.add_use.new.uses.items c.add_use.ensures c.loop-w.invariant

use Rattle.std.proofs.Common.{arith}
use Rattle.std.proofs.lemmas.List.Elements.{Contains-get_or}
use Rattle.loop_shapes.proofs.Searches.{tried_room, tried_full, room_more, full_more}
use Rattle.loop_shapes.proofs.search.add_all.Goals as goal

pub add_new-requires-clause-within : goal.add_new-requires-clause-within
add_new-requires-clause-within c =
    let l = c.requires.within _ (Contains-get_or c.args.more.now c.loop-x.x-index 0 c.loop-x-test.true) in
    omega arith

pub returns-then-not-branch : goal.returns-then-not-branch
returns-then-not-branch c = full_more c.args.found.now.items c.args.more.now c.loop-x.found.items c.add_new.new.found.items c.loop-x.slots c.add_new.new.slots c.loop-x.x-index c.loop-x-test.true c.loop-x.invariant (tried_full _ _ _ _ c.in_ok-add_new.field-0 c.if-not-branch.true c.in_ok-add_new.ensures)

pub loop-x-preserved : goal.loop-x-preserved
loop-x-preserved c = room_more c.args.found.now.items c.args.more.now c.loop-x.found.items c.add_new.new.found.items c.loop-x.slots c.add_new.new.slots c.loop-x.x-index c.loop-x-test.true c.loop-x.invariant (tried_room _ _ _ _ c.in_ok-add_new.field-0 c.if-not-branch.false c.in_ok-add_new.ensures)

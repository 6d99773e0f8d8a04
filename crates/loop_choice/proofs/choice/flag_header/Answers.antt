use Rattle.loop_choice.proofs.Flags.{one_set, none_there}
use Rattle.loop_choice.proofs.choice.flag_header.Goals as goal

pub returns-then-place-i : goal.returns-then-place-i
returns-then-place-i c =
    one_set c.args.all.now c.args.i c.args.header c.in-Some.place c.args.flags.now.items c.requires.ordered
    c.requires.count c.in-Some.ensures.some c.if-place-i.true

pub returns-in-None : goal.returns-in-None
returns-in-None c =
    none_there c.args.all.now c.args.i c.args.header c.args.flags.now.items c.in-None.ensures.none

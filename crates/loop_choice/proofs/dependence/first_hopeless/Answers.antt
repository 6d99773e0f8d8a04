use Rattle.loop_choice.proofs.Hopeless.{row_more, first_of_all, none_of_all}
use Rattle.loop_choice.proofs.dependence.first_hopeless.Goals as goal

pub returns-in-Some-clause-some : goal.returns-in-Some-clause-some
returns-in-Some-clause-some c =
    first_of_all c.args.list.now c.loop-i.i c.in-Some.j c.loop-i.invariant c.in-Some.ensures.some

pub loop-i-preserved : goal.loop-i-preserved
loop-i-preserved c = row_more c.args.list.now c.loop-i.i c.loop-i.invariant c.in-None.ensures.none

pub returns-clause-none : goal.returns-clause-none
returns-clause-none c = none_of_all c.args.list.now c.loop-i.i c.loop-i-test.false c.loop-i.invariant

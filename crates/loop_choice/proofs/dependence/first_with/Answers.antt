use Rattle.loop_choice.proofs.Hopeless.{row_next, row_found, none_in_row}
use Rattle.loop_choice.proofs.dependence.first_with.Goals as goal

pub returns-then-are_hopeless-clause-some : goal.returns-then-are_hopeless-clause-some
returns-then-are_hopeless-clause-some c =
    row_found c.args.list.now c.args.i c.loop-j.j c.index-list-i.result c.index-list-j.result c.are_hopeless.result
    c.loop-j.auto.j c.loop-j-test.true c.index-list-i.is c.index-list-j.is c.are_hopeless.ensures
    c.if-are_hopeless.true c.loop-j.invariant

pub loop-j-preserved : goal.loop-j-preserved
loop-j-preserved c =
    row_next c.args.list.now c.args.i c.loop-j.j c.index-list-i.result c.index-list-j.result c.are_hopeless.result
    c.loop-j.auto.j c.loop-j-test.true c.index-list-i.is c.index-list-j.is c.are_hopeless.ensures
    c.if-are_hopeless.false c.loop-j.invariant

pub returns-clause-none : goal.returns-clause-none
returns-clause-none c = none_in_row c.args.list.now c.args.i c.loop-j.j c.loop-j-test.false c.loop-j.invariant

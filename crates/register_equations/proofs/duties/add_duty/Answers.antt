use Rattle.register_equations.proofs.DutyLists.{duty_here}
use Rattle.register_equations.proofs.duties.add_duty.Goals as goal

pub returns-in_ok-push-in-Some : goal.returns-in_ok-push-in-Some
returns-in_ok-push-in-Some c =
    rw (c.in-Some.is) (c.duty_with.result, duty_here c.args.levels.now _ c.at.result c.in-Some.form c.duty_with.result c.at.ensures.address c.duty_with.ensures.at c.duty_with.ensures.form c.duty_with.ensures.innermost c.duty_with.ensures.around, c.in_ok-push-in-Some.ensures.items)

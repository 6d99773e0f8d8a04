use Rattle.alias_checks.specs.AccessTests.{last_at}
use Rattle.alias_checks.proofs.Shifts.{are_shifts}
use Rattle.alias_checks.proofs.access_tests.shifts.Goals as goal

pub returns : goal.returns
returns c =
    are_shifts c.args.form.now (last_at c.args.around.now c.args.last.now) c.last_turns.result c.extremes.result
    c.is_form.ensures.bounded c.last_turns.ensures.value c.last_turns.ensures.small c.extremes.ensures

use Rattle.loop_choice.proofs.OneVerdict.{one_listed_verdict}
use Rattle.loop_choice.proofs.laws.one_verdict.Goals as goal

pub returns : goal.returns
returns c = one_listed_verdict c.nests.ensures c.one_nest_verdict.ensures

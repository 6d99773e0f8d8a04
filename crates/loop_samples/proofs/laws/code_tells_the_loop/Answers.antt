use Rattle.loop_samples.proofs.Adding.{at_loop_again, stored_sum, not_there, not_yet}
use Rattle.loop_samples.proofs.laws.code_tells_the_loop.Goals as goal

pub returns-clause-again : goal.returns-clause-again
returns-clause-again c = at_loop_again

pub returns-clause-other : goal.returns-clause-other
returns-clause-other c = not_there

pub returns-clause-sum : goal.returns-clause-sum
returns-clause-sum c = stored_sum

pub returns-clause-within : goal.returns-clause-within
returns-clause-within c = not_yet

use Rattle.copy_samples.proofs.NestCopies.{is_body, is_ordered, is_divided}
use Rattle.copy_samples.proofs.nest_may_be_copied.Goals as goal

pub returns-clause-body : goal.returns-clause-body
returns-clause-body c = is_body

pub returns-clause-ordered : goal.returns-clause-ordered
returns-clause-ordered c = is_ordered

pub returns-clause-divided : goal.returns-clause-divided
returns-clause-divided c = is_divided

use Rattle.walks.proofs.Sample.{sample_walk}
use Rattle.walks.proofs.a_sample_is_walked.Goals as goal

pub returns : goal.returns
returns c = sample_walk c.there_is_one_walk.ensures.plain c.one_hart_counts_the_walk.ensures.end

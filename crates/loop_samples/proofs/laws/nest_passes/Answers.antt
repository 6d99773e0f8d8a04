use Rattle.loop_samples.proofs.Nested.{passes_are, passed_are}
use Rattle.loop_samples.proofs.laws.nest_passes.Goals as goal

pub returns-clause-passes : goal.returns-clause-passes
returns-clause-passes c = passes_are

pub returns-clause-passed : goal.returns-clause-passed
returns-clause-passed c = passed_are

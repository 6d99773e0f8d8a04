use Rattle.stub_samples.proofs.NestStub.{is_divided}
use Rattle.stub_samples.proofs.nest_is_asked.Goals as goal

pub returns-clause-divided : goal.returns-clause-divided
returns-clause-divided c = is_divided

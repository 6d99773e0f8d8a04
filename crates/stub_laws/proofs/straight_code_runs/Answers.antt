use Rattle.stub_laws.proofs.Runs.{straight_runs}
use Rattle.stub_laws.proofs.straight_code_runs.Goals as goal

pub returns : goal.returns
returns c = λ code to p is h short simple stand at. straight_runs code to p is h short simple stand at

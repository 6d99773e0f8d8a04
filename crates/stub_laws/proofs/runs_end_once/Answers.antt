use Rattle.stub_laws.proofs.Exact.{one_end}
use Rattle.stub_laws.proofs.runs_end_once.Goals as goal

pub returns : goal.returns
returns c = λ code n m q r h a b x y. one_end code n m q r h a b x y

use Rattle.check_code.proofs.Runs.{span_runs}
use Rattle.check_code.proofs.laws.spans_are_added.Goals as goal

pub returns : goal.returns
returns c = λ code to p r slot by h s n w x a i. span_runs code to p r slot by h s n w x a i

use Rattle.loop_samples.proofs.Nested.{forms_hold}
use Rattle.loop_samples.proofs.laws.nest_forms_hold.Goals as goal

pub returns : goal.returns
returns c = forms_hold

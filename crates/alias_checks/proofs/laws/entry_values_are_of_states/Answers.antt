use Rattle.alias_checks.proofs.StartBounds.{entry_is}
use Rattle.alias_checks.proofs.laws.entry_values_are_of_states.Goals as goal

pub returns : goal.returns
returns c = entry_is

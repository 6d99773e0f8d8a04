use Rattle.loop_data.proofs.Effects.{same_effect, unwritten}
use Rattle.loop_data.proofs.laws.registers_of_an_effect.Goals as goal

pub returns-clause-unread : goal.returns-clause-unread
returns-clause-unread c = same_effect

pub returns-clause-unwritten : goal.returns-clause-unwritten
returns-clause-unwritten c = unwritten

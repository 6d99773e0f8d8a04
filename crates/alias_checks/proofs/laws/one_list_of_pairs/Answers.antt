use Rattle.alias_checks.proofs.OneList.{one_list}
use Rattle.alias_checks.proofs.laws.one_list_of_pairs.Goals as goal

pub returns : goal.returns
returns c = one_list c.one_term.ensures

use Rattle.affine_addresses.proofs.OneList.{one_list, one_kept_list, one_irregular, none_irregular}
use Rattle.affine_addresses.proofs.laws.one_list_of_accesses.Goals as goal

pub returns-clause-list : goal.returns-clause-list
returns-clause-list c = one_list

pub returns-clause-kept : goal.returns-clause-kept
returns-clause-kept c = one_kept_list

pub returns-clause-irregular : goal.returns-clause-irregular
returns-clause-irregular c = one_irregular

pub returns-clause-none : goal.returns-clause-none
returns-clause-none c = none_irregular

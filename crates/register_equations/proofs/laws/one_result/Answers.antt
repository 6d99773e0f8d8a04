use Rattle.register_equations.proofs.OneResult.{one_form, one_unconfirmed, one_duties, one_equations}
use Rattle.register_equations.proofs.laws.one_result.Goals as goal

pub returns-clause-form : goal.returns-clause-form
returns-clause-form c = one_form

pub returns-clause-unconfirmed : goal.returns-clause-unconfirmed
returns-clause-unconfirmed c = one_unconfirmed

pub returns-clause-duties : goal.returns-clause-duties
returns-clause-duties c = one_duties

pub returns-clause-all : goal.returns-clause-all
returns-clause-all c = one_equations

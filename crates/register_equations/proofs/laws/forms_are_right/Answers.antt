use Rattle.register_equations.proofs.Runs.{form_law, turns_law}
use Rattle.register_equations.proofs.Joined.{result_law, result_turns_law}
use Rattle.register_equations.proofs.laws.forms_are_right.Goals as goal

pub returns-clause-visit : goal.returns-clause-visit
returns-clause-visit c = form_law

pub returns-clause-turns : goal.returns-clause-turns
returns-clause-turns c = turns_law

pub returns-clause-results : goal.returns-clause-results
returns-clause-results c = result_law

pub returns-clause-results_in_turns : goal.returns-clause-results_in_turns
returns-clause-results_in_turns c = result_turns_law

use Rattle.register_equations.proofs.Exists.{forms_exist}
use Rattle.register_equations.proofs.Unique.{one_solution}
use Rattle.register_equations.proofs.solution.solutions_agree.Goals as goal

pub returns-clause-some : goal.returns-clause-some
returns-clause-some c N B roles nest = forms_exist N B roles nest

pub returns-clause-only : goal.returns-clause-only
returns-clause-only c = one_solution

use Rattle.register_equations.proofs.Joined.{ask_law}
use Rattle.register_equations.proofs.laws.uses_ask_for_cells.Goals as goal

pub returns : goal.returns
returns c = ask_law

use Rattle.register_equations.proofs.Joined.{access_turns_law}
use Rattle.register_equations.proofs.laws.accesses_in_turns.Goals as goal

pub returns : goal.returns
returns c = access_turns_law

use Rattle.check_code.proofs.Placed.{root_placed}
use Rattle.check_code.proofs.turn_laws.turns_are_told.Goals as goal

pub returns : goal.returns
returns c = λ m known e t words ok k reach value is. root_placed m known e t words ok k reach value is

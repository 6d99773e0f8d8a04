use Rattle.check_code.proofs.Placed.{duty_placed}
use Rattle.check_code.proofs.turn_laws.duties_are_tested.Goals as goal

pub returns : goal.returns
returns c = λ m known e d words fine has reach low is. duty_placed m known e d words fine has reach low is

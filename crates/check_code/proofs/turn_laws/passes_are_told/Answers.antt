use Rattle.check_code.proofs.Placed.{inner_placed}
use Rattle.check_code.proofs.turn_laws.passes_are_told.Goals as goal

pub returns : goal.returns
returns c = λ m known e t k words ok has reach few value is. inner_placed m known e t k words ok has reach few value is

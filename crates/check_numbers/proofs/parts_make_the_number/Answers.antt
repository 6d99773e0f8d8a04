use Rattle.check_numbers.proofs.Parts.{parts}
use Rattle.check_numbers.proofs.parts_make_the_number.Goals as goal

pub returns : goal.returns
returns c = λ v h. parts v h

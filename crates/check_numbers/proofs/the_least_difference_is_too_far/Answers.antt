use Rattle.check_numbers.proofs.Differ.{least_number, least_word}
use Rattle.check_numbers.proofs.Sums.{small_short}
use Rattle.check_numbers.proofs.the_least_difference_is_too_far.Goals as goal

pub returns : goal.returns
returns c = record {
  number = λ step n small some e. least_number step n small some e;
  words = λ step small some h. least_word step small some (small_short step small) h;
}

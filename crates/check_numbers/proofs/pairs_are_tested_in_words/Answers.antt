use Rattle.check_numbers.proofs.Pairs.{pair_words}
use Rattle.check_numbers.proofs.pairs_are_tested_in_words.Goals as goal

pub returns : goal.returns
returns c = λ root lanes residue width a b inner known at ok. pair_words root lanes residue width a b inner known at ok

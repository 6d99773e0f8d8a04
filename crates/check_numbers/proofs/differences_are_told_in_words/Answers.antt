use Rattle.check_numbers.proofs.Differ.{differ_words}
use Rattle.check_numbers.proofs.differences_are_told_in_words.Goals as goal

pub returns : goal.returns
returns c = λ v step fits n h least. differ_words v step fits n h least

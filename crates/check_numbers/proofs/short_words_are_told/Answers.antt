use Rattle.check_numbers.proofs.Signed.{short_word}
use Rattle.check_numbers.proofs.short_words_are_told.Goals as goal

pub returns : goal.returns
returns c = λ v h. short_word v h

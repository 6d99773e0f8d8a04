use Rattle.linear_forms.proofs.Sums.{word_alike, word_is}
use Rattle.linear_forms.proofs.laws.one_word.Goals as goal

pub returns-clause-same : goal.returns-clause-same
returns-clause-same c = word_alike

pub returns-clause-only : goal.returns-clause-only
returns-clause-only c = word_is

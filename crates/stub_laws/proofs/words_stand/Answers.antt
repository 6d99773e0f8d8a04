use Rattle.stub_laws.proofs.Places.{stands_words}
use Rattle.stub_laws.proofs.words_stand.Goals as goal

pub returns : goal.returns
returns c = λ code p out to k words is e at r. stands_words code out is words p to k e at r

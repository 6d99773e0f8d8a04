use Rattle.stub_laws.proofs.Places.{aimed_words}
use Rattle.stub_laws.proofs.aimed_words_stand.Goals as goal

pub returns : goal.returns
returns c = aimed_words

use Rattle.rv64_decode.proofs.xwords.x_word_of.Goals as goal

pub returns-in-Base-clause-words : goal.returns-in-Base-clause-words
returns-in-Base-clause-words c = rw c.in-Base.is c.encode.ensures.words

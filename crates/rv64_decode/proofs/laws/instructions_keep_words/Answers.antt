use Rattle.rv64_decode.proofs.Sound.{row-words, after_are, written, register_below, number_4}
use Rattle.rv64_decode.proofs.laws.instructions_keep_words.Goals as goal

pub returns-clause-registers : goal.returns-clause-registers
returns-clause-registers c = row-words

pub returns-clause-bytes : goal.returns-clause-bytes
returns-clause-bytes c = after_are

pub returns-clause-write : goal.returns-clause-write
returns-clause-write c = λ regs r value ok l. written regs r value l ok

pub returns-clause-read : goal.returns-clause-read
returns-clause-read c = register_below

pub returns-clause-word : goal.returns-clause-word
returns-clause-word c = number_4

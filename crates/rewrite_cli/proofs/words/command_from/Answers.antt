use Rattle.rewrite_cli.proofs.Forms.{one_word, many_words}
use Rattle.rewrite_cli.proofs.words.command_from.Goals as goal

pub returns-in-len1 : goal.returns-in-len1
returns-in-len1 c = one_word _ c.args.words.now c.in-len1.len_at_least c.in-len1.len_below

pub returns-in_default : goal.returns-in_default
returns-in_default c = many_words _ c.args.words.now c.in_default.len_at_least

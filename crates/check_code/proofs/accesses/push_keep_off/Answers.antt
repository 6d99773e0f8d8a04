use Rattle.std.proofs.Common.{sym, ◌∙◌}
use Rattle.check_code.proofs.Joins.{no_store}
use Rattle.check_code.proofs.accesses.push_keep_off.Goals as goal

pub returns-else-is_either_stored : goal.returns-else-is_either_stored
returns-else-is_either_stored c = no_store _ c.args.c.now c.args.a.now (sym c.is_either_stored.ensures ∙ c.if-is_either_stored.false)

use Rattle.std.proofs.Common.{sym, ◌∙◌}
use Rattle.check_code.proofs.Appends.{passes_none}
use Rattle.check_code.proofs.ranges.push_if_permitted.Goals as goal

pub returns : goal.returns
returns c = passes_none c.args.permission c.args.area.now c.args.left _ (sym c.permits.ensures ∙ c.if-permits.false)

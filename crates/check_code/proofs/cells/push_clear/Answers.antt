use Rattle.std.proofs.Common.{sym, ◌∙◌}
use Rattle.check_code.proofs.CellAppends.{clear_same, clear_kept}
use Rattle.check_code.proofs.cells.push_clear.Goals as goal

pub returns-then-same_base : goal.returns-then-same_base
returns-then-same_base c = clear_same _ c.args.first.now c.args.second.now (sym c.same_base.ensures ∙ c.if-same_base.true)

pub returns : goal.returns
returns c = clear_kept _ c.args.first.now c.args.second.now (sym c.same_base.ensures ∙ c.if-same_base.false) (sym c.is_either_stored.ensures ∙ c.if-is_either_stored.false)

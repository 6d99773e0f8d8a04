use Rattle.outliner.proofs.Copied.{back_none}
use Rattle.outliner.proofs.copies.push_back.Goals as goal

pub returns : goal.returns
returns c = back_none _ c.args.level.now c.args.at c.args.end c.args.p c.args.i.now _ c.leads_back.ensures c.if-leads_back.false

use Rattle.hart_core.proofs.Happening.{executed_last}
use Rattle.hart_core.proofs.events.execute_base.Goals as goal

pub returns-in-None-clause-acts : goal.returns-in-None-clause-acts
returns-in-None-clause-acts g c =
    executed_last c.new.result c.args.i c.new.ensures c.args.m.now c.execute.new.m c.execute.result c.in-None.is
    _ _ _ _ _ _ _ _ c.execute.ensures.acts

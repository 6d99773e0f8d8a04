use Rattle.stack_slots.proofs.KeptFlags.{kept_is}
use Rattle.stack_slots.proofs.touches.written_in.Goals as goal

pub returns : goal.returns
returns c = kept_is c.mark_body.new.flags c.no_cells.result c.args.graph.now c.args.body.now c.mark_body.ensures c.no_cells.ensures.none

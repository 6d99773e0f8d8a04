use Rattle.std.proofs.Common.{subst}
use Rattle.loop_shapes.specs.Outer.{IsClean}
use Rattle.loop_shapes.specs.Program.{program_graph}
use Rattle.loop_shapes.proofs.early.is_clean_outer.Goals as goal

pub returns-in-None : goal.returns-in-None
returns-in-None c t = subst (IsClean (program_graph c.args.program.now)) c.address_of-header.ensures (record { plain = c.in-None.ensures.0; shaped = c.in-None.ensures.1 })

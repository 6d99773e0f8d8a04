use Rattle.std.proofs.Common.{Bool, List, subst}
use Rattle.loop_shapes.specs.Outer.{IsUnder}
use Rattle.loop_shapes.specs.Places.{at}
use Rattle.loop_shapes.specs.Program.{program_graph}
use Rattle.loop_shapes.proofs.OuterLoops.{under_clean}
use Rattle.loop_shapes.proofs.early.is_clean.Goals as goal

pub returns : goal.returns
returns c t header short =
    let G = program_graph c.args.program.now in
    let x = at G c.args.place in
    let u = subst (λ (bs : List Bool). IsUnder G bs x) c.as_slice.ensures.value (c.is_under.ensures t) in
    under_clean G c.requires.program.net.from_starts c.args.marks.now.clean.items x u c.requires.marks.clean header short

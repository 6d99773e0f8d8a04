use Rattle.std.proofs.Common.{List, ℕ, ap, ◌∙◌, sym, subst}
use Rattle.std.specs.declared.vec.Vec.{Vec}
use Rattle.std.specs.declared.alloc.Global.{Global}
use Rattle.loop_shapes.specs.Program.{program_graph}
use Rattle.loop_shapes.proofs.program.sources_of.Goals as goal
use Rattle.loop_shapes.specs.Lines.{IsRowOf}
use Rattle.loop_data.specs.Bodies.{IsClosed}
use Rattle.loop_data.specs.Flows.{row_at, rows}

pub returns : goal.returns
returns c =
    let G = program_graph c.args.program.now in
    let same = c.row.ensures ∙ ap (λ (vs : List (Vec ℕ Global)). row_at (rows vs) c.args.place) c.as_slice.ensures.value in
    subst (IsRowOf G (IsClosed G) c.args.place) (sym same) (c.requires.program.closed.each c.args.place c.requires.within)

use Rattle.std.proofs.Common.{length, refl}
use Rattle.loop_shapes.specs.Places.{at}
use Rattle.loop_shapes.specs.Program.{program_graph}
use Rattle.loop_shapes.proofs.Programs.{header_by, some_number}
use Rattle.loop_shapes.proofs.program.is_header_at.Goals as goal

pub returns : goal.returns
returns c =
    let G = program_graph c.args.program.now in
    let n = some_number (length c.sources_of.result.now) c.is_empty.result c.is_empty.ensures in
    let h = header_by G c.args.place (at G c.args.place) c.sources_of.result.now refl c.sources_of.ensures in
    (λ t. h.0 (n.0 t), λ q. n.1 (h.1 q))

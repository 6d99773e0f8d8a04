use Rattle.std.proofs.Common.{refl}
use Rattle.loop_data.specs.Paths.{addresses}
use Rattle.loop_shapes.specs.Places.{at}
use Rattle.loop_shapes.specs.Program.{program_graph}
use Rattle.loop_shapes.proofs.Rows.{same_place}
use Rattle.loop_shapes.proofs.Leaving.{back_by, no_back_by}
use Rattle.loop_shapes.proofs.exits.back_of.Goals as goal

pub returns-clause-within : goal.returns-clause-within
returns-clause-within c = (c.sources_of.ensures.each c.in-Some.source c.in-Some.ensures.some.among).0

pub returns-clause-some : goal.returns-clause-some
returns-clause-some c =
    let G = program_graph c.args.program.now in
    back_by G c.args.header (at G c.args.header) c.sources_of.result.now c.in-Some.source refl c.sources_of.ensures c.in-Some.ensures.some

pub returns-in_default-clause-none : goal.returns-in_default-clause-none
returns-in_default-clause-none c =
    let G = program_graph c.args.program.now in
    no_back_by G c.args.header (at G c.args.header) c.sources_of.result.now (λ i m. (c.sources_of.ensures.each i m).0) (λ i j li lj e. same_place (addresses G) c.requires.program.net.ordered i j li lj e) refl c.sources_of.ensures c.in_default.ensures.none

use Rattle.std.proofs.Common.{Some, ap}
use Rattle.loop_data.specs.Paths.{addresses}
use Rattle.loop_shapes.specs.LoopBody.{body_graph, header_of}
use Rattle.loop_shapes.specs.Places.{at, count_of}
use Rattle.loop_shapes.proofs.Rounds.{read_entry, same_test, outermost_by}
use Rattle.loop_shapes.proofs.Rows.{same_place}
use Rattle.loop_shapes.proofs.exits.is_outermost.Goals as goal

pub returns-in-Some : goal.returns-in-Some
returns-in-Some c =
    let b = c.requires.body in
    let G = body_graph c.args.body.now in
    let a = b.program.around.innermost in
    let p = b.words.each c.args.exit c.requires.among in
    let inner = c.in-Some.inner in
    let e = read_entry c.args.body.now.program.now.around.innermost.items c.args.exit (count_of G) c.index.result.now (Some inner) p.0 a.count c.index.ensures c.in-Some.is in
    let o = outermost_by G b.program.net.from_starts c.args.body.now.program.now.around.innermost.items a c.args.exit inner (header_of c.args.body.now) p.0 e p.1 in
    let t = same_test inner c.args.body.now.header in
    (λ q. o.0 (ap (at G) (t.0 q)), λ f. t.1 (same_place (addresses G) b.program.net.ordered inner c.args.body.now.header (a.some c.args.exit inner p.0 e).place b.header (o.1 f)))

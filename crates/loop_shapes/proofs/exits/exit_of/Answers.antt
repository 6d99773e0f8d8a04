use Rattle.std.proofs.Common.{arith}
use Rattle.loop_shapes.specs.LoopBody.{body_graph, header_of}
use Rattle.loop_shapes.proofs.Leaving.{no_exit, one_exit, two_exits}
use Rattle.loop_shapes.proofs.Searches.{apart_from_indexed}
use Rattle.loop_shapes.proofs.exits.exit_of.Goals as goal

pub returns-then-first-body-clause-none : goal.returns-then-first-body-clause-none
returns-then-first-body-clause-none c =
    let e = c.if-first-body.true in
    no_exit (body_graph c.args.body.now) c.requires.program.net.ordered (header_of c.args.body.now) c.args.body.now.places.now c.requires.words (λ k l. c.next_exit-first.ensures.none k (omega arith) (omega arith))

pub returns-then-next_exit-body-clause-none : goal.returns-then-next_exit-body-clause-none
returns-then-next_exit-body-clause-none c =
    let e = c.if-first-body.false in
    let m = c.next_exit-first.ensures.within in
    let t = c.if-next_exit-body.true in
    let f = c.next_exit.ensures.from in
    two_exits (body_graph c.args.body.now) c.requires.program.net.ordered (header_of c.args.body.now) c.args.body.now.places.now c.requires.words (apart_from_indexed c.args.body.now.places.now c.args.body.now.slots.now c.requires.indexed) c.next_exit-first.result c.next_exit.result (omega arith) c.if-next_exit-body.true (c.next_exit-first.ensures.left (omega arith)) (c.next_exit.ensures.left c.if-next_exit-body.true)

pub returns-clause-some : goal.returns-clause-some
returns-clause-some c =
    let e = c.if-first-body.false in
    let m = c.next_exit-first.ensures.within in
    let t = c.if-next_exit-body.false in
    one_exit (body_graph c.args.body.now) c.requires.program.net.ordered (header_of c.args.body.now) c.args.body.now.places.now c.requires.words c.next_exit-first.result (c.next_exit-first.ensures.left (omega arith)) (λ k l. c.next_exit-first.ensures.none k (omega arith) l) (λ k l q. c.next_exit.ensures.none k l (omega arith))

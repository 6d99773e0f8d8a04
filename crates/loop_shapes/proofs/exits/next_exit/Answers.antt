use Rattle.std.proofs.lemmas.Bool.{false≢true}
use Rattle.loop_shapes.specs.LoopBody.{body_graph, header_of}
use Rattle.loop_shapes.proofs.Leaving.{none_more}
use Rattle.loop_shapes.proofs.exits.next_exit.Goals as goal

pub loop-i-preserved : goal.loop-i-preserved
loop-i-preserved c = none_more (body_graph c.args.body.now) (header_of c.args.body.now) c.args.body.now.places.now c.args.from c.loop-i.i c.loop-i-test.true (λ x. false≢true (c.if-leaves.ensures.1 x)) c.loop-i.invariant

use Rattle.std.proofs.Common.{inl, inr, refl, arith}
use Rattle.std.proofs.lemmas.Bool.{false≢true}
use Rattle.loop_shapes.specs.LoopBody.{body_graph, header_of}
use Rattle.loop_shapes.specs.Places.{at}
use Rattle.loop_shapes.proofs.Leaving.{target_within, side_first, side_second, side_back, one_edge}
use Rattle.loop_shapes.proofs.exits.stays.Goals as goal

pub leads_in-requires-clause-within : goal.leads_in-requires-clause-within
leads_in-requires-clause-within c t e =
    let b = c.requires.body in
    let l = target_within (body_graph c.args.body.now) b.program.net.ordered (header_of c.args.body.now) c.args.body.now.places.now b.words c.args.body.now.program.now.next.items b.program.next c.args.exit c.requires.among c.index-node.result.now c.index-node.ensures t (inl e) in
    let n = b.count in
    omega arith

pub leads_in-requires-2-clause-within : goal.leads_in-requires-2-clause-within
leads_in-requires-2-clause-within c t e =
    let b = c.requires.body in
    let l = target_within (body_graph c.args.body.now) b.program.net.ordered (header_of c.args.body.now) c.args.body.now.places.now b.words c.args.body.now.program.now.next.items b.program.next c.args.exit c.requires.among c.index-node.result.now c.index-node.ensures t (inr e) in
    let n = b.count in
    omega arith

pub returns-then-leads_in-clause-stays : goal.returns-then-leads_in-clause-stays
returns-then-leads_in-clause-stays c =
    let b = c.requires.body in
    (λ _. side_first (body_graph c.args.body.now) b.program.net.ordered (header_of c.args.body.now) c.args.body.now.places.now b.words c.args.body.now.program.now.next.items b.program.next c.args.exit c.requires.among c.index-node.result.now c.index-node.ensures (c.if-leads_in.ensures.0 refl), λ _. refl)

pub returns-clause-stays : goal.returns-clause-stays
returns-clause-stays c =
    let b = c.requires.body in (
      λ t. side_second (body_graph c.args.body.now) b.program.net.ordered (header_of c.args.body.now) c.args.body.now.places.now b.words c.args.body.now.program.now.next.items b.program.next c.args.exit c.requires.among c.index-node.result.now c.index-node.ensures (c.leads_in-2.ensures.0 t),
      λ s. c.leads_in-2.ensures.1 (side_back (body_graph c.args.body.now) b.program.net.ordered (header_of c.args.body.now) c.args.body.now.places.now b.words c.args.body.now.program.now.next.items b.program.next c.args.exit c.requires.among c.index-node.result.now c.index-node.ensures (λ o. false≢true (c.if-leads_in.ensures.1 o)) s),
    )

pub returns-then-leads_in-clause-one : goal.returns-then-leads_in-clause-one
returns-then-leads_in-clause-one c = one_edge (body_graph c.args.body.now) (header_of c.args.body.now) (at (body_graph c.args.body.now) c.args.exit) c.word_steps-steps.result.now c.word_steps-steps.ensures.few c.word_steps-steps.ensures.steps

pub returns-clause-one : goal.returns-clause-one
returns-clause-one c = one_edge (body_graph c.args.body.now) (header_of c.args.body.now) (at (body_graph c.args.body.now) c.args.exit) c.word_steps-steps.result.now c.word_steps-steps.ensures.few c.word_steps-steps.ensures.steps

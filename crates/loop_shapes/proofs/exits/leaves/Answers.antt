use Rattle.std.proofs.Common.{true, false, inl, inr, refl, sym, ◌∙◌, arith}
use Rattle.std.proofs.lemmas.Bool.{false≢true}
use Rattle.loop_shapes.specs.LoopBody.{body_graph, header_of}
use Rattle.loop_shapes.specs.Places.{count_of}
use Rattle.loop_shapes.proofs.Leaving.{read_flag, target_within, left_astray, left_first, left_second, left_back}
use Rattle.loop_shapes.proofs.exits.leaves.Goals as goal

pub returns-then-index : goal.returns-then-index
returns-then-index c =
    let b = c.requires.body in
    let G = body_graph c.args.body.now in
    let l = (b.words.each c.args.place c.requires.among).0 in
    let a = b.program.astray in
    let f = read_flag c.args.body.now.program.now.astray.items c.args.place (count_of G) c.index.result.now true l a.count c.index.ensures c.if-index.true in
    (λ _. left_astray G b.program.net.ordered (header_of c.args.body.now) c.args.body.now.places.now b.words c.args.place c.requires.among ((a.each c.args.place l).0 f), λ _. refl)

pub leads_out-requires-clause-within : goal.leads_out-requires-clause-within
leads_out-requires-clause-within c t e =
    let b = c.requires.body in
    let l = target_within (body_graph c.args.body.now) b.program.net.ordered (header_of c.args.body.now) c.args.body.now.places.now b.words c.args.body.now.program.now.next.items b.program.next c.args.place c.requires.among c.index-node.result.now c.index-node.ensures t (inl e) in
    let n = b.count in
    omega arith

pub leads_out-requires-2-clause-within : goal.leads_out-requires-2-clause-within
leads_out-requires-2-clause-within c t e =
    let b = c.requires.body in
    let l = target_within (body_graph c.args.body.now) b.program.net.ordered (header_of c.args.body.now) c.args.body.now.places.now b.words c.args.body.now.program.now.next.items b.program.next c.args.place c.requires.among c.index-node.result.now c.index-node.ensures t (inr e) in
    let n = b.count in
    omega arith

pub returns-then-leads_out : goal.returns-then-leads_out
returns-then-leads_out c =
    let b = c.requires.body in
    (λ _. left_first (body_graph c.args.body.now) b.program.net.ordered (header_of c.args.body.now) c.args.body.now.places.now b.words c.args.body.now.program.now.next.items b.program.next c.args.place c.requires.among c.index-node.result.now c.index-node.ensures (c.if-leads_out.ensures.0 refl), λ _. refl)

pub returns : goal.returns
returns c =
    let b = c.requires.body in
    let G = body_graph c.args.body.now in
    let l = (b.words.each c.args.place c.requires.among).0 in
    let a = b.program.astray in
    let f = read_flag c.args.body.now.program.now.astray.items c.args.place (count_of G) c.index.result.now false l a.count c.index.ensures c.if-index.false in (
      λ t. left_second G b.program.net.ordered (header_of c.args.body.now) c.args.body.now.places.now b.words c.args.body.now.program.now.next.items b.program.next c.args.place c.requires.among c.index-node.result.now c.index-node.ensures (c.leads_out-2.ensures.0 t),
      λ x. c.leads_out-2.ensures.1 (left_back G b.program.net.ordered (header_of c.args.body.now) c.args.body.now.places.now b.words c.args.body.now.program.now.next.items b.program.next c.args.place c.requires.among c.index-node.result.now c.index-node.ensures (λ s. false≢true (sym f ∙ (a.each c.args.place l).1 s)) (λ o. false≢true (c.if-leads_out.ensures.1 o)) x),
    )

use Rattle.std.proofs.Common.{inl, inr, refl, arith}
use Rattle.std.proofs.lemmas.Bool.{false≢true}
use Rattle.loop_shapes.proofs.Cutting.{node_at}
use Rattle.loop_shapes.proofs.Targets.{on_first, on_second, on_back}
use Rattle.loop_shapes.proofs.cycles.leads_on.Goals as goal

pub is_step_on-requires-clause-within : goal.is_step_on-requires-clause-within
is_step_on-requires-clause-within c b e =
    let o = c.requires.body.program.open_edges in
    let n = o.count in
    let w = c.requires.within in
    ((o.each c.args.place b).0 ((node_at c.args.body.now.program.now.open_next.items c.args.place b c.index-node.result.now (omega arith) c.index-node.ensures).0 (inl e))).1

pub is_step_on-requires-2-clause-within : goal.is_step_on-requires-2-clause-within
is_step_on-requires-2-clause-within c b e =
    let o = c.requires.body.program.open_edges in
    let n = o.count in
    let w = c.requires.within in
    ((o.each c.args.place b).0 ((node_at c.args.body.now.program.now.open_next.items c.args.place b c.index-node.result.now (omega arith) c.index-node.ensures).0 (inr e))).1

pub returns-then-is_step_on : goal.returns-then-is_step_on
returns-then-is_step_on c =
    let n = c.requires.body.program.open_edges.count in
    let w = c.requires.within in
    (λ _. on_first c.args.body.now.program.now.open_next.items c.args.body.now.places.now c.args.gone.now.found.items c.args.place c.index-node.result.now (omega arith) c.index-node.ensures (c.if-is_step_on.ensures.0 refl), λ _. refl)

pub returns : goal.returns
returns c =
    let n = c.requires.body.program.open_edges.count in
    let w = c.requires.within in (
      λ t. on_second c.args.body.now.program.now.open_next.items c.args.body.now.places.now c.args.gone.now.found.items c.args.place c.index-node.result.now (omega arith) c.index-node.ensures (c.is_step_on-2.ensures.0 t),
      λ f. c.is_step_on-2.ensures.1 (on_back c.args.body.now.program.now.open_next.items c.args.body.now.places.now c.args.gone.now.found.items c.args.place c.index-node.result.now (omega arith) c.index-node.ensures (λ o. false≢true (c.if-is_step_on.ensures.1 o)) f),
    )

use Rattle.std.proofs.Common.{◌≡◌, ◌<◌, ◌∙◌, refl, sym, ap, subst, length, None}
use Rattle.std.specs.Prelude.{slice_index, ◌==◌}
use Rattle.loop_data.specs.LoopCode.{instr_among}
use Rattle.loop_data.specs.Lookups.{use_of}
use Rattle.turn_copies.specs.Copies.{arrive, in_order}
use Rattle.outliner.specs.Sizes.{loop_code}
use Rattle.outliner.proofs.Copied.{slots_low, if_ok_as, copy_words_at, no_copy}
use Rattle.outliner.proofs.Spread.{room, near_of, ends_of, small_of, end_by}
use Rattle.outliner.proofs.bodies.push_copy_of.Goals as goal

pub place_at-here-requires : goal.place_at-here-requires
place_at-here-requires c =
    (room c.args.level.now (loop_code c.args.graph.now c.args.cells.now) _ c.args.places.now c.requires.places.are, c.requires.copied.ordered)

pub arrival-to-requires : goal.arrival-to-requires
arrival-to-requires c =
    (room c.args.level.now (loop_code c.args.graph.now c.args.cells.now) _ c.args.places.now c.requires.places.are, c.requires.copied.ordered)

pub bounds-places-body : goal.bounds-places-body
bounds-places-body c =
    subst (λ q. length q < length c.args.places.now) (sym c.as_slice-body.ensures) (room c.args.level.now (loop_code c.args.graph.now c.args.cells.now) _ c.args.places.now c.requires.places.are)

pub push_copy-requires-clause-slot : goal.push_copy-requires-clause-slot
push_copy-requires-clause-slot c =
    let at = slice_index c.as_slice-body.result.now c.args.k in
    slots_low c.args.cells.now c.requires.copied.cells _ at (c.use_at-uses.ensures ∙ ap (λ q. use_of q at) c.as_slice.ensures.value)

pub push_copy-requires-clause-small : goal.push_copy-requires-clause-small
push_copy-requires-clause-small c =
    let r = c.requires in
    small_of c.args.level.now (loop_code c.args.graph.now c.args.cells.now) _ _ _ r.copied.few r.places.small (c.place_at-here.ensures c.args.graph.now c.args.cells.now _ r.places.are)

pub push_copy-requires-clause-near : goal.push_copy-requires-clause-near
push_copy-requires-clause-near c =
    let r = c.requires in
    near_of c.args.level.now (loop_code c.args.graph.now c.args.cells.now) _ _ _ _ _ r.copied.few (c.place_at-here.ensures c.args.graph.now c.args.cells.now _ r.places.are) (c.arrival-to.ensures c.args.graph.now c.args.cells.now _ r.places.are)

pub push_copy-requires-clause-end : goal.push_copy-requires-clause-end
push_copy-requires-clause-end c =
    let r = c.requires in
    ends_of c.args.level.now (loop_code c.args.graph.now c.args.cells.now) _ _ _ _ r.copied.few (c.place_at-here.ensures c.args.graph.now c.args.cells.now _ r.places.are) (end_by c.args.level.now (loop_code c.args.graph.now c.args.cells.now) _ c.args.places.now c.as_slice-body.result.now r.places.are c.as_slice-body.ensures)

pub returns-in-Some : goal.returns-in-Some
returns-in-Some c =
    let r = c.requires in
    let l = c.args.level.now in
    let G = c.args.graph.now in
    let C = c.args.cells.now in
    let B = loop_code G C in
    let p = slice_index c.args.places.now 0 in
    let s = c.as_slice-body.ensures in
    let at = slice_index c.as_slice-body.result.now c.args.k in
    let uses = c.use_at-uses.result in
    let to = c.arrival-to.ensures G C p r.places.are ∙ ap (arrive l (in_order l B p)) (c.target_of.ensures uses) in
    if_ok_as c.push_copy.result (copy_words_at _ _ l B p at (slice_index l.body c.args.k) c.place_at-here.result c.arrival-to.result (slice_index c.args.places.now (length c.as_slice-body.result.now)) (at == l.exit) uses c.in-Some.i (ap (λ q. slice_index q c.args.k) s)
    (sym c.instr_of.ensures.value ∙ c.in-Some.is) refl (c.use_at-uses.ensures ∙ ap (λ q. use_of q at) c.as_slice.ensures.value) (c.place_at-here.ensures G C p r.places.are) to (end_by l B p c.args.places.now c.as_slice-body.result.now r.places.are s)) c.push_copy.ensures

pub returns-in-None : goal.returns-in-None
returns-in-None c =
    let l = c.args.level.now in
    let G = c.args.graph.now in
    let s = c.as_slice-body.ensures in
    no_copy _ l (loop_code G c.args.cells.now) (slice_index c.args.places.now 0) (slice_index l.body c.args.k)
    (subst (λ q. instr_among G.words (slice_index q c.args.k) ≡ None) s (sym c.instr_of.ensures.value ∙ c.in-None.is))

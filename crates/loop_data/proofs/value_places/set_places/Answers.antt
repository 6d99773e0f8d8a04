use Rattle.std.proofs.Common.{◌≡◌, ◌∙◌, ◌<◌, List, ℕ, map, length, get_or, sym, ap, subst, arith}
use Rattle.std.proofs.lemmas.List.{get_or_default}
use Rattle.loop_data.specs.declared.values.Values.{Values}
use Rattle.loop_data.specs.Lookups.{cell_map}
use Rattle.loop_data.specs.LoopCode.{code_of}
use Rattle.loop_data.specs.ValueStates.{IsSetAt}
use Rattle.loop_data.proofs.FlowEdges.{listed_in}
use Rattle.loop_data.proofs.ValuePlaces.{places_more, ats_kept, place_fits, sources_fit, some_fits, rows_fit, facts_in_end, few_of}
use Rattle.loop_data.proofs.value_places.set_places.Goals as goal

pub set_place-requires-clause-sources : goal.set_place-requires-clause-sources
set_place-requires-clause-sources c =
    let l = get_or c.args.levels.now c.args.level c.index-levels-level.result in
    let e = get_or_default c.args.levels.now c.args.level l c.index-levels-level.result c.requires.within in
    let among = listed_in c.args.levels.now c.args.level l c.requires.within e in
    sources_fit c.args.graph.now (cell_map c.args.cells.now) c.args.levels.now c.requires.nest l among c.args.flow.now (c.requires.flow l e) c.loop-p.points.items (c.loop-p.invariant.0 ∙ c.requires.words l e) (get_or c.as_slice-p-items.result.now c.loop-p.p-index 0)

pub set_place-requires-clause-some : goal.set_place-requires-clause-some
set_place-requires-clause-some c =
    let l = get_or c.args.levels.now c.args.level c.index-levels-level.result in
    let e = get_or_default c.args.levels.now c.args.level l c.index-levels-level.result c.requires.within in
    let among = listed_in c.args.levels.now c.args.level l c.requires.within e in
    let i = c.loop-p.p-index in
    let o = c.as_slice-p-items.ensures.value in
    let ats = c.loop-p.invariant.0 ∙ c.requires.words l e in
    let fits = place_fits c.args.graph.now (cell_map c.args.cells.now) c.args.levels.now c.requires.nest l among c.args.flow.now (c.requires.flow l e) c.loop-p.points.items ats i (subst (λ (xs : List ℕ). i < length xs) o c.loop-p-test.true) in
    some_fits c.args.graph.now (cell_map c.args.cells.now) c.args.levels.now c.requires.nest l among c.args.flow.now (c.requires.flow l e) c.loop-p.points.items ats (get_or c.as_slice-p-items.result.now i 0) (subst (λ (xs : List ℕ). get_or xs i 0 < length l.body) (sym o) fits)

pub loop-p-preserved : goal.loop-p-preserved
loop-p-preserved c =
    let l = get_or c.args.levels.now c.args.level c.index-levels-level.result in
    let e = get_or_default c.args.levels.now c.args.level l c.index-levels-level.result c.requires.within in
    let among = listed_in c.args.levels.now c.args.level l c.requires.within e in
    let i = c.loop-p.p-index in
    let o = c.as_slice-p-items.ensures.value in
    let old = c.loop-p.points.items in
    let new = c.set_place.new.points.items in
    let p = get_or c.as_slice-p-items.result.now i 0 in
    let s = c.set_place.ensures in
    let ats = c.loop-p.invariant.0 ∙ c.requires.words l e in
    let flow = c.requires.flow l e in
    let B = code_of c.args.graph.now (cell_map c.args.cells.now) in
    let set_at = subst (λ (xs : List ℕ). IsSetAt B c.args.levels.now l.header c.args.flow.now (get_or xs i 0) old new) o s in (
      ap (map (λ (v : Values). v.at)) s.is ∙ ats_kept old p s.state ∙ c.loop-p.invariant.0,
      places_more B c.args.levels.now l.header c.args.flow.now c.args.flow.now.order.items old new i (subst (λ (xs : List ℕ). i < length xs) o c.loop-p-test.true) flow.order.order
          (rows_fit c.args.graph.now (cell_map c.args.cells.now) c.args.levels.now c.requires.nest l among c.args.flow.now flow old ats) c.loop-p.invariant.1 set_at,
    )

pub returns : goal.returns
returns c =
    let l = get_or c.args.levels.now c.args.level c.index-levels-level.result in
    let e = get_or_default c.args.levels.now c.args.level l c.index-levels-level.result c.requires.within in
    let o = c.as_slice-p-items.ensures.value in
    let last : c.loop-p.p-index ≡ length c.as_slice-p-items.result.now = omega arith in
    facts_in_end c.args.graph.now (cell_map c.args.cells.now) (few_of c.args.cells.now c.requires.cells) c.args.levels.now c.requires.nest c.args.level c.requires.within l e c.args.flow.now (c.requires.flow l e) c.loop-p.points.items (c.loop-p.invariant.0 ∙ c.requires.words l e) c.loop-p.p-index (last ∙ ap length o) c.loop-p.invariant.1

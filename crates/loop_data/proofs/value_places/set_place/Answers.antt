use Rattle.std.proofs.Common.{◌≡◌, ◌∙◌, ◌↔◌, ◌<◌, ℕ, List, None, Some, if◌then◌else◌, get_or, set, length, ap, sym, subst}
use Rattle.std.specs.List.{Contains}
use Rattle.std.specs.declared.vec.Vec.{Vec}
use Rattle.std.specs.declared.alloc.Global.{Global}
use Rattle.std.proofs.lemmas.List.{get_or_default}
use Rattle.loop_data.specs.declared.values.Values.{Values}
use Rattle.loop_data.specs.Facts.{Fact}
use Rattle.loop_data.specs.Flows.{rows, row_at}
use Rattle.loop_data.specs.LoopCode.{code_of}
use Rattle.loop_data.specs.Lookups.{cell_map, fact_in}
use Rattle.loop_data.specs.ValueStates.{nothing_known, values_at, past, lost_by}
use Rattle.loop_data.proofs.ValueFills.{inner_is}
use Rattle.loop_data.proofs.value_places.set_place.Goals as goal

pub set_met-requires-clause-within : goal.set_met-requires-clause-within
set_met-requires-clause-within c k d l =
    let xs = c.row-sources.result.now in
    let e = c.row-sources.ensures ∙ ap (λ (vs : List (Vec ℕ Global)). row_at (rows vs) c.args.p) c.as_slice.ensures.value in
    let among = subst (λ (ys : List ℕ). Contains ys (get_or xs k d)) e (k, l, sym (get_or_default xs k d (get_or xs k d) l)) in
    subst (λ (ps : List Values). get_or xs k d < length ps) (sym c.as_slice-2.ensures.value) (c.requires.sources (get_or xs k d) among)

pub returns : goal.returns
returns c =
    let B = code_of c.args.graph.now (cell_map c.args.cells.now) in
    let levels = c.args.levels.now in
    let flow = c.args.flow.now in
    let points = c.args.points.now.items in
    let p = c.args.p in
    let state = c.forget_loops.new.of in
    let met = c.set_met.new.of in
    let row = row_at (rows flow.sources.items) p in
    let at = ap (λ (v : Values). v.at) (c.index.ensures ∙ get_or_default points p _ nothing_known c.requires.within) in
    let e = c.row-sources.ensures ∙ ap (λ (vs : List (Vec ℕ Global)). row_at (rows vs) p) c.as_slice.ensures.value in
    let here = ap (λ (v : Values). set points p (record { at = v.at; of = state })) (c.index_mut-2.ensures.value ∙ get_or_default points p _ nothing_known c.requires.within) in
    record {
      state = state;
      right = record {
        first = λ i r l. absurd (c.if-v-header.false (at ∙ i));
        other = λ ne r l.
            inner_is (lost_by B levels (values_at points p).at r) flow points row r (fact_in met r) (fact_in state r)
            (c.forget_loops.ensures r l ∙ ap (λ (v : ℕ). if lost_by B levels v r then None else fact_in met r) at)
            (subst (λ (ks : List ℕ). (x : Fact) → (fact_in met r ≡ Some x) ↔ ((k : ℕ) → Contains ks k → past flow points k r ≡ Some x)) e
            (subst (λ (ps : List Values). (x : Fact) → (fact_in met r ≡ Some x) ↔ ((k : ℕ) → Contains c.row-sources.result.now k → past flow ps k r ≡ Some x)) c.as_slice-2.ensures.value (c.set_met.ensures r l)));
      };
      is = here;
    }

use Rattle.std.proofs.Common.{◌≡◌, ℕ, List, [], ◌∷◌, length, ap, sym, subst, arith}
use Rattle.std.proofs.lemmas.List.{length-map}
use Rattle.std.proofs.lemmas.Result.{IfOk-weaker, on_ok_weaker}
use Rattle.std.specs.declared.vec.Vec.{Vec}
use Rattle.std.specs.declared.alloc.Global.{Global}
use Rattle.loop_shapes.proofs.Rows.{alone}
use Rattle.loop_shapes.specs.Search.{ArePairs, HasSearched}
use Rattle.loop_shapes.specs.PlaceSet.{IsPlaceSet}
use Rattle.loop_shapes.specs.Places.{count_of}
use Rattle.loop_shapes.specs.Net.{HasPart, graph_of}
use Rattle.loop_shapes.proofs.Parts.{within, has_part}
use Rattle.loop_shapes.proofs.closed.part.Goals as goal
use Rattle.loop_data.specs.Flows.{AreRowsWithin, items_of, rows}

pub search-requires-clause-within : goal.search-requires-clause-within
search-requires-clause-within c =
    let n = c.requires.net in
    subst (λ (vs : List (Vec ℕ Global)). AreRowsWithin (rows vs)) (sym c.as_slice.ensures.value) (within (graph_of c.args.net.now) n.ordered (rows c.args.net.now.before.items) n.sources)

pub search-requires-clause-pairs : goal.search-requires-clause-pairs
search-requires-clause-pairs c =
    let n = c.requires.net in
    subst (λ (vs : List (Vec ℕ Global)). ArePairs (rows vs) c.as_slice-2.result.now) (sym c.as_slice.ensures.value) (subst (ArePairs (rows c.args.net.now.before.items)) (sym c.as_slice-2.ensures.value) n.pairs)

pub search-requires-clause-sources : goal.search-requires-clause-sources
search-requires-clause-sources c x m =
    let e = alone c.args.source x m in
    let l = c.requires.source in
    let n = c.requires.net.sources.count in
    let k = length-map c.as_slice.result.now items_of in
    let f = ap (λ (vs : List (Vec ℕ Global)). length (rows vs)) c.as_slice.ensures.value in
    omega arith

pub returns-clause-part : goal.returns-clause-part
returns-clause-part c =
    let n = c.requires.net in
    let G = graph_of c.args.net.now in
    let h = c.args.header in
    let u = c.args.source in
    let found = c.search.new.self.found.items in
    IfOk-weaker c.search.result (λ small. HasSearched small (rows c.as_slice.result.now) h (u ∷ []) found) (λ small. HasPart small G h u found) (λ small a. has_part G n.ordered (rows c.args.net.now.before.items) n.sources h u c.requires.header c.requires.source found small (subst (λ (vs : List (Vec ℕ Global)). HasSearched small (rows vs) h (u ∷ []) found) c.as_slice.ensures.value a)) c.search.ensures.places

pub returns-clause-set : goal.returns-clause-set
returns-clause-set c =
    let n = c.requires.net.sources.count in
    let k = length-map c.as_slice.result.now items_of in
    let f = ap (λ (vs : List (Vec ℕ Global)). length (rows vs)) c.as_slice.ensures.value in
    let e : length c.as_slice.result.now ≡ count_of (graph_of c.args.net.now) = omega arith in
    on_ok_weaker c.search.result (subst (λ (m : ℕ). IsPlaceSet m c.search.new.self) e) c.search.ensures.set

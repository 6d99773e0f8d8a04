use Rattle.std.proofs.Common.{◌∙◌, ℕ, List, get_or, length, arith, ap, sym, subst}
use Rattle.loop_data.specs.Flows.{rows, IsWholeOrder}
use Rattle.loop_data.specs.Lookups.{cell_map}
use Rattle.loop_data.specs.LoopCode.{code_of}
use Rattle.loop_data.proofs.ValuePlaces.{few_of}
use Rattle.register_equations.specs.States.{IsFormPlace}
use Rattle.register_equations.proofs.Ending.{set_ats, counted, place_more, row_within, row_some, row_apart, all_solved}
use Rattle.register_equations.proofs.passes.set_places.Goals as goal

pub set_place-requires-clause-sources : goal.set_place-requires-clause-sources
set_place-requires-clause-sources c =
    row_within c.args.graph.now (cell_map c.args.cells.now) c.args.levels.now c.args.root.now.body c.args.flow.now c.loop-i.points (get_or c.args.order.now c.loop-i.i 0) c.requires.flow (counted c.loop-i.points c.args.root.now.body (c.loop-i.invariant.0 ∙ c.requires.words))

pub set_place-requires-clause-some : goal.set_place-requires-clause-some
set_place-requires-clause-some c =
    let w = c.loop-i.invariant.0 ∙ c.requires.words in
    let n = counted c.loop-i.points c.args.root.now.body w in
    let o = subst (λ (xs : List ℕ). IsWholeOrder (rows c.args.flow.now.sources.items) xs) (sym c.requires.order) c.requires.flow.order in
    let k = o.order.within c.loop-i.i c.loop-i-test.true in
    let m = c.requires.flow.sources.count in
    row_some c.args.graph.now (cell_map c.args.cells.now) c.args.levels.now c.requires.nest c.args.root.now c.args.inner.now c.requires.split c.args.flow.now c.loop-i.points (get_or c.args.order.now c.loop-i.i 0) c.requires.flow w (omega arith)

pub set_place-requires-clause-apart : goal.set_place-requires-clause-apart
set_place-requires-clause-apart c =
    let o = subst (λ (xs : List ℕ). IsWholeOrder (rows c.args.flow.now.sources.items) xs) (sym c.requires.order) c.requires.flow.order in
    row_apart c.args.flow.now c.args.order.now c.loop-i.i o.order c.loop-i-test.true

pub loop-i-preserved : goal.loop-i-preserved
loop-i-preserved c =
    let w = c.loop-i.invariant.0 ∙ c.requires.words in
    let n = counted c.loop-i.points c.args.root.now.body w in
    let o = subst (λ (xs : List ℕ). IsWholeOrder (rows c.args.flow.now.sources.items) xs) (sym c.requires.order) c.requires.flow.order in
    let m = c.requires.flow.sources.count in
    let B = code_of c.args.graph.now (cell_map c.args.cells.now) in (
      set_ats B c.args.levels.now c.args.inner.now c.args.root.now c.args.classes.now c.args.flow.now _ _ _ c.in_ok-set_place.ensures ∙ c.loop-i.invariant.0,
      place_more B c.args.levels.now c.args.inner.now c.args.root.now c.args.classes.now c.args.flow.now c.args.order.now c.loop-i.i c.loop-i.points c.set_place.new.points o.order (m ∙ sym n) c.loop-i-test.true c.in_ok-set_place.ensures c.loop-i.invariant.1,
    )

pub returns : goal.returns
returns c =
    let w = c.loop-i.invariant.0 ∙ c.requires.words in
    let B = code_of c.args.graph.now (cell_map c.args.cells.now) in
    let n = ap (λ (xs : List ℕ). length xs) c.requires.order in
    all_solved c.args.graph.now (cell_map c.args.cells.now) (few_of c.args.cells.now c.requires.cells) c.args.levels.now c.requires.nest c.args.root.now c.args.inner.now c.requires.split c.args.classes.now c.args.flow.now c.loop-i.points c.requires.flow w
    (λ j l. let t = c.loop-i-test.false in
    subst (λ (xs : List ℕ). IsFormPlace B c.args.levels.now c.args.inner.now c.args.root.now c.args.classes.now c.args.flow.now c.loop-i.points (get_or xs j 0)) c.requires.order (c.loop-i.invariant.1 j (omega arith)))

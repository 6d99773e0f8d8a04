use Rattle.std.proofs.Common.{List, ℕ, [], take, length, get_or, ◌∙◌, ap, sym, subst, ◌≤◌, true, false}
use Rattle.std.specs.List.{Contains}
use Rattle.std.specs.declared.vec.Vec.{Vec}
use Rattle.std.specs.declared.alloc.Global.{Global}
use Rattle.std.proofs.lemmas.List.Elements.{Contains-get_or}
use Rattle.loop_shapes.specs.Around.{AreAroundSoFar}
use Rattle.loop_shapes.specs.Net.{AreClosedOf, graph_of}
use Rattle.loop_shapes.proofs.ClosedRows.{closed_none, closed_more, closed_all}
use Rattle.loop_shapes.proofs.Rounds.{rounds_next}
use Rattle.loop_shapes.proofs.closed.closed_row.Goals as goal
use Rattle.loop_data.specs.Flows.{row_at, rows}

pub add_closed-requires-clause-source : goal.add_closed-requires-clause-source
add_closed-requires-clause-source c =
    let s = c.requires.net.sources in
    let same = c.row-source-items.ensures ∙ ap (λ (vs : List (Vec ℕ Global)). row_at (rows vs) c.args.header) c.as_slice.ensures.value in
    (s.each c.args.header _ (subst (λ (xs : List ℕ). Contains xs (get_or c.row-source-items.result.now c.loop-source.source-index 0)) same (Contains-get_or c.row-source-items.result.now c.loop-source.source-index 0 c.loop-source-test.true))).0

pub add_closed-requires-clause-edge : goal.add_closed-requires-clause-edge
add_closed-requires-clause-edge c =
    let s = c.requires.net.sources in
    let same = c.row-source-items.ensures ∙ ap (λ (vs : List (Vec ℕ Global)). row_at (rows vs) c.args.header) c.as_slice.ensures.value in
    (s.each c.args.header _ (subst (λ (xs : List ℕ). Contains xs (get_or c.row-source-items.result.now c.loop-source.source-index 0)) same (Contains-get_or c.row-source-items.result.now c.loop-source.source-index 0 c.loop-source-test.true))).1

pub loop-source-init : goal.loop-source-init
loop-source-init c = (
  subst (λ (xs : List ℕ). AreClosedOf (graph_of c.args.net.now) c.args.header [] xs) (sym c.new-row.ensures.items) (closed_none (graph_of c.args.net.now) c.args.header),
  subst (λ (xs : List ℕ). AreAroundSoFar (graph_of c.args.net.now) c.args.header xs c.args.around.now) (sym c.new-row.ensures.items) c.requires.around,
)

pub loop-source-preserved : goal.loop-source-preserved
loop-source-preserved c = (closed_more (graph_of c.args.net.now) c.args.header c.loop-source.source-index c.row-source-items.result.now c.loop-source.row.items c.add_closed.new.row.items c.loop-source-test.true c.loop-source.invariant.0 c.in_ok-add_closed.ensures.tried, c.in_ok-add_closed.ensures.around)

pub returns-clause-closed : goal.returns-clause-closed
returns-clause-closed c =
    let same = c.row-source-items.ensures ∙ ap (λ (vs : List (Vec ℕ Global)). row_at (rows vs) c.args.header) c.as_slice.ensures.value in
    closed_all (graph_of c.args.net.now) (rows c.args.net.now.before.items) c.requires.net.sources c.args.header c.requires.header c.loop-source.source-index c.loop-source.row.items (subst (λ (xs : List ℕ). length xs ≤ c.loop-source.source-index) same c.loop-source-test.false) (subst (λ (xs : List ℕ). AreClosedOf (graph_of c.args.net.now) c.args.header (take c.loop-source.source-index xs) c.loop-source.row.items) same c.loop-source.invariant.0)

pub returns-clause-around : goal.returns-clause-around
returns-clause-around c =
    let G = graph_of c.args.net.now in
    let same = c.row-source-items.ensures ∙ ap (λ (vs : List (Vec ℕ Global)). row_at (rows vs) c.args.header) c.as_slice.ensures.value in
    let closed = closed_all G (rows c.args.net.now.before.items) c.requires.net.sources c.args.header c.requires.header c.loop-source.source-index c.loop-source.row.items (subst (λ (xs : List ℕ). length xs ≤ c.loop-source.source-index) same c.loop-source-test.false) (subst (λ (xs : List ℕ). AreClosedOf G c.args.header (take c.loop-source.source-index xs) c.loop-source.row.items) same c.loop-source.invariant.0) in
    let a = c.loop-source.invariant.1 in
    record { innermost = rounds_next G c.requires.net.from_starts c.requires.net.ordered true c.args.header c.loop-source.row.items c.loop-source.around.innermost.items closed a.innermost; outermost = rounds_next G c.requires.net.from_starts c.requires.net.ordered false c.args.header c.loop-source.row.items c.loop-source.around.outermost.items closed a.outermost }

use Rattle.std.proofs.Common.{◌∙◌, ◌==◌, ◌&&◌, ◌||◌, None, Bool, Option, if◌then◌else◌, take, refl, ap}
use Rattle.loop_data.specs.Facts.{Fact}
use Rattle.loop_data.specs.LoopCode.{any_writes, code_of}
use Rattle.loop_data.specs.Lookups.{cell_map, fact_in}
use Rattle.loop_data.specs.ValueStates.{lost_by}
use Rattle.loop_data.proofs.ValueFills.{lost_more, lost_either}
use Rattle.loop_data.proofs.value_places.forget_loops.Goals as goal

pub loop-level-preserved : goal.loop-level-preserved
loop-level-preserved c r l =
    let B = code_of c.args.graph.now (cell_map c.args.cells.now) in
    let i = c.loop-level.level-index in
    let m = c.level-item.result in
    let v = c.args.v in
    let first = fact_in c.args.of.now r in
    let here = (m.header == v) && any_writes B m.body r in
    let old = lost_by B (take i c.args.levels.now) v r in
    c.forget_loop.ensures r l ∙ ap (λ (o : Option Fact). if here then None else o) (c.loop-level.invariant r l) ∙ lost_either old here first
    ∙ ap (λ (b : Bool). if b then None else first) (lost_more B c.args.levels.now i v r m old (old || here) c.loop-level-test.true c.level-item.is refl refl)

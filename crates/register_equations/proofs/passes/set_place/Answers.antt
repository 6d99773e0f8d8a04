use Rattle.std.proofs.Common.{◌∙◌, ℕ, List, ap}
use Rattle.std.specs.declared.vec.Vec.{Vec}
use Rattle.std.specs.declared.alloc.Global.{Global}
use Rattle.std.proofs.lemmas.Result.{on_ok_weaker}
use Rattle.loop_data.specs.Flows.{rows, row_at}
use Rattle.loop_data.specs.LoopCode.{code_of}
use Rattle.loop_data.specs.Lookups.{cell_map}
use Rattle.register_equations.proofs.Setting.{root_set, inner_set, met_set}
use Rattle.register_equations.proofs.passes.set_place.Goals as goal

pub returns-then-v-root : goal.returns-then-v-root
returns-then-v-root c =
    let B = code_of c.args.graph.now (cell_map c.args.cells.now) in
    on_ok_weaker c.set_root.result
    (λ s. root_set B c.args.levels.now c.args.inner.now c.args.root.now c.args.classes.now c.args.flow.now c.args.p c.at-v.result c.args.points.now c.set_root.new.points c.at-v.ensures.address c.if-v-root.true s)
    c.set_root.ensures

pub returns-in-Some : goal.returns-in-Some
returns-in-Some c =
    let B = code_of c.args.graph.now (cell_map c.args.cells.now) in
    let e = c.row-sources.ensures ∙ ap (λ (vs : List (Vec ℕ Global)). row_at (rows vs) c.args.p) c.as_slice.ensures.value in
    on_ok_weaker c.set_inner.result
    (λ s. inner_set B c.args.levels.now c.args.inner.now c.args.root.now c.args.classes.now c.args.flow.now c.args.p c.at-v.result _ _ c.args.points.now c.set_inner.new.points c.at-v.ensures.address c.if-v-root.false c.in-Some.ensures.found.0 c.in-Some.ensures.found.1 e s)
    c.set_inner.ensures

pub returns-in-None : goal.returns-in-None
returns-in-None c =
    let B = code_of c.args.graph.now (cell_map c.args.cells.now) in
    let e = c.row-sources.ensures ∙ ap (λ (vs : List (Vec ℕ Global)). row_at (rows vs) c.args.p) c.as_slice.ensures.value in
    on_ok_weaker c.set_met.result
    (λ s. met_set B c.args.levels.now c.args.inner.now c.args.root.now c.args.classes.now c.args.flow.now c.args.p c.at-v.result _ c.args.points.now c.set_met.new.points c.at-v.ensures.address c.if-v-root.false c.in-None.ensures.none e s)
    c.set_met.ensures

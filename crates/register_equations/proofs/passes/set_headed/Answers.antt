use Rattle.std.proofs.Common.{◌≡◌, ◌∙◌, ℕ, Option}
use Rattle.linear_forms.specs.Forms.{LinearForm}
use Rattle.loop_data.specs.LoopCode.{code_of}
use Rattle.loop_data.specs.Lookups.{cell_map}
use Rattle.loop_data.specs.Points.{form_in}
use Rattle.register_equations.specs.States.{IsHeaderForm}
use Rattle.register_equations.proofs.Coming.{header_record}
use Rattle.register_equations.proofs.Setting.{one_set, still}
use Rattle.register_equations.proofs.passes.set_headed.Goals as goal

pub loop-r-preserved : goal.loop-r-preserved
loop-r-preserved c =
    let B = code_of c.args.graph.now (cell_map c.args.cells.now) in
    let r = c.loop-r.r in
    let P = λ (q : ℕ) (o : Option LinearForm). IsHeaderForm B c.args.levels.now c.args.classes.now c.args.level.now (λ x. x ≡ form_in c.args.points.now c.args.p q) q o in
    let before = c.copied-outside.ensures ∙ c.form.ensures ∙ still P r c.args.p c.args.points.now c.loop-r.points c.requires.within c.loop-r.invariant in
    let here = header_record B c.args.levels.now c.args.classes.now c.args.level.now (λ (x : Option LinearForm). x ≡ form_in c.args.points.now c.args.p r) r c.headed-form.result _ _ _ (c.written_flags-written.ensures r c.loop-r-test.true) c.as_slice.ensures before c.headed-form.ensures in
    one_set P r c.args.p c.headed-form.result c.args.points.now c.loop-r.points c.set_form.new.self c.requires.within c.loop-r-test.true c.loop-r.invariant here c.in_ok-set_form.ensures

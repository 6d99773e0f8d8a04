use Rattle.std.proofs.Common.{◌≡◌, ℕ, Option}
use Rattle.std.proofs.lemmas.Result.{on_ok_weaker}
use Rattle.linear_forms.specs.Forms.{LinearForm}
use Rattle.loop_data.specs.Equations.{entry_form}
use Rattle.loop_data.specs.LoopCode.{code_of}
use Rattle.loop_data.specs.Lookups.{cell_map}
use Rattle.register_equations.proofs.Setting.{headed_set}
use Rattle.register_equations.proofs.passes.set_root.Goals as goal

pub returns : goal.returns
returns c =
    let B = code_of c.args.graph.now (cell_map c.args.cells.now) in
    on_ok_weaker c.set_headed.result
    (λ s. headed_set B c.args.levels.now c.args.classes.now c.args.root.now (λ (r : ℕ) (o : Option LinearForm). o ≡ entry_form B r) c.args.p c.args.points.now c.set_entries.new.points c.set_headed.new.points c.requires.within c.in_ok-set_entries.ensures s)
    c.set_headed.ensures

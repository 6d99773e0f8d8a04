use Rattle.std.proofs.Common.{◌≡◌, ℕ, None, Option}
use Rattle.linear_forms.specs.Forms.{LinearForm}
use Rattle.loop_data.specs.Equations.{entry_form}
use Rattle.loop_data.specs.Lookups.{cell_map}
use Rattle.register_equations.proofs.Setting.{one_set}
use Rattle.register_equations.proofs.passes.set_entries.Goals as goal

pub loop-r-preserved : goal.loop-r-preserved
loop-r-preserved c =
    one_set (λ (r : ℕ) (o : Option LinearForm). o ≡ entry_form (record { instr = λ u. None; cells = cell_map c.args.cells.now }) r) c.loop-r.r c.args.p c.entry.result c.args.points.now c.loop-r.points c.set_form.new.self c.requires.within c.loop-r-test.true c.loop-r.invariant c.entry.ensures c.in_ok-set_form.ensures

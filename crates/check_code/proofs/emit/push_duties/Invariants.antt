use Rattle.std.proofs.Common.{ℕ, List, drop}
use Rattle.std.specs.Prelude.{flat_map}
use Rattle.linear_forms.specs.Forms.{IsForm}
use Rattle.loop_data.specs.declared.equations.Duty.{Duty}
use Rattle.stub_laws.specs.Code.{Appended}
use Rattle.check_code.specs.DutyCode.{duty_code}
use Rattle.check_code.proofs.Emitted.{UpTo}
use Rattle.check_code.proofs.emit.push_duties.Given as goal

abbrev pub invariant-loop-duty : goal.invariant-loop-duty
invariant-loop-duty l = record {
  words : (fin : List ℕ) → Appended l.code.items fin (flat_map duty_code (drop l.duty-index l.duties)) → Appended l.initial.code.items fin (flat_map duty_code l.duties);
  forms : UpTo (λ (d : Duty). IsForm d.form) l.duty-index l.duties;
}

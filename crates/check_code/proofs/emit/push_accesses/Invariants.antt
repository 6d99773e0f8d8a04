use Rattle.std.proofs.Common.{ℕ, List, drop}
use Rattle.std.specs.Prelude.{flat_map}
use Rattle.linear_forms.specs.Forms.{IsForm}
use Rattle.loop_data.specs.declared.accesses.Access.{Access}
use Rattle.stub_laws.specs.Code.{Appended}
use Rattle.check_code.specs.AccessCode.{access_code}
use Rattle.check_code.proofs.Emitted.{UpTo}
use Rattle.check_code.proofs.emit.push_accesses.Given as goal

abbrev pub invariant-loop-access : goal.invariant-loop-access
invariant-loop-access l = record {
  words : (fin : List ℕ) → Appended l.code.items fin (flat_map (access_code l.areas) (drop l.access-index l.accesses)) → Appended l.initial.code.items fin (flat_map (access_code l.areas) l.accesses);
  forms : UpTo (λ (a : Access). IsForm a.form) l.access-index l.accesses;
}

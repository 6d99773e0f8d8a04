use Rattle.std.proofs.Common.{ℕ, ◌+◌, List, drop}
use Rattle.linear_forms.specs.Forms.{IsForm}
use Rattle.loop_data.specs.declared.trips.Trip.{Trip}
use Rattle.stub_laws.specs.Code.{Appended}
use Rattle.check_code.specs.CheckCode.{inners_code}
use Rattle.check_code.proofs.Emitted.{UpTo}
use Rattle.check_code.proofs.emit.push_inners.Given as goal

abbrev pub invariant-loop-k : goal.invariant-loop-k
invariant-loop-k l = record {
  words : (fin : List ℕ) → Appended l.code.items fin (inners_code (24 + l.k) (drop l.k l.trips)) → Appended l.initial.code.items fin (inners_code 24 l.trips);
  starts : UpTo (λ (t : Trip). IsForm t.start) l.k l.trips;
  bounds : UpTo (λ (t : Trip). IsForm t.bound) l.k l.trips;
}

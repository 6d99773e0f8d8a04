-- What the tests of a check ask of its trips, duties and accesses.
use Rattle.std.proofs.Common.{◌≡◌, ℕ, zero, suc, refl, ap, ◌∙◌, true, length}
use Rattle.std.specs.List.{All}
use Rattle.linear_forms.specs.Forms.{LinearForm, IsForm, is_small, stride}
use Rattle.loop_data.specs.declared.accesses.Access.{Access}
use Rattle.loop_data.specs.declared.equations.Duty.{Duty}
use Rattle.loop_data.specs.declared.trips.Trip.{Trip}
use Rattle.alias_checks.specs.declared.lists.Check.{Check}
use Rattle.check_code.specs.TurnLaws.{IsTrip}
use Rattle.check_code.specs.Checkable.{IsOver, AreAmong, IsTripOver, IsCheckable, KeepsLimits}

pub record FormFits (n : ℕ) (f : LinearForm) : Type 0 where
  pub form : IsForm f
  pub located : IsOver n f

pub record TripFits (n : ℕ) (t : Trip) : Type 0 where
  pub trip : IsTrip t
  pub start : FormFits n t.start
  pub bound : FormFits n t.bound

pub record DutyFits (n levels : ℕ) (d : Duty) : Type 0 where
  pub form : FormFits n d.form
  pub around : AreAmong levels d.around

pub record AccessFits (n levels : ℕ) (a : Access) : Type 0 where
  pub form : FormFits n a.form
  pub around : AreAmong levels a.around

small_stride : (f : LinearForm) (depth : ℕ) → IsForm f → is_small (stride f depth) ≡ true
small_stride f zero h = h.bounded.first
small_stride f (suc zero) h = h.bounded.second
small_stride f (suc (suc zero)) h = h.bounded.third
small_stride f (suc (suc (suc k))) h = refl

trip_fits : (n : ℕ) (t : Trip) → IsTripOver n t → IsForm t.start → IsForm t.bound → TripFits n t
trip_fits n t h a b = record {
  trip = record {
    start = a;
    bound = b;
    small = ap is_small h.gains ∙ small_stride t.start h.depth a;
    toward = h.toward;
    differs =
        h.differs;
  };
  start = record { form = a; located = h.start };
  bound = record { form = b; located = h.bound };
}

pub trips_fit : (c : Check) → IsCheckable c → KeepsLimits c → All (TripFits (length c.cells.list.items)) c.trips
trips_fit c ok forms k d h = trip_fits (length c.cells.list.items) _ (ok.trips k d h) (forms.starts k d h) (forms.bounds k d h)

pub duties_fit : (c : Check) → IsCheckable c → KeepsLimits c → All (DutyFits (length c.cells.list.items) (length c.trips)) c.duties
duties_fit c ok forms k d h = let o = ok.duties k d h in record
    { form = record { form = forms.duties k d h; located = o.form }; around = o.around }

pub accesses_fit : (c : Check) → IsCheckable c → KeepsLimits c → All (AccessFits (length c.cells.list.items) (length c.trips))
    c.accesses.list.items
accesses_fit c ok forms k d h = let o = ok.accesses k d h in record
    { form = record { form = forms.accesses k d h; located = o.form }; around = o.around }

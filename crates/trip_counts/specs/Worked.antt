-- Trips and their numbers, worked out by hand: a counter in x10 and a bound in x11.
use Rattle.std.specs.Prelude.{ℕ, ◌≡◌, Bool, true, [], ◌∷◌, ℤ, pos, negsuc, Option, Some}
use Rattle.rv64_decode.specs.declared.instr.BranchOp.{BranchOp}
use Rattle.linear_forms.specs.Forms.{LinearForm, moving, pure}
use Rattle.loop_data.specs.declared.trips.Relation.{Relation}
use Rattle.loop_data.specs.declared.trips.Relation.TheVariants.{Differ}
use Rattle.loop_data.specs.declared.trips.Trip.{Trip}
use Rattle.loop_data.specs.Trips.{stay, is_signed, trip_read}

abbrev pub counter : ℤ → LinearForm
counter step = moving 10 step

abbrev pub bound : LinearForm
bound = moving 11 (pos 0)

-- the counter of a loop inside, which the root moves on too
abbrev pub inner_counter : ℤ → ℤ → LinearForm
inner_counter step inner_step = record (moving 10 step) { second = inner_step }

-- the trip at this depth of a branch, whose taken side stays or does not
abbrev pub trip_of_branch : ℕ → BranchOp → Bool → LinearForm → LinearForm → Option Trip
trip_of_branch depth op taken_stays f g = trip_read depth (stay op taken_stays) (is_signed op) (Some f) (Some g)

-- the counter's trip toward the bound
abbrev pub IsTrip : Option Trip → Relation → Bool → LinearForm → ℤ → Type 0
IsTrip o relation signed start step =
    o ≡ Some (record { relation = relation; signed = signed; start = start; bound = bound; step = step })

-- the trip of the difference of x10 and x11, with this constant and step
abbrev pub IsTripOfDifference : Option Trip → ℤ → ℤ → Type 0
IsTripOfDifference o constant step =
    o
    ≡ Some
    (record {
      relation = Differ;
      signed = true;
      start = record {
        constant = constant;
        terms = record { loc = 10; by = pos 1 } ∷ record { loc = 11; by = negsuc 0 } ∷ [];
        first = step;
        second = pos 0;
        third = pos 0;
      };
      bound = pure (pos 0);
      step = step;
    })

-- What a check that holds says of the values of forms in each turn.
use Rattle.std.specs.Prelude.{ℕ, ◌≡◌, ◌↔◌, ◌≤◌, ◌<◌, ◌-◌, ◌^◌, List, ℤ, pos, negsuc, ◌≤ℤ◌, ◌<ℤ◌}
use Rattle.std.specs.List.{All}
use Rattle.rv64_decode.specs.Area.{Area}
use Rattle.rv64_decode.specs.Row.{signed64}
use Rattle.linear_forms.specs.Forms.{value, IsBounded}
use Rattle.loop_data.specs.declared.accesses.Access.{Access}
use Rattle.loop_data.specs.declared.equations.Duty.{Duty}
use Rattle.dependence_tests.specs.Overlaps.{address_in, last_round}
use Rattle.alias_checks.specs.AccessTests.{last_at}
use Rattle.alias_checks.specs.Holds.{DutyHolds, AccessHolds, first_address}

-- turn numbers up to the last, by depth
pub record AreUpTo (last t : ℕ → ℕ) : Type 0 where
  pub root : t 0 ≤ last 0
  pub second : t 1 ≤ last 1
  pub third : t 2 ≤ last 2

-- a signed number of 32 bits
pub record IsShort (z : ℤ) : Type 0 where
  pub low : negsuc (2 ^ 31 - 1) ≤ℤ z
  pub high : z <ℤ pos (2 ^ 31)

-- a duty is met exactly where its form's values in all turns and passes up to the last are signed numbers of 32 bits
abbrev pub DutyLaw : Type 0
DutyLaw = (e : ℕ → ℤ) (last : List ℕ) (d : Duty) → IsBounded d.form → All (λ n. n < 2 ^ 31) last
    → DutyHolds e last d
    ↔ ((t : ℕ → ℕ) → AreUpTo (last_at d.around last) t → IsShort (signed64 (value d.form e t)))

-- the address of an access that passes its test is in each turn the first address and the strides times the turn
-- numbers, which does not wrap
abbrev pub AddressLaw : Type 0
AddressLaw = (m : List Area) (e : ℕ → ℤ) (last : List ℕ) (a : Access) → IsBounded a.form
    → All (λ n. n < 2 ^ 31) last → AccessHolds m e last a → (t : ℕ → ℕ) → AreUpTo (last_round a last) t
    → pos (value a.form e t) ≡ address_in a.form (pos (first_address e a)) t

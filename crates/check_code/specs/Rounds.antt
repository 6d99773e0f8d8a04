-- What the least and the greatest values of forms are worked out from: slot 23 has the last turn number of the root,
-- and slots 24 to 26 have the last passes of the inner loops at places 1 to 3.
use Rattle.std.specs.Prelude.{ℕ, ◌≡◌, ◌+◌, ◌<◌, nat_lt, ◌&&◌, if◌then◌else◌, Bool, true, List, [], ◌∷◌, slice_index, ℤ, pos}
use Rattle.linear_forms.specs.Forms.{EntryTerm, LinearForm}

-- an inner loop may stand at this place
abbrev pub is_inner : ℕ → Bool
is_inner place = nat_lt 0 place && nat_lt place 4

-- the slot of its last pass
abbrev pub pass_slot : ℕ → ℕ
pass_slot place = if is_inner place then 23 + place else 23

-- the slots of the last turn numbers of the loops at these places, by depth
abbrev pub own_slots : List ℕ → List ℕ
own_slots around = 23 ∷ pass_slot (slice_index around 1) ∷ pass_slot (slice_index around 2) ∷ []

-- the stride in the loop at a place: where there is none, it makes one pass, which moves nothing
abbrev pub own_stride : ℕ → ℤ → ℤ
own_stride place by = if is_inner place then by else pos 0

abbrev pub own_form : LinearForm → List ℕ → LinearForm
own_form f around =
    record {
      constant = f.constant;
      terms = f.terms;
      first = f.first;
      second = own_stride (slice_index around 1) f.second;
      third = own_stride (slice_index around 2) f.third;
    }

-- the last turn of the root and the last pass of each inner loop, from the locations that the slots are
abbrev pub last_from : (ℕ → ℕ) → List ℕ
last_from e = e 55 ∷ e 56 ∷ e 57 ∷ e 58 ∷ []

-- each location of the terms is known
abbrev pub AreKnown : (ℕ → Bool) → List EntryTerm → Type 0
AreKnown known [] = Unit {0}
AreKnown known (t ∷ ts) = (known t.loc ≡ true) × AreKnown known ts

-- the last pass of the loop at a place is known, if there is one
abbrev pub IsPassKnown : (ℕ → Bool) → ℕ → Type 0
IsPassKnown known place = is_inner place ≡ true → known (55 + place) ≡ true

-- all that the least and the greatest value of a form at a word are worked out from is known
pub record AreRoundsKnown (known : ℕ → Bool) (f : LinearForm) (around : List ℕ) : Type 0 where
  pub terms : AreKnown known f.terms
  pub root : known 55 ≡ true
  pub second : IsPassKnown known (slice_index around 1)
  pub third : IsPassKnown known (slice_index around 2)

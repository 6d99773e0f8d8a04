-- The views of terms and of forms give the fields back.
use Rattle.std.proofs.Common.{◌≡◌, ℕ, ◌+◌, ◌-◌, ◌≤◌, List, [], ◌∷◌, length, get_or as slice_index_or, true, false, Bool, refl, ap, arith, nat_lt, if◌then◌else◌, ℤ, pos}
use Rattle.std.proofs.lemmas.Bool.Decides.{nat_tests}
use Rattle.linear_forms.specs.declared.location.Loc.{Loc}
use Rattle.linear_forms.specs.declared.location.Loc.TheVariants.{Reg, Cell}
use Rattle.linear_forms.specs.Forms.{LinearForm}
use Rattle.linear_forms.specs.Locations.{number_of, location_of, IsLocation, terms_of, pairs_of, AreLocations, AreFormTerms}

-- a location is that of its number
pub location_back : (l : Loc) → IsLocation l → location_of (number_of l) ≡ l
location_back (Reg r) h = let e : nat_lt r 32 ≡ true = grind (arith, nat_tests) in rw e refl
location_back (Cell k) h =
    let e : nat_lt (32 + k) 32 ≡ false = grind (arith, nat_tests) in
    let f : 32 + k - 32 ≡ k = omega arith in
    rw e (ap Cell f)

-- a number is that of its location
pub number_back : (n : ℕ) → number_of (location_of n) ≡ n
number_back n = go (nat_lt n 32) refl
  where
    go : (b : Bool) → nat_lt n 32 ≡ b → number_of (if b then Reg n else Cell (n - 32)) ≡ n
    go true e = refl
    go false e = let h : 32 ≤ n = grind (arith, nat_tests) in omega arith

list_back : (ts : List (Loc × ℤ)) → AreLocations ts → pairs_of (terms_of ts) ≡ ts
list_back [] h = refl
list_back (t ∷ ts) h = rw (location_back t.0 h.0) (ap (λ xs. t ∷ xs) (list_back ts h.1))

pub pairs_back : (ts : List (Loc × ℤ)) → AreFormTerms ts → pairs_of (terms_of ts) ≡ ts
pairs_back ts h = list_back ts h.locations

-- the strides of a form as a list
abbrev pub turns_of : LinearForm → List ℤ
turns_of f = f.first ∷ f.second ∷ f.third ∷ []

-- three strides are a list of them
pub three_back : (zs : List ℤ) → length zs ≡ 3
    → slice_index_or zs 0 (pos 0) ∷ slice_index_or zs 1 (pos 0) ∷ slice_index_or zs 2 (pos 0) ∷ [] ≡ zs
three_back [] h = absurd (omega arith)
three_back (x ∷ []) h = absurd (omega arith)
three_back (x ∷ y ∷ []) h = absurd (omega arith)
three_back (x ∷ y ∷ z ∷ []) h = refl
three_back (x ∷ y ∷ z ∷ w ∷ zs) h = absurd (omega arith)

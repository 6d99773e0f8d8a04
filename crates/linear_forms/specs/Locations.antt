-- The numbers of locations, and terms over locations as terms over their numbers.
use Rattle.std.specs.Prelude.{ℕ, ◌+◌, ◌-◌, ◌<◌, ◌≤◌, nat_lt, if◌then◌else◌, List, [], ◌∷◌, map, ℤ}
use Rattle.linear_forms.specs.declared.location.Loc.{Loc}
use Rattle.linear_forms.specs.declared.location.Loc.TheVariants.{Reg, Cell}
use Rattle.linear_forms.specs.Forms.{EntryTerm, AreTerms}

-- the number of a location: a register's own, and from 32 on the cells
abbrev pub number_of : Loc → ℕ
number_of (Reg r) = r
number_of (Cell k) = 32 + k

-- the location of a number
abbrev pub location_of : ℕ → Loc
location_of n = if nat_lt n 32 then Reg n else Cell (n - 32)

-- registers are 1 to 31, and cells 0 to 15
abbrev pub IsLocation : Loc → Type 0
IsLocation (Reg r) = (1 ≤ r) × (r < 32)
IsLocation (Cell k) = k < 16

abbrev pub term_of : Loc × ℤ → EntryTerm
term_of t = record { loc = number_of t.0; by = t.1 }

abbrev pub terms_of : List (Loc × ℤ) → List EntryTerm
terms_of ts = map term_of ts

abbrev pub pair_of : EntryTerm → Loc × ℤ
pair_of t = (location_of t.loc, t.by)

abbrev pub pairs_of : List EntryTerm → List (Loc × ℤ)
pairs_of ts = map pair_of ts

abbrev pub AreLocations : List (Loc × ℤ) → Type 0
AreLocations [] = Unit {0}
AreLocations (t ∷ ts) = IsLocation t.0 × AreLocations ts

-- the terms that a form may have
pub record AreFormTerms (ts : List (Loc × ℤ)) : Type 0 where
  pub locations : AreLocations ts
  pub terms : AreTerms (terms_of ts)

-- Lists of terms that are built term by term.
use Rattle.std.specs.Prelude.{◌≡◌, ◌+◌, ◌≤◌, List, ◌++◌, length, drop, true, false, Option, Some, None, ℤ, FitsSigned}
use Rattle.arrayvec.specs.ArrayVec.{ArrayVec}
use Rattle.std.specs.Int.{w64}
use Rattle.linear_forms.specs.declared.location.Loc.{Loc}
use Rattle.linear_forms.specs.declared.terms.Next.{Next}
use Rattle.linear_forms.specs.Forms.{EntryTerm, unless_zero, merged, are_small, are_limited}
use Rattle.linear_forms.specs.Locations.{IsLocation, term_of, terms_of, AreLocations, AreFormTerms}

-- the sum of the two lists is this term, if it is not 0, and then the sum of what is left of them
pub record IsNext (ts us : List (Loc × ℤ)) (n : Next) : Type 0 where
  pub within : n.first ≤ length ts
  pub within_second : n.second ≤ length us
  pub some : 1 ≤ n.first + n.second
  pub location : IsLocation n.term.0
  pub fits : FitsSigned w64 n.term.1
  pub sum :
      merged (terms_of ts) (terms_of us)
      ≡ unless_zero (term_of n.term) (merged (terms_of (drop n.first ts)) (terms_of (drop n.second us)))

-- these are the first terms of the wanted list, and the rest are still to come
pub record IsBuilt (list : List (Loc × ℤ)) (rest wanted : List EntryTerm) : Type 0 where
  pub whole : terms_of list ++ rest ≡ wanted
  pub locations : AreLocations list
  pub small : are_small (terms_of list) ≡ true
  pub short : length list ≤ 4

-- the term is added to what is built, if it is not 0
abbrev pub AddsTerm : List (Loc × ℤ) → List (Loc × ℤ) → Loc × ℤ → Type 0
AddsTerm old new t =
    (rest wanted : List EntryTerm) → IsBuilt old (unless_zero (term_of t) rest) wanted → IsBuilt new rest wanted

-- with this term the wanted list passes the limits
abbrev pub PassesLimits : List (Loc × ℤ) → Loc × ℤ → Type 0
PassesLimits old t =
    (rest wanted : List EntryTerm) → IsBuilt old (unless_zero (term_of t) rest) wanted → are_limited wanted ≡ false

-- this is the wanted list, and it keeps to the limits
pub record IsWhole (list : List (Loc × ℤ)) (wanted : List EntryTerm) : Type 0 where
  pub is : terms_of list ≡ wanted
  pub terms : AreFormTerms list

-- the wanted list, where it keeps to the limits
abbrev pub IsLimitedList : Option (ArrayVec (Loc × ℤ)) → List EntryTerm → Type 0
IsLimitedList None wanted = are_limited wanted ≡ false
IsLimitedList (Some v) wanted = IsWhole v.items wanted

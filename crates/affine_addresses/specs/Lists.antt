-- Accesses that are put one after the other.
use Rattle.std.specs.Prelude.{ℕ, ◌≡◌, ◌<◌, List, [], ◌∷◌, ◌++◌, length, map, take, Option, Some, None, Result, Ok, Err, slice_index}
use Rattle.std.specs.List.{Contains}
use Rattle.std.specs.List.Sorted.{IsStrictlyIncreasing}
use Rattle.linear_forms.specs.Forms.{LinearForm}
use Rattle.loop_data.specs.declared.accesses.Access.{Access}
use Rattle.loop_data.specs.declared.shape.Level.{Level}
use Rattle.loop_data.specs.LoopCode.{LoopCode}
use Rattle.loop_data.specs.Results.{IsInnermost, IsAround}
use Rattle.loop_data.specs.Accesses.{Motion, motion_at, accessed_form, access_count, IsAccessOf}
use Rattle.affine_addresses.specs.declared.list.Irregular.{Irregular}

-- the access of the word at u, which accesses this, where the locations have these forms
pub record IsMade (levels : List Level) (F : ℕ → Option LinearForm) (u : ℕ) (m : Motion) (a : Access) : Type 0 where
  pub at : a.at ≡ u
  pub form : accessed_form F m ≡ Some a.form
  pub width : a.width ≡ m.width
  pub store : a.store ≡ m.store
  pub innermost : IsInnermost levels u a.level
  pub around : (k : ℕ) → k < 3 → IsAround levels u k (slice_index a.around k)

-- it, or why there is none
abbrev pub IsMadeOrNot : List Level → (ℕ → Option LinearForm) → ℕ → Motion → Result Access Irregular → Type 0
IsMadeOrNot levels F u m (Ok a) = IsMade levels F u m a
IsMadeOrNot levels F u m (Err e) = (e.at ≡ u) × (accessed_form F m ≡ None)

-- and nothing where the word is no access
abbrev pub IsFound : List Level → (ℕ → Option LinearForm) → ℕ → Option Motion → Option (Result Access Irregular)
    → Type 0
IsFound levels F u None o = o ≡ None
IsFound levels F u (Some m) None = ⊥
IsFound levels F u (Some m) (Some r) = IsMadeOrNot levels F u m r

-- the accesses are the old ones with that of the word at u, if it is one
abbrev pub IsAdded : List Level → (ℕ → Option LinearForm) → ℕ → Option Motion → List Access → List Access → Type 0
IsAdded levels F u None old new = new ≡ old
IsAdded levels F u (Some m) old new = (a : Access) × IsMade levels F u m a × (new ≡ old ++ a ∷ [])

-- the word at u accesses an address without a regular form
abbrev pub IsRefused : (ℕ → Option LinearForm) → Option Motion → Type 0
IsRefused F None = ⊥
IsRefused F (Some m) = accessed_form F m ≡ None

-- there is room for the access of a word, if it is one
abbrev pub HasRoom : Option Motion → ℕ → Type 0
HasRoom None n = Unit {0}
HasRoom (Some m) n = n < 32

abbrev pub addresses : List Access → List ℕ
addresses list = map (λ (a : Access). a.at) list

-- the accesses of the first words of a body, in order
pub record AreAccessesTo (levels : List Level) (body : List ℕ) (B : LoopCode) (at : ℕ → ℕ → Option LinearForm) (i : ℕ)
    (list : List Access) : Type 0 where
  pub ordered : IsStrictlyIncreasing (addresses list)
  pub each : (a : Access) → Contains list a → (k : ℕ) × (k < i) × (a.at ≡ slice_index body k) × IsAccessOf levels B at a
  pub every : (k : ℕ) (m : Motion) → k < i → motion_at B (slice_index body k) ≡ Some m
      → Contains (addresses list) (slice_index body k)
  pub count : length list ≡ access_count B (take i body)

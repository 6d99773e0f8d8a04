-- A loop has one list of accesses.
use Rattle.std.specs.Prelude.{ℕ, ◌≡◌, List, [], ◌∷◌, length, map, Option, slice_index}
use Rattle.std.specs.List.{All}
use Rattle.linear_forms.specs.Forms.{LinearForm}
use Rattle.loop_data.specs.declared.accesses.Access.{Access}
use Rattle.loop_data.specs.declared.graph.Graph.{Graph}
use Rattle.loop_data.specs.declared.shape.Level.{Level}
use Rattle.loop_data.specs.Accesses.{AreAccesses, IsLeastIrregular}
use Rattle.loop_data.specs.LoopCode.{LoopCode}
use Rattle.loop_data.specs.LoopWords.{AreNest}

-- an access with the places of the loops of depths 0 to 2 round it, and no others
abbrev pub placed : Access → Access
placed a =
    record a {
      around = slice_index a.around 0 ∷ slice_index a.around 1 ∷ slice_index a.around 2 ∷ [];
    }

-- two answers for the accesses of a loop are the same, up to places beyond those
abbrev pub OneListLaw : Type 0
OneListLaw = (G : Graph) (levels : List Level) (body : List ℕ) (B : LoopCode) (at : ℕ → ℕ → Option LinearForm)
    (list other : List Access) → AreNest G levels → AreAccesses levels body B at list
    → AreAccesses levels body B at other → map placed list ≡ map placed other

-- so that they are the same, as they are kept
abbrev pub OneKeptListLaw : Type 0
OneKeptListLaw = (G : Graph) (levels : List Level) (body : List ℕ) (B : LoopCode) (at : ℕ → ℕ → Option LinearForm)
    (list other : List Access) → AreNest G levels → AreAccesses levels body B at list
    → AreAccesses levels body B at other → All (λ (a : Access). length a.around ≡ 3) list
    → All (λ (a : Access). length a.around ≡ 3) other → list ≡ other

-- of the words that access irregular addresses there is one least
abbrev pub OneIrregularLaw : Type 0
OneIrregularLaw = (body : List ℕ) (B : LoopCode) (at : ℕ → ℕ → Option LinearForm) (u v : ℕ)
    → IsLeastIrregular body B at u → IsLeastIrregular body B at v → u ≡ v

-- and none, where the accesses are listed
abbrev pub NoneIrregularLaw : Type 0
NoneIrregularLaw = (levels : List Level) (body : List ℕ) (B : LoopCode) (at : ℕ → ℕ → Option LinearForm)
    (list : List Access) (u : ℕ) → AreAccesses levels body B at list → ¬ IsLeastIrregular body B at u

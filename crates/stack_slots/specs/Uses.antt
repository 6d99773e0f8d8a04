-- The uses of cells, one after the other.
use Rattle.std.specs.Prelude.{ℕ, ◌≡◌, ◌≤◌, ◌&&◌, not, nat_lt, if◌then◌else◌, Bool, true, false, List, [], ◌∷◌, ◌++◌, length, map, drop, filter, filter_map, slice_get, Some}
use Rattle.std.specs.List.{Contains, list_any}
use Rattle.stack_slots.specs.declared.words.BodyWord.{BodyWord}
use Rattle.stack_slots.specs.CellRules.{uses_cell, use_one_cell, cell_of}
use Rattle.stack_slots.specs.Results.{IsUse}

-- the first use of this number is one of the cell that the word accesses
pub record IsNumber (firsts : List BodyWord) (w : BodyWord) (k : ℕ) : Type 0 where
  pub first : BodyWord
  pub at : slice_get firsts k ≡ Some first
  pub same : use_one_cell first w ≡ true

-- the first uses with that of the word, if it accesses a cell that none of them does, and 17 at most
abbrev pub first_added : List BodyWord → BodyWord → List BodyWord
first_added firsts w =
    if nat_lt (length firsts) 17
    then (
    if uses_cell w && not (list_any (λ (f : BodyWord). use_one_cell f w) firsts)
    then firsts ++ w ∷ []
    else firsts
    )
    else firsts

-- the uses are the old ones with that of the word, if it is one
abbrev pub IsUseAdded : Bool → List BodyWord → BodyWord → List (ℕ × ℕ) → List (ℕ × ℕ) → Type 0
IsUseAdded true firsts w old new = (k : ℕ) × IsNumber firsts w k × (new ≡ old ++ (w.at, k) ∷ [])
IsUseAdded false firsts w old new = new ≡ old

-- the uses by the first words
pub record AreUsesTo (words firsts : List BodyWord) (i : ℕ) (uses : List (ℕ × ℕ)) : Type 0 where
  pub count : length uses ≤ i
  pub words_are : map (λ (u : ℕ × ℕ). u.0) uses ++ map (λ (w : BodyWord). w.at) (filter uses_cell (drop i words))
      ≡ map (λ (w : BodyWord). w.at) (filter uses_cell words)
  pub each : (u : ℕ × ℕ) → Contains uses u → IsUse words (filter_map (cell_of words) firsts) u

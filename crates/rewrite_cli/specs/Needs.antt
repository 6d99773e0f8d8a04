-- What a command needs of the outside, from its words alone.
use Rattle.std.specs.Prelude.{ℕ, ◌≡◌, ◌≢◌, ◌⊎◌, Bool, true, false, List, [], ◌∷◌, Option, Some, None, IsSomeAnd}
use Rattle.outside_ports.specs.Ports.{Files, Lacks}
use Rattle.rewrite_cli.specs.Words.{Command, Run, Rewrite, Loops, Make}

pub record Needs : Type 0 where
  -- the names of the files that it loads, in this order
  pub loads : List (List ℕ)
  -- the names that it may save a file under
  pub saves : List (List ℕ)
  -- it may read the input
  pub reads : Bool
  -- it may write to the output
  pub writes : Bool

-- the name, where one is given
abbrev pub names_of : Option (List ℕ) → List (List ℕ)
names_of None = []
names_of (Some name) = name ∷ []

abbrev pub needs_of : Option Command → Needs
needs_of None = record { loads = []; saves = []; reads = false; writes = false }
needs_of (Some (Run file fuel dump)) = record { loads = file ∷ []; saves = names_of dump; reads = true; writes = true }
needs_of (Some (Rewrite file new)) = record { loads = file ∷ []; saves = new ∷ []; reads = false; writes = false }
needs_of (Some (Loops file)) = record { loads = file ∷ []; saves = []; reads = false; writes = true }
needs_of (Some (Make kind size new)) = record { loads = []; saves = new ∷ []; reads = false; writes = false }

-- a store that tells its files has not all of these names
abbrev pub LacksOne : Option Files → List (List ℕ) → Type 0
LacksOne files [] = ⊥
LacksOne files (name ∷ names) = Lacks files name ⊎ LacksOne files names

-- the name is none of these
abbrev pub IsOther : List ℕ → List (List ℕ) → Type 0
IsOther other [] = Unit {0}
IsOther other (name ∷ names) = (other ≢ name) × IsOther other names

-- the files are told, and those under all names but these are as before
abbrev pub SameBut : Files → Option Files → List (List ℕ) → Type 0
SameBut m files names = IsSomeAnd files (λ n. (other : List ℕ) → IsOther other names → n other ≡ m other)

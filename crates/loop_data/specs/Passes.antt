-- The passes of the loops of a nest, on a walk: the words that a run visits, by number. Nothing here
-- speaks of instructions.
use Rattle.std.specs.Prelude.{ℕ, zero, suc, ◌==◌, if◌then◌else◌, List, [], ◌∷◌, Option, Some, None}
use Rattle.loop_data.specs.declared.shape.Level.{Level}
use Rattle.loop_data.specs.Nests.{Nest, has, levels, around}

-- the number of the pass at visit n: of the arrivals by the back edge since the loop was entered
abbrev pub pass : Level → (ℕ → ℕ) → ℕ → ℕ
pass l pc zero = 0
pass l pc (suc n) = if pc (suc n) == l.header then (if has l.body (pc n) then suc (pass l pc n) else 0) else pass l pc n

-- the words that this pass has visited before visit n, the newest first
abbrev pub passed : Level → (ℕ → ℕ) → ℕ → List ℕ
passed l pc zero = []
passed l pc (suc n) = if pc (suc n) == l.header then [] else pc n ∷ passed l pc n

abbrev pub pass_in : Option Level → (ℕ → ℕ) → ℕ → ℕ
pass_in (Some l) pc n = pass l pc n
pass_in None pc n = 0

-- at visit n, the pass of the loop of each depth round the word, and 0 where there is none. The root's is
-- its turn, as long as the walk stays in it
abbrev pub passes : Nest → (ℕ → ℕ) → ℕ → ℕ → ℕ
passes N pc n depth = pass_in (around (levels N) depth (pc n)) pc n

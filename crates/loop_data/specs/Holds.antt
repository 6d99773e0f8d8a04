-- When the forms at the words of a nest are true of a run.
use Rattle.std.specs.Prelude.{ℕ, zero, suc, ◌≡◌, ◌<◌, true, Option, Some, ℤ, pos}
use Rattle.linear_forms.specs.Forms.{Alike, LinearForm, exact}
use Rattle.loop_data.specs.Nests.{Nest, has}
use Rattle.loop_data.specs.Runs.{State, run, walk, goes_at}
use Rattle.loop_data.specs.Turns.{turn}
use Rattle.loop_data.specs.Passes.{passes}
use Rattle.loop_data.specs.Locations.{CellMap, value_of}

-- the entry values of the locations
abbrev pub entry_of : CellMap → State → ℕ → ℤ
entry_of C s r = pos (value_of C s.regs s r)

-- the turn at visit n, and by depth the passes of the loops round the word
abbrev pub times : Nest → State → ℕ → ℕ → ℕ
times N s n zero = turn N.root s n
times N s n (suc depth) = passes N (walk s) n (suc depth)

-- each location with a form at the word of visit n has that form's value
abbrev pub HoldsAt : Nest → CellMap → (ℕ → ℕ → Option LinearForm) → State → ℕ → Type 0
HoldsAt N C forms s n = (r : ℕ) (f : LinearForm) → forms (walk s n) r ≡ Some f
    → Alike (pos (value_of C s.regs (run s n) r)) (exact f (entry_of C s) (times N s n))

-- the forms hold at each visit of a word of the nest in the first p turns
abbrev pub FormsHold : Nest → CellMap → (ℕ → ℕ → Option LinearForm) → State → ℕ → Type 0
FormsHold N C forms s p = (n : ℕ) → turn N.root s n < p → goes_at (has N.root.body) (run s n).next ≡ true
    → HoldsAt N C forms s n

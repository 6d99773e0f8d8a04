-- The forks that the only hart meets until it leaves added code.
use Rattle.std.specs.Prelude.{ℕ, zero, suc, ◌≡◌, ◌≢◌, ◌+◌, ◌%◌, ◌^◌, ◌<◌, List, [], ◌∷◌, slice_index, Option, Some, None}
use Rattle.rv64_decode.specs.Hart.{Hart, fetched}
use Rattle.rv64_decode.specs.declared.xinstr.XInstr.{XInstr}
use Rattle.rv64_decode.specs.declared.xinstr.XInstr.TheVariants.{Par, Back}
use Rattle.alias_checks.specs.declared.lists.Turns.{Turns}
use Rattle.divided_loops.specs.Alone.{act_alone, run_alone}

-- the hart comes to a word at which it leaves by n instructions, and to none before
pub record IsFirstBack (code : List ℕ) (n : ℕ) (h : Hart) : Type 0 where
  pub leaves : fetched code (run_alone code n h).pc ≡ Some Back
  pub first : (k : ℕ) → k < n → fetched code (run_alone code k h).pc ≢ Some Back

-- the number of turns that slot 23 tells, whose last turn's number it has
abbrev pub turns_told : List ℕ → ℕ
turns_told slots = (slice_index slots 23 + 1) % 2 ^ 64

-- the turns that a fork divides, before those of later ones
abbrev pub with_fork : Option XInstr → Hart → List ℕ → List ℕ
with_fork (Some Par) h later = turns_told h.slots ∷ later
with_fork _ h later = later

-- the turns that each fork among n instructions divides
unfoldable pub turns_divided : List ℕ → ℕ → Hart → List ℕ
turns_divided code zero h = []
turns_divided code (suc n) h =
    with_fork (fetched code h.pc) h (turns_divided code n (act_alone (fetched code h.pc) h))

-- one fork for the turns that a check tells, and none where it tells none
abbrev pub forks_of : Option Turns → List ℕ
forks_of None = []
forks_of (Some t) = t.root ∷ []

-- n instructions are those before the first word at which the hart leaves, and the forks among them divide these turns
pub record LeavesFirst (code : List ℕ) (n : ℕ) (h : Hart) (turns : List ℕ) : Type 0 where
  pub first : IsFirstBack code n h
  pub divides : turns_divided code n h ≡ turns

-- Marks at the words of a loop: whether each way to a word, from the loop's header on, writes a location.
use Rattle.std.specs.Prelude.{ℕ, ◌≡◌, ◌≢◌, Bool, true, false, ◌||◌}
use Rattle.loop_data.specs.declared.shape.Level.{Level}
use Rattle.loop_data.specs.Nests.{Nest, Holds}
use Rattle.loop_data.specs.LoopCode.{LoopCode, writes, IsForwardIn}

-- the mark after a word, from that before it
abbrev pub marked_after : LoopCode → (ℕ → Bool) → ℕ → ℕ → Bool
marked_after B M u r = M u || writes B u r

-- there is no mark at the header, and elsewhere where it is there after each word from which an edge leads
-- to the place that closes no loop
pub record AreWriteMarks (N : Nest) (B : LoopCode) (l : Level) (r : ℕ) (M : ℕ → Bool) : Type 0 where
  pub header : M l.header ≡ false
  pub each : (u v : ℕ) → IsForwardIn N l.body u v → v ≢ l.header → M v ≡ true → marked_after B M u r ≡ true
  pub some : (v : ℕ) → Holds l v → v ≢ l.header → M v ≡ false
      → (u : ℕ) × IsForwardIn N l.body u v × (marked_after B M u r ≡ false)

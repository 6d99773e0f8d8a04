-- The facts at the words of a loop, as equations along its edges.
use Rattle.std.specs.Prelude.{ℕ, ◌≡◌, ◌≢◌, ◌↔◌, ◌==◌, if◌then◌else◌, Option, Some, None, pos}
use Rattle.loop_data.specs.declared.shape.Level.{Level}
use Rattle.loop_data.specs.Nests.{Nest, Holds}
use Rattle.loop_data.specs.LoopCode.{LoopCode, is_location, IsWritten, IsUnwritten, IsForwardIn, LiesIn}
use Rattle.loop_data.specs.Facts.{Fact, Number, Offset, fact_after}

-- at the header each location has its own value, and x0 is the number 0
abbrev pub header_fact : LoopCode → ℕ → Option Fact
header_fact B r = if r == 0 then Some (Number (pos 0)) else if is_location B r then Some (Offset r (pos 0)) else None

-- no loop inside l stands at v and writes the location
abbrev pub IsKeptAt : Nest → LoopCode → Level → ℕ → ℕ → Type 0
IsKeptAt N B l v r = (m : Level) → LiesIn N l m → v ≡ m.header → IsUnwritten B m r

-- the facts at each word of the loop l, before it: what a loop inside it writes is lost at that loop's
-- header; elsewhere, where edges meet that close no loop, the same fact along all of them stays
pub record AreFacts (N : Nest) (B : LoopCode) (l : Level) (V : ℕ → ℕ → Option Fact) : Type 0 where
  pub header : (r : ℕ) → V l.header r ≡ header_fact B r
  pub lost : (m : Level) → LiesIn N l m → (r : ℕ) → IsWritten B m r → V m.header r ≡ None
  pub met : (v r : ℕ) (x : Fact) → Holds l v → v ≢ l.header → IsKeptAt N B l v r
      → (V v r ≡ Some x) ↔ ((u : ℕ) → IsForwardIn N l.body u v → fact_after B u (V u) r ≡ Some x)

-- Words that a search finds.
use Rattle.std.specs.Prelude.{ℕ, List, Contains}
use Rattle.elf_image.specs.declared.image.Elf.{Elf}
use Rattle.loop_data.specs.Reaching.{Reached}

-- these are the reached words
pub record AreAllReached (elf : Elf) (found : List ℕ) : Type 0 where
  pub each : (a : ℕ) → Contains found a → Reached elf a
  pub every : (a : ℕ) → Reached elf a → Contains found a

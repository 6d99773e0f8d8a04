-- The reached words of an executable: the least set that holds the entry and all that its words lead to.
use Rattle.std.specs.Prelude.{ℕ, ◌≡◌, Some, None, Contains, ◌⊎◌}
use Rattle.elf_image.specs.declared.image.Elf.{Elf}
use Rattle.loop_data.specs.Code.{IsCode}
use Rattle.loop_data.specs.Targets.{Targets, before, targets_at, pair_at, successors}

-- the word at an address is reached: it is the entry, or a reached word leads to it, alone or as the
-- second of a pair whose first word is reached too. Only words of code are reached
pub data Reached (elf : Elf) : ℕ → Type 0 where
  entry : IsCode elf elf.entry → Reached elf elf.entry
  alone : (a b : ℕ) → Reached elf a → Contains (successors (targets_at elf None a)) b → IsCode elf b → Reached elf b
  paired : (a b target : ℕ) → Reached elf a → Reached elf (before a) → pair_at elf a ≡ Some target
      → Contains (successors (targets_at elf (Some target) a)) b → IsCode elf b → Reached elf b

-- where a reached word leads: as the second of a pair exactly where the word before it is reached
abbrev pub HasTargets : Elf → ℕ → Targets → Type 0
HasTargets elf a targets =
    (Reached elf (before a) × (targets ≡ targets_at elf (pair_at elf a) a))
    ⊎ ((¬ Reached elf (before a)) × (targets ≡ targets_at elf None a))

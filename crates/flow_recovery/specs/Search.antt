-- A search for the reached words: what is known of the words found so far.
use Rattle.std.specs.Prelude.{ℕ, ◌≡◌, ◌≤◌, List, ◌++◌, length, Some, None, All, Contains}
use Rattle.rv64_decode.specs.Row.{next_pc}
use Rattle.elf_image.specs.declared.image.Elf.{Elf}
use Rattle.loop_data.specs.Code.{IsCode}
use Rattle.loop_data.specs.Targets.{before, targets_at, pair_at, successors}
use Rattle.loop_data.specs.Reaching.{Reached}
use Rattle.flow_recovery.specs.Refusals.{word_limit}

-- those of the addresses at which there is code are found
pub record HasCodeOf (elf : Elf) (found targets : List ℕ) : Type 0 where
  pub has : (b : ℕ) → Contains targets b → IsCode elf b → Contains found b

-- words were added at the end
pub record Grows (old new : List ℕ) : Type 0 where
  pub added : List ℕ
  pub is : new ≡ old ++ added

-- the words of a search so far: they are reached, and at most 262,144
pub record AreReached (elf : Elf) (found : List ℕ) : Type 0 where
  pub each : All (Reached elf) found
  pub few : length found ≤ word_limit

-- what `at` leads to is found, and also what the word behind it leads to as the second of a pair
pub record IsVisited (elf : Elf) (old : List ℕ) (at : ℕ) (found : List ℕ) : Type 0 where
  pub alone : HasCodeOf elf found (successors (targets_at elf None at))
  pub paired : (target : ℕ) → Contains old (before at) → pair_at elf at ≡ Some target
      → HasCodeOf elf found (successors (targets_at elf (Some target) at))
  pub behind : (target : ℕ) → Contains old (next_pc at) → pair_at elf (next_pc at) ≡ Some target
      → HasCodeOf elf found (successors (targets_at elf (Some target) (next_pc at)))

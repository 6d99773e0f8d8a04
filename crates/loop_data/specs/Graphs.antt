-- The reached words of an executable as a graph.
use Rattle.std.specs.Prelude.{ℕ, ◌≡◌, Some, All, Contains, ◌↔◌, ◌⊎◌}
use Rattle.std.specs.List.Sorted.{IsStrictlyIncreasing}
use Rattle.elf_image.specs.declared.image.Elf.{Elf}
use Rattle.loop_data.specs.declared.graph.Word.{Word}
use Rattle.loop_data.specs.declared.graph.Graph.{Graph}
use Rattle.loop_data.specs.Code.{word_at}
use Rattle.loop_data.specs.Paths.{IsInOrder, IsWord}
use Rattle.loop_data.specs.Reaching.{Reached, HasTargets}
use Rattle.loop_data.specs.Targets.{Targets}

-- a reached word calls an address
pub record IsCall (elf : Elf) (from to : ℕ) : Type 0 where
  pub reached : Reached elf from
  pub targets : Targets
  pub leads : HasTargets elf from targets
  pub calls : targets.call ≡ Some to

-- a word at which a run of code may start: the entry, and what a reached word calls
abbrev pub IsStart : Elf → ℕ → Type 0
IsStart elf a = (a ≡ elf.entry) ⊎ ((from : ℕ) × IsCall elf from a)

-- a word with its instruction word and all its step edges, also those to words that are not reached
pub record IsWordOf (elf : Elf) (w : Word) : Type 0 where
  pub bits : word_at elf w.at ≡ Some w.bits
  pub targets : Targets
  pub leads : HasTargets elf w.at targets
  pub steps : w.steps.items ≡ targets.steps

-- the graph of an executable: its reached words and its start words, each once and in address order
pub record IsGraph (elf : Elf) (g : Graph) : Type 0 where
  pub ordered : IsInOrder g
  pub reached : (a : ℕ) → IsWord g a ↔ Reached elf a
  pub words : All (IsWordOf elf) g.words
  pub starts_ordered : IsStrictlyIncreasing g.starts
  pub starts : (a : ℕ) → Contains g.starts a ↔ IsStart elf a

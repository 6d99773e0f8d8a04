-- The verdicts of all loops of an executable.
use Rattle.std.specs.Prelude.{◌≡◌, ◌+◌, ◌<◌, ◌^◌, ℕ, List, [], ◌∷◌, None, length}
use Rattle.std.specs.List.Sorted.{IsStrictlyIncreasing}
use Rattle.elf_image.specs.Layout.{IsLoadable}
use Rattle.elf_image.specs.declared.image.Elf.{Elf}
use Rattle.loop_data.specs.declared.graph.Graph.{Graph}
use Rattle.loop_data.specs.declared.shape.LoopShape.{LoopShape}
use Rattle.loop_data.specs.Graphs.{IsGraph}
use Rattle.loop_data.specs.Loops.{AreLoops}
use Rattle.flow_recovery.specs.Refusals.{ReachesAtLeast, word_limit}
use Rattle.loop_choice.specs.declared.judged.Judged.{Judged}
use Rattle.loop_choice.specs.Choice.{AreTooMany, headers_of}
use Rattle.loop_choice.specs.Judging.{body_of}
use Rattle.loop_choice.specs.Verdicts.{IsVerdict}

-- the verdict of a loop, whose plan is let go
pub record IsJudgedAs (G : Graph) (s : LoopShape) (j : Judged) : Type 0 where
  pub header : j.header ≡ s.header
  pub body : j.body ≡ body_of s.levels
  pub verdict : IsVerdict G s j.verdict
  pub plan : j.plan ≡ None

-- the verdicts of loops, in their order
abbrev pub AreJudgedAs : Graph → List LoopShape → List Judged → Type 0
AreJudgedAs G [] [] = Unit {0}
AreJudgedAs G (s ∷ shapes) (j ∷ all) = IsJudgedAs G s j × AreJudgedAs G shapes all
AreJudgedAs G _ _ = ⊥

-- more words are reached than may be
abbrev pub ReachesTooMany : Elf → Type 0
ReachesTooMany elf = ReachesAtLeast elf (word_limit + 1)

-- the listed loops of an executable of which not too many words are reached, by header, and the verdict of each
pub record AreVerdicts (elf : Elf) (G : Graph) (shapes : List LoopShape) (all : List Judged) : Type 0 where
  pub few : ¬ ReachesTooMany elf
  pub graph : IsGraph elf G
  pub loops : AreLoops G shapes
  pub judged : AreJudgedAs G shapes all

-- so many of its loops are chosen, which is too many
pub record ChoosesTooMany (elf : Elf) (count : ℕ) : Type 0 where
  pub graph : Graph
  pub shapes : List LoopShape
  pub all : List Judged
  pub verdicts : AreVerdicts elf graph shapes all
  pub many : AreTooMany all count

-- verdicts have ascending headers, and there are fewer than 2 ^ 32
pub record AreOrdered (all : List Judged) : Type 0 where
  pub ascending : IsStrictlyIncreasing (headers_of all)
  pub few : length all < 2 ^ 32

-- so it is with those of an executable
abbrev pub VerdictOrderLaw : Type 0
VerdictOrderLaw = (elf : Elf) (G : Graph) (shapes : List LoopShape) (all : List Judged) → IsLoadable elf
    → AreVerdicts elf G shapes all → AreOrdered all

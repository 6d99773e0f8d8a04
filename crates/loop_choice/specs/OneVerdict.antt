-- A loop has one verdict.
use Rattle.std.specs.Prelude.{◌≡◌, List}
use Rattle.elf_image.specs.declared.image.Elf.{Elf}
use Rattle.loop_data.specs.declared.graph.Graph.{Graph}
use Rattle.loop_data.specs.declared.shape.Level.{Level}
use Rattle.loop_data.specs.declared.shape.LoopShape.{LoopShape}
use Rattle.loop_data.specs.declared.verdict.Verdict.{Verdict}
use Rattle.loop_data.specs.Graphs.{IsGraph}
use Rattle.loop_data.specs.LoopWords.{AreNest}
use Rattle.loop_choice.specs.Judging.{IsOneOfLoops}
use Rattle.loop_choice.specs.Verdicts.{IsNestVerdict, IsVerdict}

-- two verdicts of a nest, whose shape decides none, are the same
abbrev pub OneNestVerdictLaw : Type 0
OneNestVerdictLaw = (G : Graph) (levels : List Level) (v w : Verdict) → AreNest G levels → IsNestVerdict G levels v
    → IsNestVerdict G levels w → v ≡ w

-- and two of a listed loop of an executable
abbrev pub OneVerdictLaw : Type 0
OneVerdictLaw = (elf : Elf) (G : Graph) (s : LoopShape) (v w : Verdict) → IsGraph elf G → IsOneOfLoops G s
    → IsVerdict G s v → IsVerdict G s w → v ≡ w

-- What the analysis of a nest ends in.
use Rattle.std.specs.Prelude.{◌≢◌}
use Rattle.elf_image.specs.declared.image.Elf.{Elf}
use Rattle.loop_data.specs.declared.graph.Graph.{Graph}
use Rattle.loop_data.specs.declared.shape.LoopShape.{LoopShape}
use Rattle.loop_data.specs.declared.verdict.Verdict.TheVariants.{Parallel}
use Rattle.loop_choice.specs.declared.outcome.Outcome.{Outcome}
use Rattle.loop_choice.specs.declared.outcome.Outcome.TheVariants.{Against, Free}
use Rattle.loop_choice.specs.Judging.{IsPlanOf}
use Rattle.loop_choice.specs.Verdicts.{IsNestVerdict}

-- a verdict against it, or a plan and a check
abbrev pub IsOutcome : Graph → Elf → LoopShape → Outcome → Type 0
IsOutcome G elf s (Against v) = IsNestVerdict G s.levels v × (v ≢ Parallel)
IsOutcome G elf s (Free plan check) = IsPlanOf G elf s plan check

use Rattle.std.proofs.Common.{◌≡◌, drop}
use Rattle.elf_image.specs.Rules.{overlap_from}
use Rattle.elf_image.proofs.placing.refusal_of_overlap.Given as goal

abbrev pub invariant-loop-first : goal.invariant-loop-first
invariant-loop-first l = overlap_from l.first (drop l.first l.headers) ≡ overlap_from 0 l.headers

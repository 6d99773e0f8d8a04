use Rattle.std.proofs.Common.{◌<◌, take}
use Rattle.std.specs.List.{All}
use Rattle.elf_image.specs.declared.image.Segment.{Segment}
use Rattle.rewriter.proofs.rewriting.have_bytes.Given as goal

abbrev pub invariant-loop-i : goal.invariant-loop-i
invariant-loop-i l = All (λ (s : Segment). All (λ b. b < 256) s.bytes) (take l.i l.segments)

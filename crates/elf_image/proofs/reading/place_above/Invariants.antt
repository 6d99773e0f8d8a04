use Rattle.std.proofs.Common.{◌≡◌, ◌≤◌, ◌-◌, ◌++◌, length, take, drop}
use Rattle.elf_image.specs.declared.image.Segment.{Segment}
use Rattle.elf_image.specs.Reading.{with_segment}
use Rattle.elf_image.proofs.reading.place_above.Given as goal

abbrev pub invariant-loop-place : goal.invariant-loop-place
invariant-loop-place l = record {
  within : l.place ≤ length l.segments;
  with_segment : (s : Segment) → s.vaddr ≡ l.vaddr → take l.place l.segments ++ with_segment s (drop l.place l.segments) ≡ with_segment s l.segments;
}

abbrev pub decreases-loop-place : goal.decreases-loop-place
decreases-loop-place l = length l.segments - l.place

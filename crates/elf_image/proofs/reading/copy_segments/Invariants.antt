use Rattle.std.proofs.Common.{◌≡◌, ◌≤◌, length, drop}
use Rattle.elf_image.specs.Reading.{segments_from}
use Rattle.elf_image.proofs.reading.copy_segments.Given as goal

abbrev pub invariant-loop-index : goal.invariant-loop-index
invariant-loop-index l = record {
  within : l.index ≤ length l.headers;
  copied : l.segments.items ≡ segments_from l.bytes l.index (drop l.index l.headers);
}

abbrev pub decreases-loop-index : goal.decreases-loop-index
decreases-loop-index l = l.index

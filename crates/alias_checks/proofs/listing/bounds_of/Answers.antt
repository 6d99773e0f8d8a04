use Rattle.elf_image.specs.Layout.{LieFrom as SegmentsLieFrom}
use Rattle.guest_memory.proofs.Loaded.{placed}
use Rattle.alias_checks.proofs.listing.bounds_of.Goals as goal

pub segment_bounds-requires : goal.segment_bounds-requires
segment_bounds-requires c =
    let segments = c.as_slice-segments.result.now in
    let lie : SegmentsLieFrom 0 segments = rw c.as_slice-segments.ensures c.requires.apart in
    let s = rw (← c.segment-item.is) at (placed 0 segments c.loop-segment.segment-index c.segment-item.result lie c.loop-segment-test.true) in
    s.end

use Rattle.std.proofs.Common.{◌≤◌, ℕ, arith}
use Rattle.elf_image.specs.Layout.{LieFrom as SegmentsLieFrom, load_end}
use Rattle.guest_memory.proofs.Loaded.{placed, highest_end-le, end-all}
use Rattle.guest_memory.proofs.start.heap_start.Goals as goal

pub end_of-requires : goal.end_of-requires
end_of-requires c =
    let segments = c.as_slice-segments.result.now in
    let lie : SegmentsLieFrom 0 segments = rw c.as_slice-segments.ensures c.requires.apart in
    let s = rw (← c.segment-item.is) at (placed 0 segments c.loop-segment.segment-index c.segment-item.result lie c.loop-segment-test.true) in
    s.end

-- the heap starts behind all loads
record IsHigh (end : ℕ) : Type 0 where
  high : end ≤ load_end

high_end : (c : goal.After-loop-segment) → IsHigh c.loop-segment.end
high_end c =
    let segments = c.as_slice-segments.result.now in
    let lie : SegmentsLieFrom 0 segments = rw c.as_slice-segments.ensures c.requires.apart in
    let end = end-all segments c.loop-segment.segment-index c.loop-segment.end c.loop-segment-test.false c.loop-segment.invariant in
    let high = highest_end-le 0 segments lie in
    record { high = omega arith }

pub overflow_add-result : goal.overflow_add-result
overflow_add-result c = let e = high_end c in omega arith

pub overflow_mul-result : goal.overflow_mul-result
overflow_mul-result c = let e = high_end c in omega arith

pub returns-clause-below : goal.returns-clause-below
returns-clause-below c = let e = high_end c in omega arith

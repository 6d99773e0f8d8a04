use Rattle.std.proofs.Common.{◌≡◌, ℕ, ap, ◌∙◌}
use Rattle.elf_image.specs.Layout.{LieFrom as SegmentsLieFrom}
use Rattle.guest_memory.specs.Areas.{areas_of, data_area, heap_size}
use Rattle.guest_memory.proofs.Loaded.{placed, areas-all, areas-lie}
use Rattle.guest_memory.proofs.start.build.Goals as goal

pub load_area-requires-clause-bytes : goal.load_area-requires-clause-bytes
load_area-requires-clause-bytes c =
    let segments = c.as_slice-segments.result.now in
    let lie : SegmentsLieFrom 0 segments = rw c.as_slice-segments.ensures c.requires.apart in
    let s = rw (← c.segment-item.is) at (placed 0 segments c.loop-segment.segment-index c.segment-item.result lie c.loop-segment-test.true) in
    s.bytes

pub load_area-requires-clause-end : goal.load_area-requires-clause-end
load_area-requires-clause-end c =
    let segments = c.as_slice-segments.result.now in
    let lie : SegmentsLieFrom 0 segments = rw c.as_slice-segments.ensures c.requires.apart in
    let s = rw (← c.segment-item.is) at (placed 0 segments c.loop-segment.segment-index c.segment-item.result lie c.loop-segment-test.true) in
    s.end

pub search_for-requires : goal.search_for-requires
search_for-requires c =
    let elf = c.args.elf.now in
    let all : c.push-3.new.self.items ≡ areas_of elf =
    areas-all elf c.as_slice-segments.result.now c.loop-segment.segment-index c.loop-segment.areas.items c.push-2.new.self.items c.push-3.new.self.items _ _
    c.as_slice-segments.ensures c.loop-segment-test.false c.loop-segment.invariant
    (c.in_ok-zero_area.ensures ∙ ap (λ (low : ℕ). data_area low heap_size) c.heap_start.ensures.start) c.in_ok-zero_area-2.ensures c.in_ok-push-2.ensures.items c.in_ok-push-3.ensures.items in
    rw (c.as_slice.ensures.value, all) (areas-lie elf c.requires)

pub new-requires : goal.new-requires
new-requires c =
    let elf = c.args.elf.now in
    let all : c.push-3.new.self.items ≡ areas_of elf =
    areas-all elf c.as_slice-segments.result.now c.loop-segment.segment-index c.loop-segment.areas.items c.push-2.new.self.items c.push-3.new.self.items _ _
    c.as_slice-segments.ensures c.loop-segment-test.false c.loop-segment.invariant
    (c.in_ok-zero_area.ensures ∙ ap (λ (low : ℕ). data_area low heap_size) c.heap_start.ensures.start) c.in_ok-zero_area-2.ensures c.in_ok-push-2.ensures.items c.in_ok-push-3.ensures.items in
    rw (all) (areas-lie elf c.requires)

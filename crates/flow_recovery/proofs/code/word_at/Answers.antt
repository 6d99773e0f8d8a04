use Rattle.elf_image.specs.Layout.{LieFrom}
use Rattle.flow_recovery.proofs.Segments.{low_at}
use Rattle.flow_recovery.proofs.code.word_at.Goals as goal

pub is_code_of-requires : goal.is_code_of-requires
is_code_of-requires c =
    let segments = c.as_slice-segments.result.now in
    let lie : LieFrom 0 segments = rw c.as_slice-segments.ensures c.requires.apart in
    let s = rw (← c.segment-item.is) at (low_at 0 segments c.loop-segment.segment-index c.segment-item.result lie c.loop-segment-test.true) in
    s.end

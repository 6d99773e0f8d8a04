use Rattle.std.proofs.Common.{◌<◌, ◌-◌, length, sym, ◌∙◌, arith}
use Rattle.elf_image.specs.declared.rules.HeaderRule.TheVariants.{SegmentCut}
use Rattle.elf_image.specs.Rules.{breaks}
use Rattle.elf_image.proofs.Passed.{none_has, has_not, is_whole}
use Rattle.elf_image.proofs.reading.copy_segments.Goals as goal

pub copy_segment-requires : goal.copy_segment-requires
copy_segment-requires c =
    let hs = c.args.headers.now in
    let size = length c.args.bytes.now in
    let within : c.loop-index.index - 1 < length hs = omega arith in
    let met = has_not (breaks SegmentCut size) hs (c.loop-index.index - 1) _ (none_has (breaks SegmentCut size) 0 hs c.requires.whole) within in
    is_whole size _ met (sym c.makes_area.ensures ∙ c.if-makes_area.true)

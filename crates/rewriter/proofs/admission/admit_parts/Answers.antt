use Rattle.std.proofs.Common.{inr, sym}
use Rattle.rewriter.proofs.Admitting.{altered, divided}
use Rattle.rewriter.proofs.admission.admit_parts.Goals as goal

pub returns-in-Some-clause-admission : goal.returns-in-Some-clause-admission
returns-in-Some-clause-admission c =
    altered c.args.bytes.now c.args.original c.as_slice-original.result.now c.in-Ok-image_with.made c.as_slice.result.now
    c.in-Ok.elf c.in-Ok-division_of.division.entries.items c.in-Ok-division_of.division.code.items c.in-Some.offset c.requires
    c.as_slice-original.ensures c.in-Ok.ensures.accepted c.in-Ok-division_of.ensures.division
    c.in-Ok-image_with.ensures.value c.as_slice.ensures (sym c.in-Some.ensures)

pub returns-clause-admission : goal.returns-clause-admission
returns-clause-admission c = inr
    (divided c.args.bytes.now c.args.original c.as_slice-original.result.now c.in-Ok-image_with.made c.as_slice.result.now
    c.in-Ok.elf c.in-Ok-division_of.division.entries.items c.new.result c.in-Ok-division_of.division.code.items
    c.new-in-None.result c.requires c.as_slice-original.ensures c.in-Ok.ensures.accepted
    c.in-Ok-division_of.ensures.division c.in-Ok-image_with.ensures.value c.as_slice.ensures (sym c.in-None.ensures)
    c.new.ensures c.new-in-None.ensures)

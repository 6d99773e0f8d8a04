use Rattle.std.proofs.Common.{◌≡◌, ◌+◌, ◌*◌, ◌/◌, ◌<◌, ◌^◌, length, ap, ◌∙◌, refl, arith}
use Rattle.image_writer.specs.Image.{with_headers, image_bytes}
use Rattle.image_writer.specs.Split.{split_of}
use Rattle.image_writer.proofs.Headers.{length-with_headers}
use Rattle.image_writer.proofs.Law.{assembled, IsGiven, split-image}
use Rattle.image_writer.proofs.writing.write_image.Goals as goal

pub pad-requires : goal.pad-requires
pad-requires c =
    let h : c.push_with_headers.new.out.items ≡ with_headers ((length c.args.original.now + 7) / 8 * 8) (c.read-header.result.phnum + 1) c.args.original.now =
    c.in_ok-push_with_headers.ensures ∙ rw c.in_ok-out.ensures.items refl in
    let l = length-with_headers ((length c.args.original.now + 7) / 8 * 8) (c.read-header.result.phnum + 1) c.args.original.now c.requires.long in
    rw h (rw l (omega arith))

pub returns-clause-value : goal.returns-clause-value
returns-clause-value c =
    assembled c.args.original.now c.args.entries.now c.args.code.now c.read-header.result.phnum c.read-header.result.phoff _ _ _ _ _ _ _ c.requires.long
    (rw c.read-header.ensures refl) (rw c.read-header.ensures refl)
    (c.in_ok-push_with_headers.ensures ∙ rw c.in_ok-out.ensures.items refl) c.in_ok-pad.ensures c.in_ok-extend_from_slice.ensures.items c.in_ok-push_mark.ensures c.in_ok-push_record.ensures c.in_ok-push_entries.ensures.bytes c.in_ok-push_words.ensures

pub returns-clause-splits : goal.returns-clause-splits
returns-clause-splits c =
    let value = returns-clause-value c in
    let size : length (image_bytes c.args.original.now c.args.entries.now c.args.code.now) < 2 ^ 64 = omega (arith, ap length value) in
    let given : IsGiven c.args.original.now c.args.entries.now c.args.code.now =
    record { headers = c.requires; bytes = λ i. omega (arith, c.type_inv.original i); entries = c.in_ok-push_entries.ensures.fit; words = λ i. omega (arith, c.type_inv.code i); size = size } in
    ap split_of value ∙ split-image c.args.original.now c.args.entries.now c.args.code.now given

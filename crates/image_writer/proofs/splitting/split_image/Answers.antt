use Rattle.std.proofs.Common.{◌≡◌, ℕ, List, length, false, ap, refl, sym, ◌∙◌}
use Rattle.image_writer.specs.declared.splitting.Split.TheVariants.{Parts}
use Rattle.image_writer.specs.declared.record.Record.{Record}
use Rattle.image_writer.specs.Split.{marked_bytes, is_record, parts_of}
use Rattle.image_writer.proofs.Splits.{split-plain, split-bad, split-parts, beyond, marked-at}
use Rattle.image_writer.proofs.splitting.split_image.Goals as goal

pub returns-in_default : goal.returns-in_default
returns-in_default c = sym (split-plain c.args.bytes.now (sym c.in_default.ensures.marked))

pub returns-then-offset-bytes : goal.returns-then-offset-bytes
returns-then-offset-bytes c =
    let bytes : List ℕ = c.args.bytes.now in
    let none : is_record (length bytes) (marked_bytes bytes) ≡ false =
    ap (λ (rest : List ℕ). is_record (length bytes) rest) (marked-at bytes c.in-Some.offset c.in-Some.ensures.value)
    ∙ beyond (length bytes) c.in-Some.offset bytes c.if-offset-bytes.true in
    sym (split-bad bytes (sym c.in-Some.ensures.marked) none)

pub returns-in_default-record_in : goal.returns-in_default-record_in
returns-in_default-record_in c =
    let bytes : List ℕ = c.args.bytes.now in
    let rest : marked_bytes bytes ≡ c.split_at.result.1.now =
    marked-at bytes c.in-Some.offset c.in-Some.ensures.value ∙ sym c.split_at.ensures.back in
    let none : is_record (length bytes) (marked_bytes bytes) ≡ false =
    ap (λ (r : List ℕ). is_record (length bytes) r) rest ∙ sym c.in_default-record_in.ensures.whole in
    sym (split-bad bytes (sym c.in-Some.ensures.marked) none)

pub returns : goal.returns
returns c =
    let bytes : List ℕ = c.args.bytes.now in
    let rest : List ℕ = c.split_at.result.1.now in
    let at : marked_bytes bytes ≡ rest =
    marked-at bytes c.in-Some.offset c.in-Some.ensures.value ∙ sym c.split_at.ensures.back in
    let parts : Parts c.in_ok-copy_original.field-0 c.in_ok-copy_entries.field-0 c.in_ok-copy_code.field-0 ≡ parts_of bytes rest c.in-Some-record_in.record =
    rw (c.in_ok-copy_original.ensures, c.in_ok-copy_entries.ensures, c.in_ok-copy_code.ensures) refl in
    parts ∙ ap (λ (r : Record). parts_of bytes rest r) c.in-Some-record_in.ensures.value
    ∙ sym (split-parts bytes rest (sym c.in-Some.ensures.marked) at (sym c.in-Some-record_in.ensures.whole))

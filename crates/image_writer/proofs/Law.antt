-- An image is put together from its parts, and split into them.
use Rattle.std.proofs.Common.{◌≡◌, ℕ, ◌+◌, ◌-◌, ◌*◌, ◌^◌, ◌<◌, ◌≤◌, true, All, List, ◌++◌, length, take, drop, replicate, get_or, refl, ap, sym, ◌∙◌, arith, append_assoc, length-append}
use Rattle.std.proofs.lemmas.Bool.{and_from, le-leb, lt-ltb, eq-eqb}
use Rattle.std.proofs.lemmas.List.{drop_at, take_at, length-take-le, length-drop, length-replicate}
use Rattle.std.specs.List.{flat_map}
use Rattle.elf_image.specs.Header.{field, is_elf, file_header, program_header, HasHeaders}
use Rattle.image_writer.specs.declared.image.Entry.{Entry}
use Rattle.image_writer.specs.declared.record.Record.{Record}
use Rattle.image_writer.specs.declared.splitting.Split.TheVariants.{Parts}
use Rattle.image_writer.specs.Image.{with_headers, mark_kind, mark_bytes, record_bytes, entry_bytes, word_bytes, headers_place, record_place, added_size, record_of, header_bytes, image_bytes, IsEntry}
use Rattle.image_writer.specs.Split.{last_header_place, is_marked, marked_bytes, read_record, is_record, IsPossible, entries_from, words_from, parts_of, split_of}
use Rattle.image_writer.proofs.Fields.{field-past, field-lt}
use Rattle.image_writer.proofs.Headers.{length-with_headers, phoff-with_headers, phnum-with_headers, elf-with_headers, with_headers-twice, with_headers-own}
use Rattle.image_writer.proofs.Parts.{length-mark, mark-kind, mark-offset, length-record, IsStated, record-read, record-is, length-entries, length-words, entries-read, words-read}
use Rattle.image_writer.proofs.Splits.{split-parts, marked-at}

-- the steps by which the code makes an image
pub assembled : (o : List ℕ) (entries : List Entry) (code : List ℕ) (n phoff : ℕ) (a b c d e f g : List ℕ)
    → 64 ≤ length o → n ≡ (file_header o).phnum → phoff ≡ (file_header o).phoff
    → a ≡ with_headers (headers_place o) (n + 1) o
    → b ≡ a ++ replicate (headers_place o - length a) 0
    → c ≡ b ++ take (phoff + 56 * n - phoff) (drop phoff o)
    → d ≡ c ++ mark_bytes (headers_place o + 56 * n + 56) (added_size entries code)
    → e ≡ d ++ record_bytes (record { size = length o; phoff = phoff; phnum = n; entries = length entries; words = length code })
    → f ≡ e ++ flat_map entry_bytes entries → g ≡ f ++ flat_map word_bytes code → g ≡ image_bytes o entries code
unfolding image_bytes
assembled o entries code n phoff a b c d e f g long at_n at_p is_a is_b is_c is_d is_e is_f is_g =
    let same : length a ≡ length o = ap length is_a ∙ length-with_headers (headers_place o) (n + 1) o long in
    let size : phoff + 56 * n - phoff ≡ 56 * n = omega arith in
    let place : headers_place o + 56 * n + 56 ≡ headers_place o + 56 * (n + 1) = omega arith in
    rw (is_g, is_f, is_e, is_d, is_c, is_b, same, is_a, size, place, at_n, at_p) (simp append_assoc)

-- what is known of the parts
pub record IsGiven (o : List ℕ) (es : List Entry) (code : List ℕ) : Type 0 where
  pub headers : HasHeaders o
  pub bytes : (i : ℕ) → get_or o i 0 < 256
  pub entries : All IsEntry es
  pub words : (i : ℕ) → get_or code i 0 < 2 ^ 32
  pub size : length (image_bytes o es code) < 2 ^ 64

-- an image is what stands before the mark, the mark, and what comes behind it
unfoldable front_of : List ℕ → List ℕ
front_of o =
    with_headers (headers_place o) ((file_header o).phnum + 1) o ++ (replicate (headers_place o - length o) 0 ++ header_bytes o)

unfoldable mark_of : List ℕ → List Entry → List ℕ → List ℕ
mark_of o es code = mark_bytes (record_place o) (added_size es code)

unfoldable rest_of : List ℕ → List Entry → List ℕ → List ℕ
rest_of o es code = record_bytes (record_of o es code) ++ (flat_map entry_bytes es ++ flat_map word_bytes code)

in_parts : (o : List ℕ) (es : List Entry) (code : List ℕ)
    → image_bytes o es code ≡ front_of o ++ (mark_of o es code ++ rest_of o es code)
unfolding image_bytes front_of mark_of rest_of
in_parts o es code = simp append_assoc

-- the place of the mark
abbrev mark_place : List ℕ → ℕ
mark_place o = headers_place o + 56 * (file_header o).phnum

length-front : (o : List ℕ) → HasHeaders o → length (front_of o) ≡ mark_place o
unfolding front_of
length-front o h =
    let n : ℕ = (file_header o).phnum in
    let a = length-with_headers (headers_place o) (n + 1) o h.long in
    let b = length-replicate {A = ℕ} (headers_place o - length o) 0 in
    let c = length-drop (file_header o).phoff o in
    let d : length (header_bytes o) ≡ 56 * n = length-take-le (56 * n) (drop (file_header o).phoff o) (omega (arith, c, h.within)) in
    simp length-append (omega (arith, a, b, d))

length-mark_of : (o : List ℕ) (es : List Entry) (code : List ℕ) → length (mark_of o es code) ≡ 56
unfolding mark_of
length-mark_of o es code = length-mark (record_place o) (added_size es code)

length-rest : (o : List ℕ) (es : List Entry) (code : List ℕ) → length (rest_of o es code) ≡ added_size es code
unfolding rest_of
length-rest o es code =
    let a = length-record (record_of o es code) in
    let b = length-entries es in
    let c = length-words code in
    simp length-append (omega (arith, a, b, c))

length-image : (o : List ℕ) (es : List Entry) (code : List ℕ) → HasHeaders o
    → length (image_bytes o es code) ≡ record_place o + added_size es code
length-image o es code h =
    let a = length-front o h in
    let b = length-mark_of o es code in
    let c = length-rest o es code in
    let p = ap length (in_parts o es code) in
    let q = length-append (front_of o) (mark_of o es code ++ rest_of o es code) in
    let r = length-append (mark_of o es code) (rest_of o es code) in
    omega (arith, a, b, c, p, q, r)

phoff-image : (o : List ℕ) (es : List Entry) (code : List ℕ) → IsGiven o es code
    → (file_header (image_bytes o es code)).phoff ≡ headers_place o
phoff-image o es code g =
    let size = length-image o es code g.headers in
    let fits : headers_place o < 2 ^ 64 = omega (arith, size, g.size) in
    unfold image_bytes in phoff-with_headers (headers_place o) ((file_header o).phnum + 1) o _ g.headers.long fits

phnum-image : (o : List ℕ) (es : List Entry) (code : List ℕ) → IsGiven o es code
    → (file_header (image_bytes o es code)).phnum ≡ (file_header o).phnum + 1
phnum-image o es code g =
    let fits : (file_header o).phnum + 1 < 65536 = omega (arith, g.headers.few) in
    unfold image_bytes in phnum-with_headers (headers_place o) ((file_header o).phnum + 1) o _ g.headers.long fits

elf-image : (o : List ℕ) (es : List Entry) (code : List ℕ) → IsGiven o es code → is_elf (image_bytes o es code) ≡ true
unfolding image_bytes
elf-image o es code g =
    elf-with_headers (headers_place o) ((file_header o).phnum + 1) o _ g.headers.long ∙ g.headers.elf

last-image : (o : List ℕ) (es : List Entry) (code : List ℕ) → IsGiven o es code → last_header_place (image_bytes o es code) ≡ mark_place o
last-image o es code g =
    let a = phoff-image o es code g in
    let b = phnum-image o es code g in
    omega (arith, a, b)

kind-image : (o : List ℕ) (es : List Entry) (code : List ℕ) → IsGiven o es code → field 4 (mark_place o) (image_bytes o es code) ≡ mark_kind
kind-image o es code g =
    ap (λ (xs : List ℕ). field 4 (mark_place o) xs) (in_parts o es code)
    ∙ field-past 4 (mark_place o) 0 (mark_place o) (front_of o) _ (length-front o g.headers) (omega arith)
    ∙ (unfold mark_of in mark-kind (record_place o) (added_size es code) (rest_of o es code))

offset-image : (o : List ℕ) (es : List Entry) (code : List ℕ) → IsGiven o es code → field 8 (mark_place o + 8) (image_bytes o es code) ≡ record_place o
offset-image o es code g =
    let size = length-image o es code g.headers in
    let fits : record_place o < 2 ^ 64 = omega (arith, size, g.size) in
    ap (λ (xs : List ℕ). field 8 (mark_place o + 8) xs) (in_parts o es code)
    ∙ field-past 8 (mark_place o) 8 (mark_place o + 8) (front_of o) _ (length-front o g.headers) refl
    ∙ (unfold mark_of in mark-offset (record_place o) (added_size es code) (rest_of o es code) fits)

marked-image : (o : List ℕ) (es : List Entry) (code : List ℕ) → IsGiven o es code → is_marked (image_bytes o es code) ≡ true
unfolding is_marked
marked-image o es code g =
    let img : List ℕ = image_bytes o es code in
    let size = length-image o es code g.headers in
    let last = last-image o es code g in
    let number = phnum-image o es code g in
    let kind : (program_header img (last_header_place img)).kind ≡ mark_kind =
    ap (λ (p : ℕ). field 4 p img) last ∙ kind-image o es code g in
    and_from _ _
    (and_from _ _
    (and_from _ _ (and_from _ _ (le-leb 64 _ (omega (arith, size, g.headers.long))) (elf-image o es code g)) (lt-ltb 0 _ (omega (arith, number))))
    (le-leb _ _ (omega (arith, size, last))))
    (eq-eqb _ _ kind)

rest-image : (o : List ℕ) (es : List Entry) (code : List ℕ) → IsGiven o es code → marked_bytes (image_bytes o es code) ≡ rest_of o es code
rest-image o es code g =
    let img : List ℕ = image_bytes o es code in
    let at : record_place o ≡ (program_header img (last_header_place img)).offset =
    sym (ap (λ (p : ℕ). field 8 (p + 8) img) (last-image o es code g) ∙ offset-image o es code g) in
    let a = length-front o g.headers in
    let b = length-mark_of o es code in
    let c = length-append (front_of o) (mark_of o es code) in
    let len : length (front_of o ++ mark_of o es code) ≡ record_place o = omega (arith, a, b, c) in
    marked-at img (record_place o) at
    ∙ ap (λ (xs : List ℕ). drop (record_place o) xs) (in_parts o es code ∙ sym (append_assoc (front_of o) (mark_of o es code) (rest_of o es code)))
    ∙ drop_at (front_of o ++ mark_of o es code) (rest_of o es code) (record_place o) len

stated : (o : List ℕ) (es : List Entry) (code : List ℕ) → IsGiven o es code → IsStated (record_of o es code)
stated o es code g =
    let size = length-image o es code g.headers in
    let place = field-lt 8 32 o g.bytes in
    record {
      size = omega (arith, size, g.size);
      phoff = place;
      phnum = omega (arith, g.headers.few);
      entries = omega (arith, size, g.size);
      words = omega (arith, size, g.size);
    }

possible-image : (o : List ℕ) (es : List Entry) (code : List ℕ) → IsGiven o es code
    → IsPossible (length (image_bytes o es code)) (rest_of o es code) (record_of o es code)
possible-image o es code g =
    let size = length-image o es code g.headers in
    let rest = length-rest o es code in
    record { long = g.headers.long; within = omega (arith, size); few = omega (arith, g.headers.few); room = omega (arith, rest) }

record-image : (o : List ℕ) (es : List Entry) (code : List ℕ) → IsGiven o es code → is_record (length (image_bytes o es code)) (rest_of o es code) ≡ true
unfolding rest_of
record-image o es code g =
    record-is (length (image_bytes o es code)) (record_of o es code) (flat_map entry_bytes es ++ flat_map word_bytes code) (stated o es code g) (possible-image o es code g)

original-image : (o : List ℕ) (es : List Entry) (code : List ℕ) → IsGiven o es code
    → with_headers (file_header o).phoff (file_header o).phnum (take (length o) (image_bytes o es code)) ≡ o
unfolding image_bytes
original-image o es code g =
    let p : ℕ = headers_place o in
    let n : ℕ = (file_header o).phnum + 1 in
    let own : take (length o) (image_bytes o es code) ≡ with_headers p n o = take_at (with_headers p n o) _ (length o) (length-with_headers p n o g.headers.long) in
    ap (λ (xs : List ℕ). with_headers (file_header o).phoff (file_header o).phnum xs) own
    ∙ with_headers-twice (file_header o).phoff (file_header o).phnum p n o g.headers.long
    ∙ with_headers-own o g.headers.long g.bytes

entries-image : (o : List ℕ) (es : List Entry) (code : List ℕ) → IsGiven o es code → entries_from (rest_of o es code) 48 (length es) ≡ es
unfolding rest_of
entries-image o es code g =
    entries-read es (record_bytes (record_of o es code)) (flat_map word_bytes code) 48 (length-record (record_of o es code)) g.entries

words-image : (o : List ℕ) (es : List Entry) (code : List ℕ) → IsGiven o es code → words_from (rest_of o es code) (48 + 16 * length es) (length code) ≡ code
unfolding rest_of
words-image o es code g =
    let front : List ℕ = record_bytes (record_of o es code) ++ flat_map entry_bytes es in
    let a = length-record (record_of o es code) in
    let b = length-entries es in
    let c = length-append (record_bytes (record_of o es code)) (flat_map entry_bytes es) in
    let len : length front ≡ 48 + 16 * length es = omega (arith, a, b, c) in
    ap (λ (xs : List ℕ). words_from xs (48 + 16 * length es) (length code)) (sym (append_assoc (record_bytes (record_of o es code)) (flat_map entry_bytes es) (flat_map word_bytes code)))
    ∙ words-read code front (48 + 16 * length es) len g.words

-- an image is split into its parts
pub split-image : (o : List ℕ) (es : List Entry) (code : List ℕ) → IsGiven o es code → split_of (image_bytes o es code) ≡ Parts o es code
split-image o es code g =
    let img : List ℕ = image_bytes o es code in
    let rest : List ℕ = rest_of o es code in
    let told : read_record rest ≡ record_of o es code =
    unfold rest_of in record-read (record_of o es code) (flat_map entry_bytes es ++ flat_map word_bytes code) (stated o es code g) in
    let a = original-image o es code g in
    let b = entries-image o es code g in
    let c = words-image o es code g in
    let parts : parts_of img rest (record_of o es code) ≡ Parts o es code = rw (a, b, c) refl in
    split-parts img rest (marked-image o es code g) (rest-image o es code g) (record-image o es code g)
    ∙ ap (λ (r : Record). parts_of img rest r) told ∙ parts

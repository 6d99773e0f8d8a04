use Rattle.std.proofs.Common.{◌≡◌, ◌≤◌, ℕ, List, length, Option, ap, sym, ◌∙◌, refl, arith}
use Rattle.elf_image.specs.declared.header.FileHeader.{FileHeader}
use Rattle.elf_image.specs.declared.header.ProgramHeader.{ProgramHeader}
use Rattle.elf_image.specs.declared.image.Elf.{Elf}
use Rattle.elf_image.specs.declared.image.Segment.{Segment}
use Rattle.elf_image.specs.declared.rules.ElfErr.{ElfErr}
use Rattle.elf_image.specs.Header.{file_header, program_headers, program_headers_from}
use Rattle.elf_image.specs.Rules.{program_refusal}
use Rattle.elf_image.specs.Reading.{elf_of, segments_of, segments_from}
use Rattle.elf_image.proofs.Passed.{IsWhole, file_passed, program_passed, header_within, length-headers, refused_file, refused_program, not_refused, reading-refused, reading-passed, is_reading}
use Rattle.elf_image.proofs.Ordered.{is_loadable, has_headers}
use Rattle.elf_image.proofs.reading.read_elf.Goals as goal

-- the headers that were read
same_headers : (bytes : List ℕ) (h : FileHeader) (slice items : List ProgramHeader) → h ≡ file_header bytes → items ≡ program_headers_from bytes h.phoff h.phnum → slice ≡ items
    → slice ≡ program_headers bytes
unfolding program_headers
same_headers bytes h slice items e read same = rw (same, read, e) refl

few_headers : (bytes : List ℕ) (hs : List ProgramHeader) → IsWhole bytes → hs ≡ program_headers bytes → length hs ≤ 64
few_headers bytes hs w e = let n = length-headers bytes in let few = w.few in rw e (omega arith)

-- what the rules on the headers answer
refusal_is : (bytes : List ℕ) (h : FileHeader) (slice items : List ProgramHeader) (answer : Option ElfErr) → h ≡ file_header bytes → items ≡ program_headers_from bytes h.phoff h.phnum
    → slice ≡ items → answer ≡ program_refusal (length bytes) h.entry slice → program_refusal (length bytes) (file_header bytes).entry (program_headers bytes) ≡ answer
refusal_is bytes h slice items answer e read same is =
    sym (is
    ∙ ap (λ (x : FileHeader). program_refusal (length bytes) x.entry slice) e
    ∙ ap (λ (hs : List ProgramHeader). program_refusal (length bytes) (file_header bytes).entry hs) (same_headers bytes h slice items e read same))

same_elf : (bytes : List ℕ) (h : FileHeader) (hs : List ProgramHeader) (made copied : List Segment) → h ≡ file_header bytes → hs ≡ program_headers bytes → copied ≡ segments_from bytes 0 hs → made ≡ copied
    → ◌≡◌ {A = Elf} (record { entry = h.entry; segments = made }) (elf_of bytes)
unfolding segments_of
same_elf bytes h hs made copied e same from is = rw (is, from, same, e) refl

pub returns-in-Some-clause-refused : goal.returns-in-Some-clause-refused
returns-in-Some-clause-refused c = λ _. refused_file _ _ (sym c.refusal_of_file.ensures ∙ c.in-Some.is)

pub returns-in-Some-clause-answer : goal.returns-in-Some-clause-answer
returns-in-Some-clause-answer c = is_reading _ _ (reading-refused _ _ (refused_file _ _ (sym c.refusal_of_file.ensures ∙ c.in-Some.is)))

pub read-file-requires : goal.read-file-requires
read-file-requires c = (file_passed c.args.bytes.now (sym c.refusal_of_file.ensures ∙ c.in_default.is)).long

pub read_headers-requires-clause-within : goal.read_headers-requires-clause-within
read_headers-requires-clause-within c =
    let bytes : List ℕ = c.args.bytes.now in
    let w = file_passed bytes (sym c.refusal_of_file.ensures ∙ c.in_default.is) in
    rw c.read-file.ensures (λ i h. header_within _ _ _ i h w.within)

pub refusal_of_program-requires : goal.refusal_of_program-requires
refusal_of_program-requires c =
    let bytes : List ℕ = c.args.bytes.now in
    let w = file_passed bytes (sym c.refusal_of_file.ensures ∙ c.in_default.is) in
    few_headers bytes _ w (same_headers bytes _ _ _ c.read-file.ensures c.in_ok-headers.ensures c.as_slice.ensures.value)

pub returns-in-Some-refusal_of_program-clause-refused : goal.returns-in-Some-refusal_of_program-clause-refused
returns-in-Some-refusal_of_program-clause-refused c =
    let answer = refusal_is c.args.bytes.now _ _ _ _ c.read-file.ensures c.in_ok-headers.ensures c.as_slice.ensures.value c.refusal_of_program.ensures in
    λ _. refused_program _ _ (sym c.refusal_of_file.ensures ∙ c.in_default.is) (answer ∙ c.in-Some-refusal_of_program.is)

pub returns-in-Some-refusal_of_program-clause-answer : goal.returns-in-Some-refusal_of_program-clause-answer
returns-in-Some-refusal_of_program-clause-answer c =
    let answer = refusal_is c.args.bytes.now _ _ _ _ c.read-file.ensures c.in_ok-headers.ensures c.as_slice.ensures.value c.refusal_of_program.ensures in
    is_reading _ _ (reading-refused _ _ (refused_program _ _ (sym c.refusal_of_file.ensures ∙ c.in_default.is) (answer ∙ c.in-Some-refusal_of_program.is)))

pub copy_segments-requires-clause-few : goal.copy_segments-requires-clause-few
copy_segments-requires-clause-few c =
    let bytes : List ℕ = c.args.bytes.now in
    let w = file_passed bytes (sym c.refusal_of_file.ensures ∙ c.in_default.is) in
    few_headers bytes _ w (same_headers bytes _ _ _ c.read-file.ensures c.in_ok-headers.ensures c.as_slice-2.ensures.value)

pub copy_segments-requires-clause-whole : goal.copy_segments-requires-clause-whole
copy_segments-requires-clause-whole c =
    let bytes : List ℕ = c.args.bytes.now in
    let answer = refusal_is bytes _ _ _ _ c.read-file.ensures c.in_ok-headers.ensures c.as_slice.ensures.value c.refusal_of_program.ensures in
    let p = program_passed _ _ _ (answer ∙ c.in_default-refusal_of_program.is) in
    let all = same_headers bytes _ _ _ c.read-file.ensures c.in_ok-headers.ensures c.as_slice-2.ensures.value in
    rw (all) p.rules.whole

pub returns-clause-accepted : goal.returns-clause-accepted
returns-clause-accepted c =
    let answer = refusal_is c.args.bytes.now _ _ _ _ c.read-file.ensures c.in_ok-headers.ensures c.as_slice.ensures.value c.refusal_of_program.ensures in
    not_refused _ (sym c.refusal_of_file.ensures ∙ c.in_default.is) (answer ∙ c.in_default-refusal_of_program.is)

pub returns-clause-value : goal.returns-clause-value
returns-clause-value c =
    let all = same_headers c.args.bytes.now _ _ _ c.read-file.ensures c.in_ok-headers.ensures c.as_slice-2.ensures.value in
    same_elf c.args.bytes.now _ _ _ _ c.read-file.ensures all c.in_ok-segments.ensures.copied c.new.ensures

pub returns-clause-answer : goal.returns-clause-answer
returns-clause-answer c = rw (returns-clause-value c) (reading-passed c.args.bytes.now (returns-clause-accepted c))

pub returns-clause-loadable : goal.returns-clause-loadable
returns-clause-loadable c =
    let bytes : List ℕ = c.args.bytes.now in
    let w = file_passed bytes (sym c.refusal_of_file.ensures ∙ c.in_default.is) in
    let answer = refusal_is bytes _ _ _ _ c.read-file.ensures c.in_ok-headers.ensures c.as_slice.ensures.value c.refusal_of_program.ensures in
    rw (returns-clause-value c) (is_loadable bytes w (program_passed _ _ _ (answer ∙ c.in_default-refusal_of_program.is)))

pub returns-clause-headers : goal.returns-clause-headers
returns-clause-headers c =
    let bytes : List ℕ = c.args.bytes.now in
    let answer = refusal_is bytes _ _ _ _ c.read-file.ensures c.in_ok-headers.ensures c.as_slice.ensures.value c.refusal_of_program.ensures in
    has_headers bytes (file_passed bytes (sym c.refusal_of_file.ensures ∙ c.in_default.is)) (program_passed _ _ _ (answer ∙ c.in_default-refusal_of_program.is))

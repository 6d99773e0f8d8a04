-- The rules that a file meets to be read as an executable, in their order. All sums are those of plain
-- numbers.
use Rattle.std.specs.Prelude.{ℕ, suc, ◌+◌, ◌*◌, ◌/◌, ◌%◌, ◌==◌, Bool, ◌&&◌, ◌||◌, nat_le, nat_lt, if◌then◌else◌, List, [], ◌∷◌, length, Option, Some, None}
use Rattle.elf_image.specs.declared.header.FileHeader.{FileHeader}
use Rattle.elf_image.specs.declared.header.ProgramHeader.{ProgramHeader}
use Rattle.elf_image.specs.declared.rules.ElfErr.{ElfErr}
use Rattle.elf_image.specs.declared.rules.ElfErr.TheVariants.{TooLong, NotElf, HeaderCut, Class, ByteOrder, Version, FileType, Machine, Flags, HeaderSize, TooManyHeaders, Marked as IsMarked, SegmentSize as HasSegmentSize, SegmentCut as IsCut, Dynamic as IsDynamic, WritableCode as HasWritableCode, Range as HasRange, TooMuchMemory, Overlap, EntryOutside}
use Rattle.elf_image.specs.declared.rules.HeaderRule.{HeaderRule}
use Rattle.elf_image.specs.declared.rules.HeaderRule.TheVariants.{Marked, SegmentSize, SegmentCut, Dynamic, WritableCode, Range}
use Rattle.elf_image.specs.Header.{is_elf, file_header}
use Rattle.elf_image.specs.declared.image.Segment.{Segment}
use Rattle.elf_image.specs.Layout.{load_end, rounded_low, rounded_end, total_length, in_code}

-- the refusal of a rule that is met only where the test holds
abbrev pub unless : Bool → ElfErr → Option ElfErr
unless b e = if b then None else Some e

-- the first refusal of a list of rules
abbrev pub first_of : List (Option ElfErr) → Option ElfErr
first_of [] = None
first_of (None ∷ rest) = first_of rest
first_of (Some e ∷ rest) = Some e

-- ---- the ELF header (System V gABI, "ELF Header")

-- a static executable for 64-bit little-endian RISC-V without flags, whose program headers have the
-- size of the standard
abbrev pub fields_rules : FileHeader → List (Option ElfErr)
fields_rules h =
    unless (h.class == 2) (Class h.class)
    ∷ unless (h.data_encoding == 1) (ByteOrder h.data_encoding)
    ∷ unless (h.ident_version == 1) (Version h.ident_version)
    ∷ unless (h.version == 1) (Version h.version)
    ∷ unless (h.kind == 2) (FileType h.kind)
    ∷ unless (h.machine == 243) (Machine h.machine)
    ∷ unless (h.flags == 0) (Flags h.flags)
    ∷ unless (h.phnum == 0 || h.phentsize == 56) (HeaderSize h.phentsize)
    ∷ []

abbrev pub fields_refusal : FileHeader → Option ElfErr
fields_refusal h = first_of (fields_rules h)

-- at most 64 program headers, all of them in the file, which has so many bytes
abbrev pub table_rules : ℕ → FileHeader → List (Option ElfErr)
table_rules size h =
    unless (h.phnum == 0 || nat_le (h.phoff + 56 * h.phnum) size) (HeaderCut (h.phoff + 56 * h.phnum) size)
    ∷ unless (nat_le h.phnum 64) (TooManyHeaders h.phnum)
    ∷ []

abbrev pub table_refusal : ℕ → FileHeader → Option ElfErr
table_refusal size h = first_of (table_rules size h)

-- the rules on the file and its ELF header
abbrev pub file_rules : List ℕ → List (Option ElfErr)
file_rules bytes =
    unless (nat_le (length bytes) 67108864) (TooLong (length bytes))
    ∷ unless (is_elf bytes) NotElf
    ∷ unless (nat_le 64 (length bytes)) (HeaderCut 64 (length bytes))
    ∷ fields_refusal (file_header bytes)
    ∷ table_refusal (length bytes) (file_header bytes)
    ∷ []

unfoldable pub file_refusal : List ℕ → Option ElfErr
file_refusal bytes = first_of (file_rules bytes)

-- ---- one program header (System V gABI, "Program Header")

-- a load segment: type PT_LOAD
abbrev pub is_load : ProgramHeader → Bool
is_load h = h.kind == 1

-- one whose memory size is above 0 makes an area
abbrev pub makes_area : ProgramHeader → Bool
makes_area h = h.kind == 1 && nat_lt 0 h.memsz

-- the header breaks a rule; the file has so many bytes
unfoldable pub breaks : HeaderRule → ℕ → ProgramHeader → Bool
breaks Marked size h = h.kind == 0x6550_5201
breaks SegmentSize size h = is_load h && nat_lt h.memsz h.filesz
breaks SegmentCut size h = is_load h && nat_lt size (h.offset + h.filesz)
breaks Dynamic size h = h.kind == 2 || h.kind == 3
breaks WritableCode size h = is_load h && (h.flags / 2 % 2 == 1 && h.flags % 2 == 1)
breaks Range size h = makes_area h && nat_lt load_end (h.vaddr + h.memsz)

abbrev pub refusal_by : HeaderRule → ℕ → ElfErr
refusal_by Marked index = IsMarked index
refusal_by SegmentSize index = HasSegmentSize index
refusal_by SegmentCut index = IsCut index
refusal_by Dynamic index = IsDynamic index
refusal_by WritableCode index = HasWritableCode index
refusal_by Range index = HasRange index

-- the place of the first header for which the test holds, where the first of the list has this place
abbrev pub first_place : (ProgramHeader → Bool) → ℕ → List ProgramHeader → Option ℕ
first_place test index [] = None
first_place test index (h ∷ rest) = if test h then Some index else first_place test (suc index) rest

abbrev pub refused_at : HeaderRule → Option ℕ → Option ElfErr
refused_at rule None = None
refused_at rule (Some index) = Some (refusal_by rule index)

-- a rule is met where no header breaks it
abbrev pub rule_refusal : HeaderRule → ℕ → List ProgramHeader → Option ElfErr
rule_refusal rule size headers = refused_at rule (first_place (breaks rule size) 0 headers)

-- the rules on each header
abbrev pub headers_rules : ℕ → List ProgramHeader → List (Option ElfErr)
headers_rules size headers =
    rule_refusal Marked size headers
    ∷ rule_refusal SegmentSize size headers
    ∷ rule_refusal SegmentCut size headers
    ∷ rule_refusal Dynamic size headers
    ∷ rule_refusal WritableCode size headers
    ∷ rule_refusal Range size headers
    ∷ []

unfoldable pub headers_refusal : ℕ → List ProgramHeader → Option ElfErr
headers_refusal size headers = first_of (headers_rules size headers)

-- ---- all program headers together

-- where the segment of a header lies in memory: the segment, without its bytes of the file
abbrev pub place_of : ProgramHeader → Segment
place_of h = record { index = 0; vaddr = h.vaddr; memsz = h.memsz; flags = h.flags; bytes = [] }

-- the same of all headers that make areas, in the order of the headers
abbrev pub places_of : List ProgramHeader → List Segment
places_of [] = []
places_of (h ∷ rest) = if makes_area h then place_of h ∷ places_of rest else places_of rest

-- the areas have together at most 256 MiB
abbrev pub memory_refusal : List ProgramHeader → Option ElfErr
memory_refusal headers =
    let bytes = total_length (places_of headers) in unless (nat_le bytes 268435456) (TooMuchMemory bytes)

-- the widened byte range in memory
abbrev pub range_low : ProgramHeader → ℕ
range_low h = rounded_low (place_of h)

abbrev pub range_end : ProgramHeader → ℕ
range_end h = rounded_end (place_of h)

-- two areas have an address in common
unfoldable pub meet : ProgramHeader → ProgramHeader → Bool
meet a b = makes_area a && makes_area b && nat_lt (range_low a) (range_end b) && nat_lt (range_low b) (range_end a)

abbrev pub overlap_or : ℕ → Option ℕ → Option ElfErr → Option ElfErr
overlap_or first None later = later
overlap_or first (Some second) later = Some (Overlap first second)

-- the first header that meets a later one, and the first of those
abbrev pub overlap_from : ℕ → List ProgramHeader → Option ElfErr
overlap_from index [] = None
overlap_from index (h ∷ rest) =
    overlap_or index (first_place (meet h) (suc index) rest) (overlap_from (suc index) rest)

abbrev pub overlap_refusal : List ProgramHeader → Option ElfErr
overlap_refusal headers = overlap_from 0 headers

-- the first instruction is aligned and lies in the area of an executable segment
abbrev pub entry_refusal : ℕ → List ProgramHeader → Option ElfErr
entry_refusal entry headers = unless (entry % 4 == 0 && in_code (places_of headers) entry) (EntryOutside entry)

-- the rules on the program headers of a file of so many bytes
abbrev pub program_rules : ℕ → ℕ → List ProgramHeader → List (Option ElfErr)
program_rules size entry headers =
    headers_refusal size headers
    ∷ memory_refusal headers
    ∷ overlap_refusal headers
    ∷ entry_refusal entry headers
    ∷ []

unfoldable pub program_refusal : ℕ → ℕ → List ProgramHeader → Option ElfErr
program_refusal size entry headers = first_of (program_rules size entry headers)

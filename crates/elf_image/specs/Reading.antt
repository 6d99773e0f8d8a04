-- Which files are read as an executable, and as which.
use Rattle.std.specs.Prelude.{ℕ, ◌≡◌, suc, nat_lt, if◌then◌else◌, List, [], ◌∷◌, length, take, drop, Option, Some, None, Result, Ok, Err}
use Rattle.elf_image.specs.declared.header.ProgramHeader.{ProgramHeader}
use Rattle.elf_image.specs.declared.image.Segment.{Segment}
use Rattle.elf_image.specs.declared.image.Elf.{Elf}
use Rattle.elf_image.specs.declared.rules.ElfErr.{ElfErr}
use Rattle.elf_image.specs.declared.rules.ElfErr.TheVariants.{OutOfMemory}
use Rattle.elf_image.specs.Header.{file_header, program_headers}
use Rattle.elf_image.specs.Rules.{first_of, makes_area, file_refusal, program_refusal}

-- the segment of the header at this place among all headers
abbrev pub segment_of : List ℕ → ℕ → ProgramHeader → Segment
segment_of bytes index h =
    record {
      index = index;
      vaddr = h.vaddr;
      memsz = h.memsz;
      flags = h.flags;
      bytes = take h.filesz (drop h.offset bytes);
    }

-- the segments with one more, before the first that starts above it
abbrev pub with_segment : Segment → List Segment → List Segment
with_segment s [] = s ∷ []
with_segment s (t ∷ rest) = if nat_lt s.vaddr t.vaddr then s ∷ (t ∷ rest) else t ∷ with_segment s rest

-- the segments of the headers that make areas, in address order, where the first header has this place
abbrev pub segments_from : List ℕ → ℕ → List ProgramHeader → List Segment
segments_from bytes index [] = []
segments_from bytes index (h ∷ rest) =
    let others = segments_from bytes (suc index) rest in
    if makes_area h then with_segment (segment_of bytes index h) others else others

unfoldable pub segments_of : List ℕ → List Segment
segments_of bytes = segments_from bytes 0 (program_headers bytes)

-- the executable that a file holds
abbrev pub elf_of : List ℕ → Elf
elf_of bytes = record { entry = (file_header bytes).entry; segments = segments_of bytes }

-- the first rule that fails
unfoldable pub refusal_of : List ℕ → Option ElfErr
refusal_of bytes =
    first_of
    (file_refusal bytes
    ∷ program_refusal (length bytes) (file_header bytes).entry (program_headers bytes)
    ∷ [])

abbrev pub reading_by : Option ElfErr → Elf → Result Elf ElfErr
reading_by None elf = Ok elf
reading_by (Some e) elf = Err e

-- the executable, or the first rule that fails
unfoldable pub reading_of : List ℕ → Result Elf ElfErr
reading_of bytes = reading_by (refusal_of bytes) (elf_of bytes)

-- the answer is the reading, but for want of memory
abbrev pub IsReading : Result Elf ElfErr → Result Elf ElfErr → Type 0
IsReading reading (Ok elf) = reading ≡ Ok elf
IsReading reading (Err OutOfMemory) = Unit {0}
IsReading reading (Err e) = reading ≡ Err e

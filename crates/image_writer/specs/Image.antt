-- The layout of an image: the original file, its program headers with one more that marks the image,
-- the record, the entries and the added words. All numbers are little-endian.
use Rattle.std.specs.Prelude.{ℕ, ◌+◌, ◌-◌, ◌*◌, ◌/◌, ◌^◌, ◌<◌, ◌≡◌, List, ◌++◌, length, take, drop, replicate, codes}
use Rattle.std.specs.List.{flat_map}
use Rattle.byteorder.specs.Endian.{little_bytes}
use Rattle.elf_image.specs.Header.{file_header}
use Rattle.image_writer.specs.declared.image.Entry.{Entry}
use Rattle.image_writer.specs.declared.record.Record.{Record}
use Rattle.image_writer.specs.declared.writing.WriteErr.{WriteErr}
use Rattle.image_writer.specs.declared.writing.WriteErr.TheVariants.{CodeTooLong, OutOfMemory}

-- a number in n bytes
unfoldable pub number : ℕ → ℕ → List ℕ
number n value = little_bytes n value

-- a file with another place (8 bytes at 32) and another number (2 bytes at 56) of program headers
unfoldable pub with_headers : ℕ → ℕ → List ℕ → List ℕ
with_headers phoff phnum file =
    take 32 file ++ (number 8 phoff ++ (take 16 (drop 40 file) ++ (number 2 phnum ++ drop 58 file)))

-- the type of the program header that marks an image
abbrev pub mark_kind : ℕ
mark_kind = 0x6550_5201

-- that header: type, flags, offset, vaddr, paddr, filesz, memsz and align, for so many bytes at a place
unfoldable pub mark_bytes : ℕ → ℕ → List ℕ
mark_bytes place size =
    number 4 mark_kind
    ++ (number 4 1 ++ (number 8 place ++ (number 8 0 ++ (number 8 0
    ++ (number 8 size ++ (number 8 size ++ number 8 8))))))

-- the record: its name, its version, the original's length, place and number of program headers, and
-- how many entries and words follow
unfoldable pub record_bytes : Record → List ℕ
record_bytes r =
    codes "XPAR"
    ++ (number 4 1 ++ (number 8 r.size ++ (number 8 r.phoff ++ (number 8 r.phnum
    ++ (number 8 r.entries ++ number 8 r.words)))))

-- an entry has two addresses of 64 bits
abbrev pub IsEntry : Entry → Type 0
IsEntry e = (e.header < 2 ^ 64) × (e.stub < 2 ^ 64)

unfoldable pub entry_bytes : Entry → List ℕ
entry_bytes e = number 8 e.header ++ number 8 e.stub

unfoldable pub word_bytes : ℕ → List ℕ
word_bytes word = number 4 word

-- the place of the copied program headers: the first multiple of 8 that is not in the original
abbrev pub headers_place : List ℕ → ℕ
headers_place original = (length original + 7) / 8 * 8

-- the place of the record, behind the copied headers and the mark
abbrev pub record_place : List ℕ → ℕ
record_place original = headers_place original + 56 * ((file_header original).phnum + 1)

-- how many bytes the record, the entries and the words have
abbrev pub added_size : List Entry → List ℕ → ℕ
added_size entries code = 48 + 16 * length entries + 4 * length code

abbrev pub record_of : List ℕ → List Entry → List ℕ → Record
record_of original entries code =
    record {
      size = length original;
      phoff = (file_header original).phoff;
      phnum = (file_header original).phnum;
      entries = length entries;
      words = length code;
    }

-- all program headers of a file
abbrev pub header_bytes : List ℕ → List ℕ
header_bytes file = take (56 * (file_header file).phnum) (drop (file_header file).phoff file)

-- the image of an original file with entries and added words
unfoldable pub image_bytes : List ℕ → List Entry → List ℕ → List ℕ
image_bytes original entries code =
    with_headers (headers_place original) ((file_header original).phnum + 1) original
    ++ (replicate (headers_place original - length original) 0
    ++ (header_bytes original
    ++ (mark_bytes (record_place original) (added_size entries code)
    ++ (record_bytes (record_of original entries code) ++ (flat_map entry_bytes entries ++ flat_map word_bytes code)))))

-- no image has more added words
abbrev pub word_limit : ℕ
word_limit = 4194304

-- there are more words than that, and so many; of want of memory nothing is said
abbrev pub IsRefused : List ℕ → WriteErr → Type 0
IsRefused code (CodeTooLong words) = (word_limit < length code) × (words ≡ length code)
IsRefused code OutOfMemory = Unit {0}

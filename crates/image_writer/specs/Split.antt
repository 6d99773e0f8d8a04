-- The parts of an image.
use Rattle.std.specs.Prelude.{ℕ, zero, suc, ◌≤◌, ◌+◌, ◌-◌, ◌*◌, ◌==◌, Bool, ◌&&◌, nat_le, nat_lt, nat_eq, if◌then◌else◌, List, [], ◌∷◌, length, take, drop, codes}
use Rattle.std.specs.List.{starts_with}
use Rattle.elf_image.specs.Header.{field, is_elf, file_header, program_header}
use Rattle.image_writer.specs.declared.image.Entry.{Entry}
use Rattle.image_writer.specs.declared.record.Record.{Record}
use Rattle.image_writer.specs.declared.splitting.Split.{Split}
use Rattle.image_writer.specs.declared.splitting.Split.TheVariants.{Plain, BadMark, Parts}
use Rattle.image_writer.specs.Image.{mark_kind, with_headers}

-- the place of the last program header
abbrev pub last_header_place : List ℕ → ℕ
last_header_place bytes = (file_header bytes).phoff + 56 * ((file_header bytes).phnum - 1)

-- an ELF file whose last program header lies in it and has the type of a mark
unfoldable pub is_marked : List ℕ → Bool
is_marked bytes =
    nat_le 64 (length bytes) && is_elf bytes && nat_lt 0 (file_header bytes).phnum
    && nat_le (last_header_place bytes + 56) (length bytes)
    && (program_header bytes (last_header_place bytes)).kind == mark_kind

-- what stands at the place that the mark gives, to the end of the file
unfoldable pub marked_bytes : List ℕ → List ℕ
marked_bytes bytes = drop (program_header bytes (last_header_place bytes)).offset bytes

-- the record at the head of these bytes
abbrev pub read_record : List ℕ → Record
read_record rest =
    record {
      size = field 8 8 rest;
      phoff = field 8 16 rest;
      phnum = field 8 24 rest;
      entries = field 8 32 rest;
      words = field 8 40 rest;
    }

-- the record can be one of a file of this size, which has these bytes at the end
abbrev pub is_possible : ℕ → List ℕ → Record → Bool
is_possible size rest r =
    nat_le 64 r.size && nat_le r.size size && nat_le r.phnum 65535
    && nat_le (48 + 16 * r.entries + 4 * r.words) (length rest)

-- the same as facts
pub record IsPossible (size : ℕ) (rest : List ℕ) (r : Record) : Type 0 where
  pub long : 64 ≤ r.size
  pub within : r.size ≤ size
  pub few : r.phnum ≤ 65535
  pub room : 48 + 16 * r.entries + 4 * r.words ≤ length rest

-- the bytes begin with a whole record of version 1, and what it tells of stands in the file
unfoldable pub is_record : ℕ → List ℕ → Bool
is_record size rest =
    nat_le 48 (length rest) && starts_with nat_eq rest (codes "XPAR") && field 4 4 rest == 1
    && is_possible size rest (read_record rest)

-- so many entries, one after another from a place on
abbrev pub entries_from : List ℕ → ℕ → ℕ → List Entry
entries_from bytes place zero = []
entries_from bytes place (suc n) =
    record { header = field 8 place bytes; stub = field 8 (place + 8) bytes } ∷ entries_from bytes (place + 16) n

-- so many words
abbrev pub words_from : List ℕ → ℕ → ℕ → List ℕ
words_from bytes place zero = []
words_from bytes place (suc n) = field 4 place bytes ∷ words_from bytes (place + 4) n

-- the parts that the record tells of
abbrev pub parts_of : List ℕ → List ℕ → Record → Split
parts_of bytes rest r =
    Parts (with_headers r.phoff r.phnum (take r.size bytes)) (entries_from rest 48 r.entries)
    (words_from rest (48 + 16 * r.entries) r.words)

abbrev pub split_marked : List ℕ → List ℕ → Split
split_marked bytes rest = if is_record (length bytes) rest then parts_of bytes rest (read_record rest) else BadMark

-- no image, an image that is not whole, or the parts of an image
unfoldable pub split_of : List ℕ → Split
split_of bytes = if is_marked bytes then split_marked bytes (marked_bytes bytes) else Plain

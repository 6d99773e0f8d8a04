-- The headers of an ELF-64 file (System V gABI, "ELF Header" and "Program Header"). All numbers are
-- little-endian.
use Rattle.std.specs.Prelude.{ℕ, ◌≡◌, zero, suc, ◌+◌, ◌*◌, ◌≤◌, List, [], ◌∷◌, length, drop, true, Bool, nat_eq}
use Rattle.std.specs.List.{starts_with}
use Rattle.byteorder.specs.Endian.{little_number}
use Rattle.elf_image.specs.declared.header.FileHeader.{FileHeader}
use Rattle.elf_image.specs.declared.header.ProgramHeader.{ProgramHeader}

-- the number in the n bytes at a place of the file
unfoldable pub field : ℕ → ℕ → List ℕ → ℕ
field n place bytes = little_number n (drop place bytes)

-- the file begins with 0x7F and the letters ELF
abbrev pub is_elf : List ℕ → Bool
is_elf bytes = starts_with nat_eq bytes (0x7F ∷ (0x45 ∷ (0x4C ∷ (0x46 ∷ []))))

-- the ELF header, which is the first 64 bytes
abbrev pub file_header : List ℕ → FileHeader
file_header bytes =
    record {
      class = field 1 4 bytes;
      data_encoding = field 1 5 bytes;
      ident_version = field 1 6 bytes;
      kind = field 2 16 bytes;
      machine = field 2 18 bytes;
      version = field 4 20 bytes;
      entry = field 8 24 bytes;
      phoff = field 8 32 bytes;
      flags = field 4 48 bytes;
      phentsize = field 2 54 bytes;
      phnum = field 2 56 bytes;
    }

-- the program header at a place of the file, where it has 56 bytes
abbrev pub program_header : List ℕ → ℕ → ProgramHeader
program_header bytes place =
    record {
      kind = field 4 place bytes;
      flags = field 4 (place + 4) bytes;
      offset = field 8 (place + 8) bytes;
      vaddr = field 8 (place + 16) bytes;
      filesz = field 8 (place + 32) bytes;
      memsz = field 8 (place + 40) bytes;
    }

-- so many program headers, one after another from a place on
abbrev pub program_headers_from : List ℕ → ℕ → ℕ → List ProgramHeader
program_headers_from bytes place zero = []
program_headers_from bytes place (suc n) = program_header bytes place ∷ program_headers_from bytes (place + 56) n

-- all program headers, in the order of the file
unfoldable pub program_headers : List ℕ → List ProgramHeader
program_headers bytes = program_headers_from bytes (file_header bytes).phoff (file_header bytes).phnum

-- the file has an ELF header and from 1 to 64 program headers, and all of them lie in it
pub record HasHeaders (bytes : List ℕ) : Type 0 where
  pub elf : is_elf bytes ≡ true
  pub long : 64 ≤ length bytes
  pub some : 1 ≤ (file_header bytes).phnum
  pub few : (file_header bytes).phnum ≤ 64
  pub within : (file_header bytes).phoff + 56 * (file_header bytes).phnum ≤ length bytes

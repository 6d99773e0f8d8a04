-- The words of code of an executable: what stands at an address of an executable area, which is the
-- byte range of an executable segment, widened outward to multiples of 8.
use Rattle.std.specs.Prelude.{ℕ, ◌==◌, ◌+◌, ◌-◌, ◌*◌, ◌%◌, ◌^◌, nat_lt, if◌then◌else◌, List, [], ◌∷◌, slice_index, Option, Some, None, is_some, IsTrue}
use Rattle.elf_image.specs.declared.image.Segment.{Segment}
use Rattle.elf_image.specs.declared.image.Elf.{Elf}
use Rattle.elf_image.specs.Layout.{is_code_of}

-- the byte at an address of a segment's area: that of the file, or 0 where the file has none
abbrev pub byte_in : Segment → ℕ → ℕ
byte_in s addr = if nat_lt addr s.vaddr then 0 else slice_index s.bytes (addr - s.vaddr)

-- the word of four bytes at an address, the lowest byte first
unfoldable pub word_in : Segment → ℕ → ℕ
word_in s addr =
    byte_in s addr + 2 ^ 8 * byte_in s (addr + 1) + 2 ^ 16 * byte_in s (addr + 2) + 2 ^ 24 * byte_in s (addr + 3)

-- the word at an address of an executable area
abbrev pub word_of : List Segment → ℕ → Option ℕ
word_of [] addr = None
word_of (s ∷ rest) addr = if is_code_of s addr then Some (word_in s addr) else word_of rest addr

-- the word of code at an address: at a multiple of 4 in an executable area
unfoldable pub word_at : Elf → ℕ → Option ℕ
word_at elf addr = if addr % 4 == 0 then word_of elf.segments addr else None

-- there is a word of code at the address
abbrev pub IsCode : Elf → ℕ → Type 0
IsCode elf addr = IsTrue (is_some (word_at elf addr))

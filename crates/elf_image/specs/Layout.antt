-- Where the load segments of an executable lie in memory.
use Rattle.std.specs.Prelude.{ℕ, ◌≡◌, ◌==◌, ◌+◌, ◌*◌, ◌/◌, ◌%◌, ◌<◌, ◌≤◌, ◌-◌, Bool, true, ◌&&◌, ◌||◌, false, nat_le, nat_lt, List, [], ◌∷◌, length}
use Rattle.elf_image.specs.declared.image.Segment.{Segment}
use Rattle.elf_image.specs.declared.image.Elf.{Elf}

-- the permissions in a segment's flags
abbrev pub is_executable : Segment → Bool
is_executable s = s.flags % 2 == 1

abbrev pub is_writable : Segment → Bool
is_writable s = s.flags / 2 % 2 == 1

abbrev pub is_readable : Segment → Bool
is_readable s = s.flags / 4 % 2 == 1

-- a byte range of memory, from its first address on so long, widened outward to multiples of 8
abbrev pub widened_low : ℕ → ℕ
widened_low vaddr = vaddr / 8 * 8

abbrev pub widened_end : ℕ → ℕ → ℕ
widened_end vaddr memsz = (vaddr + memsz + 7) / 8 * 8

-- that of a segment
abbrev pub rounded_low : Segment → ℕ
rounded_low s = widened_low s.vaddr

abbrev pub rounded_end : Segment → ℕ
rounded_end s = widened_end s.vaddr s.memsz

-- how many bytes it has there
abbrev pub rounded_length : Segment → ℕ
rounded_length s = rounded_end s - rounded_low s

-- no load segment lies at this address or above
abbrev pub load_end : ℕ
load_end = 0x5000_0000

-- the segments lie from this address on, one after another and apart, below the end of loads; each
-- has at most as many bytes in the file as in memory, and is not both writable and executable
abbrev pub LieFrom : ℕ → List Segment → Type 0
LieFrom from [] = Unit {0}
LieFrom from (s ∷ rest) =
    (from ≤ rounded_low s) × (0 < s.memsz) × (length s.bytes ≤ s.memsz) × (s.vaddr + s.memsz ≤ load_end)
    × ((is_writable s && is_executable s) ≡ false) × LieFrom (rounded_end s) rest

-- the address lies in the area of an executable segment
abbrev pub is_code_of : Segment → ℕ → Bool
is_code_of s addr = is_executable s && (nat_le (rounded_low s) addr && nat_lt addr (rounded_end s))

-- it lies in that of one of these segments
abbrev pub in_code : List Segment → ℕ → Bool
in_code [] addr = false
in_code (s ∷ rest) addr = is_code_of s addr || in_code rest addr

-- how many bytes the segments have in memory together
abbrev pub total_length : List Segment → ℕ
total_length [] = 0
total_length (s ∷ rest) = rounded_length s + total_length rest

-- what holds of every executable that was read
pub record IsLoadable (elf : Elf) : Type 0 where
  pub few : length elf.segments ≤ 64
  pub apart : LieFrom 0 elf.segments
  pub size : total_length elf.segments ≤ 268435456
  pub aligned : elf.entry % 4 ≡ 0
  pub entry : in_code elf.segments elf.entry ≡ true

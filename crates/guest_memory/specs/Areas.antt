-- The memory that an executable starts with: its load segments, the heap behind them, and the stack.
use Rattle.std.specs.Prelude.{ℕ, ◌+◌, ◌-◌, ◌*◌, ◌/◌, true, false, max, List, [], ◌∷◌, ◌++◌, length, replicate}
use Rattle.elf_image.specs.declared.image.Segment.{Segment}
use Rattle.elf_image.specs.declared.image.Elf.{Elf}
use Rattle.elf_image.specs.Layout.{rounded_low, rounded_end, is_readable, is_writable, is_executable}
use Rattle.rv64_decode.specs.Area.{Area}

-- so many zero bytes
unfoldable pub zeros : ℕ → List ℕ
zeros n = replicate n 0

-- the area of a segment: its bytes of the file at its address, and zero for all others
abbrev pub segment_area : Segment → Area
segment_area s =
    record {
      low = rounded_low s;
      readable = is_readable s;
      writable = is_writable s;
      executable = is_executable s;
      bytes = zeros (s.vaddr - rounded_low s) ++ (s.bytes ++ zeros (rounded_end s - (s.vaddr + length s.bytes)));
    }

abbrev pub segment_areas : List Segment → List Area
segment_areas [] = []
segment_areas (s ∷ rest) = segment_area s ∷ segment_areas rest

-- the end of the highest rounded range
abbrev pub highest_end : List Segment → ℕ
highest_end [] = 0
highest_end (s ∷ rest) = max (rounded_end s) (highest_end rest)

-- the heap starts at the next multiple of 4096
abbrev pub heap_low : List Segment → ℕ
heap_low segments = (highest_end segments + 4095) / 4096 * 4096

abbrev pub heap_size : ℕ
heap_size = 16777216

-- the stack is [0x7F000000, 0x7F800000)
abbrev pub stack_low : ℕ
stack_low = 0x7F00_0000

abbrev pub stack_size : ℕ
stack_size = 0x80_0000

-- an area of zero bytes that may be read and written
abbrev pub data_area : ℕ → ℕ → Area
data_area low size = record { low = low; readable = true; writable = true; executable = false; bytes = zeros size }

-- all areas, in address order
abbrev pub areas_of : Elf → List Area
areas_of elf =
    segment_areas elf.segments
    ++ (data_area (heap_low elf.segments) heap_size ∷ (data_area stack_low stack_size ∷ []))

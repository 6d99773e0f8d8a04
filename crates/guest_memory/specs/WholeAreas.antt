-- Areas begin and end at multiples of 8, so that they have all bytes of an aligned access, or none.
use Rattle.std.specs.Prelude.{ℕ, ◌≡◌, ◌+◌, ◌%◌, ◌<◌, ◌≤◌, List, Some}
use Rattle.std.specs.List.{All}
use Rattle.elf_image.specs.declared.image.Elf.{Elf}
use Rattle.elf_image.specs.Layout.{IsLoadable}
use Rattle.rv64_decode.specs.Area.{Area, area_at, bytes_of}
use Rattle.rv64_decode.specs.declared.memory.Width.{Width}
use Rattle.guest_memory.specs.Areas.{areas_of}
use Rattle.guest_memory.specs.Layout.{AreasLieFrom, end_of}

-- the area begins and ends at multiples of 8
abbrev pub IsWhole : Area → Type 0
IsWhole a = (a.low % 8 ≡ 0) × (end_of a % 8 ≡ 0)

-- the areas that an executable starts with lie one after another
abbrev pub LoadedLaw : Type 0
LoadedLaw = (elf : Elf) → IsLoadable elf → AreasLieFrom 0 (areas_of elf)

-- and areas that do so are whole
abbrev pub WholeLaw : Type 0
WholeLaw = (m : List Area) → AreasLieFrom 0 m → All IsWhole m

-- the area in which an aligned access begins has all of its bytes
abbrev pub AlignedLaw : Type 0
AlignedLaw = (m : List Area) (addr : ℕ) (width : Width) (a : Area) (b : ℕ) → AreasLieFrom 0 m
    → addr % bytes_of width ≡ 0 → area_at m addr ≡ Some a → addr ≤ b → b < addr + bytes_of width
    → area_at m b ≡ Some a

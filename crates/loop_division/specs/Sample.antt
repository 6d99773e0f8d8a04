-- The least example: an executable without segments has a division, without entries and words. It has no word at its
-- entry, so that no file that can be loaded gives it.
use Rattle.std.specs.Prelude.{[]}
use Rattle.elf_image.specs.declared.image.Elf.{Elf}
use Rattle.loop_division.specs.Division.{IsDivision}

-- an executable without segments
abbrev pub no_code : Elf
no_code = record { entry = 0; segments = [] }

-- its division has no entries and no words
abbrev pub NoCodeLaw : Type 0
NoCodeLaw = IsDivision no_code [] []

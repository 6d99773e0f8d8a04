-- What the bounds in a check tell of memory, and the entry values of states.
use Rattle.std.specs.Prelude.{◌≡◌, List}
use Rattle.elf_image.specs.declared.image.Elf.{Elf}
use Rattle.elf_image.specs.Layout.{IsLoadable}
use Rattle.guest_memory.specs.Areas.{areas_of}
use Rattle.guest_memory.specs.Layout.{KeepAreas}
use Rattle.rv64_decode.specs.Area.{Area}
use Rattle.loop_data.specs.Locations.{CellMap}
use Rattle.loop_data.specs.Runs.{State}
use Rattle.loop_data.specs.Holds.{entry_of}
use Rattle.alias_checks.specs.Areas.{Bounds, AreBoundsOf}
use Rattle.alias_checks.specs.Entry.{entry}
use Rattle.alias_checks.specs.Listing.{bounds_of}

-- the bounds of an executable are those of the areas with which it starts
abbrev pub StartLaw : Type 0
StartLaw = (elf : Elf) → IsLoadable elf → AreBoundsOf (bounds_of elf) (areas_of elf)

-- and they stay so while the areas and their permissions stay
abbrev pub KeptLaw : Type 0
KeptLaw = (bs : List Bounds) (m n : List Area) → AreBoundsOf bs m → KeepAreas m n → AreBoundsOf bs n

-- the entry values are those of the locations in the state of an arrival
abbrev pub EntryLaw : Type 0
EntryLaw = (C : CellMap) (s : State) → entry C.cells s.regs s.memory ≡ entry_of C s

-- What the cells of a loop have to meet.
use Rattle.std.specs.Prelude.{ℕ, ◌==◌, ◌+◌, ◌%◌, ◌^◌, ◌<◌, Bool, true, false, not, ◌&&◌, ◌||◌, nat_lt, if◌then◌else◌, List, [], ◌∷◌, pos, Option, Some, None}
use Rattle.std.specs.List.{list_all}
use Rattle.rv64_decode.specs.Area.{bytes_of}
use Rattle.loop_data.specs.declared.verdict.Cell.{Cell}
use Rattle.loop_data.specs.Locations.{address, width_of}
use Rattle.dependence_tests.specs.PairTests.{are_disjoint}
use Rattle.alias_checks.specs.declared.areas.Permission.{Permission}
use Rattle.alias_checks.specs.declared.areas.Permission.TheVariants.{Read, ReadAndWrite}
use Rattle.alias_checks.specs.Areas.{Range}

-- the base of a cell, if it has one, is one of the 32 registers
abbrev pub HasRegister : Option ℕ → Type 0
HasRegister None = Unit {0}
HasRegister (Some r) = r < 32

abbrev pub cell_size : Cell → ℕ
cell_size c = bytes_of (width_of c)

-- the bytes of a cell, where the registers are these
abbrev pub cell_range : List ℕ → Cell → Range
cell_range regs c = (pos (address regs c), pos (address regs c + cell_size c))

-- a cell is read at the entry, and one that is stored is written too
abbrev pub cell_permission : Cell → Permission
cell_permission c = if c.stored then ReadAndWrite else Read

-- a cell is aligned, and lies below 2 ^ 31 in one area that permits what is done with it
unfoldable pub cell_fits : (Permission → Range → Bool) → List ℕ → Cell → Bool
cell_fits inside regs c =
    (address regs c % cell_size c == 0)
    && (nat_lt (address regs c) (2 ^ 31) && inside (cell_permission c) (cell_range regs c))

-- the address of a cell, which has a register, lies below 2 ^ 31
pub record IsLow (regs : List ℕ) (c : Cell) : Type 0 where
  pub register : HasRegister c.base
  pub below : address regs c < 2 ^ 31

abbrev pub same_base : Option ℕ → Option ℕ → Bool
same_base None None = true
same_base None (Some r) = false
same_base (Some q) None = false
same_base (Some q) (Some r) = q == r

-- two cells of different bases, of which one is stored, have no byte in common
unfoldable pub are_clear : List ℕ → Cell → Cell → Bool
are_clear regs c d =
    same_base c.base d.base
    || (not (c.stored || d.stored) || are_disjoint (cell_range regs c) (cell_range regs d))

-- so it is with each two of the cells
abbrev pub all_clear : List ℕ → List Cell → Bool
all_clear regs [] = true
all_clear regs (c ∷ cs) = list_all (are_clear regs c) cs && all_clear regs cs

-- What does not fit the loops of the samples: cells, roles, forms and areas that are wrong in one thing.
use Rattle.std.specs.Prelude.{ℕ, ◌==◌, Bool, ◌&&◌, if◌then◌else◌, List, [], ◌∷◌, ◌++◌, Option, Some, None, pos}
use Rattle.rv64_decode.specs.Area.{Area}
use Rattle.linear_forms.specs.Forms.{LinearForm, moving}
use Rattle.loop_data.specs.declared.shape.Level.{Level}
use Rattle.loop_data.specs.Locations.{CellMap}
use Rattle.loop_data.specs.Independent.{Role, Private}
use Rattle.loop_samples.specs.Samples.{series, code_area, data_area}
use Rattle.loop_samples.specs.AddLoop.{add_loop, add_roles}
use Rattle.loop_samples.specs.NestLoop.{counter, number, used_by}

-- the cells of the nest, where the counter is such a cell
abbrev pub cells_with : (wide stored : Bool) → CellMap
cells_with wide stored =
    record { cells = record counter { wide = wide; stored = stored } ∷ number ∷ []; uses = used_by }

-- and where the store to it is not one of its uses
abbrev pub uses_without_store : ℕ → Option ℕ
uses_without_store u = if u == 0x1_000C then None else used_by u

abbrev pub cells_without_store : CellMap
cells_without_store = record { cells = counter ∷ number ∷ []; uses = uses_without_store }

-- the roles of the loop that adds, but that x20, which no word writes, is private
abbrev pub unwritten_roles : ℕ → Role
unwritten_roles r = if r == 20 then Private else add_roles r

-- a form at the nest's header that moves x5 on by 2 in each turn
abbrev pub fast_forms : ℕ → ℕ → Option LinearForm
fast_forms u r = if (u == 0x1_0000) && (r == 5) then Some (moving 5 (pos 2)) else None

-- the areas of the loop that adds, but that its first word has one byte other than there: ld a5, 0(a1)
abbrev pub other_words : List ℕ
other_words =
    0x0005_B783 ∷ 0x0006_3783 ∷ 0x00F7_0733 ∷ 0x00E5_3023 ∷ 0x0085_8593 ∷ 0x0086_0613 ∷ 0x0085_0513
    ∷ 0xFED5_92E3 ∷ []

abbrev pub other_areas : List Area
other_areas =
    code_area 0x1_00F0 other_words ∷ data_area 0x2_0000 (series 20 0 1 ++ series 20 0 2 ++ series 20 0 0) ∷ []

-- the loop that adds, but that one of its words is no word of the loop
abbrev pub gap_loop : Level
gap_loop =
    record add_loop {
      body = 0x1_00F0 ∷ 0x1_00F4 ∷ 0x1_00F8 ∷ 0x1_00FC ∷ 0x1_0104 ∷ 0x1_0108 ∷ 0x1_010C ∷ [];
    }

-- More of what does not fit the loops of the samples.
use Rattle.std.specs.Prelude.{ℕ, ◌==◌, if◌then◌else◌, true, false, List, [], ◌∷◌, ◌++◌, Option, Some, None, pos}
use Rattle.rv64_decode.specs.Area.{Area}
use Rattle.loop_data.specs.Locations.{CellMap}
use Rattle.loop_data.specs.Independent.{Role, Moves, Private}
use Rattle.loop_samples.specs.Samples.{series, code_area, data_area}
use Rattle.loop_samples.specs.AddLoop.{add_roles, words}
use Rattle.loop_samples.specs.NestLoop.{counter, number, used_by, nest_roles}

-- the nest's cells, where the load of the counter is not one of its uses
abbrev pub uses_without_load : ℕ → Option ℕ
uses_without_load u = if u == 0x1_0000 then None else used_by u

abbrev pub cells_without_load : CellMap
cells_without_load = record { cells = counter ∷ number ∷ []; uses = uses_without_load }

-- a cell whose address moves on, accessed by the load of the loop that copies
abbrev pub moving_use : ℕ → Option ℕ
moving_use u = if u == 0x1_0000 then Some 0 else None

abbrev pub moving_cell : CellMap
moving_cell =
    record { cells = record { base = Some 10; offset = pos 0; wide = true; stored = false } ∷ []; uses = moving_use }

-- a cell beside the bytes that the loop with one store stores
abbrev pub cell_beside : CellMap
cell_beside =
    record { cells = record { base = Some 10; offset = pos 8; wide = true; stored = true } ∷ []; uses = λ u. None }

-- roles with a step that is too long, and one with the counter of the nest private, which is read first
abbrev pub fast_roles : ℕ → Role
fast_roles r = if r == 10 then Moves (pos 16) else add_roles r

abbrev pub private_counter : ℕ → Role
private_counter r = if r == 32 then Private else nest_roles r

-- the arrays' area, and the areas with another in its place
abbrev pub array_area : Area
array_area = data_area 0x2_0000 (series 20 0 1 ++ series 20 0 2 ++ series 20 0 0)

abbrev pub areas_with : Area → List Area
areas_with a = code_area 0x1_00F0 words ∷ a ∷ []

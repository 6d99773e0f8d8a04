-- The check: what it answers where a loop is arrived at.
use Rattle.std.specs.Prelude.{ℕ, Bool, ◌&&◌, if◌then◌else◌, List, map, ℤ, Option, Some, None}
use Rattle.std.specs.List.{list_all}
use Rattle.rv64_decode.specs.Area.{Area}
use Rattle.alias_checks.specs.declared.lists.Check.{Check}
use Rattle.alias_checks.specs.declared.lists.Turns.{Turns}
use Rattle.alias_checks.specs.declared.areas.Permission.{Permission}
use Rattle.alias_checks.specs.Areas.{Range, in_memory}
use Rattle.alias_checks.specs.Entry.{entry}
use Rattle.alias_checks.specs.CellTests.{cell_fits, all_clear}
use Rattle.alias_checks.specs.TurnTests.{turns_of, last_of}
use Rattle.alias_checks.specs.AccessTests.{duty_fits, access_fits, place_of, all_keep_off, pair_passes}

-- each cell fits, and no two meet
abbrev pub cells_pass : Check → (Permission → Range → Bool) → List ℕ → Bool
cells_pass c inside regs =
    list_all (cell_fits inside regs) c.cells.list.items && all_clear regs c.cells.list.items

-- the duties, the accesses, the accesses with the cells, and the pairs of accesses, up to the last turn and passes
abbrev pub all_pass : Check → (Permission → Range → Bool) → List ℕ → (ℕ → ℤ) → List ℕ → Bool
all_pass c inside regs e last =
    let places = map (place_of e last) c.accesses.list.items in
    list_all (duty_fits e last) c.duties
    && (list_all (access_fits inside e last) c.accesses.list.items
    && (all_keep_off regs c.cells.list.items places && list_all (pair_passes places last) c.pairs))

abbrev pub if_all_pass :
    Check → (Permission → Range → Bool) → List ℕ → (ℕ → ℤ) → Option Turns → Option Turns
if_all_pass c inside regs e (Some t) = if all_pass c inside regs e (last_of t) then Some t else None
if_all_pass c inside regs e None = None

-- the turns and passes, where all tests pass
abbrev pub answer_by : Check → (Permission → Range → Bool) → List ℕ → (ℕ → ℤ) → Option Turns
answer_by c inside regs e =
    if cells_pass c inside regs then if_all_pass c inside regs e (turns_of c.trips e) else None

-- where the registers and the memory are these
abbrev pub answer : Check → List ℕ → List Area → Option Turns
answer c regs m = answer_by c (in_memory m) regs (entry c.cells.list.items regs m)

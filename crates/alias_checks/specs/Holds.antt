-- What a check says of a loop where it holds: eight facts over integers and areas of memory.
use Rattle.std.specs.Prelude.{ℕ, suc, ◌≡◌, ◌≢◌, ◌↔◌, ◌≤◌, ◌<◌, ◌+◌, ◌-◌, ◌%◌, ◌^◌, ◌⊎◌, true, List, length, ℤ, pos, negsuc, ◌≤ℤ◌, ◌<ℤ◌, Option, Some, None, slice_get, slice_index, slice_index_or}
use Rattle.std.specs.List.{All, AllPairs, Contains}
use Rattle.rv64_decode.specs.Area.{Area, bytes_of}
use Rattle.rv64_decode.specs.Row.{signed64}
use Rattle.loop_data.specs.declared.accesses.Access.{Access}
use Rattle.loop_data.specs.declared.equations.Duty.{Duty}
use Rattle.loop_data.specs.declared.trips.Trip.{Trip}
use Rattle.loop_data.specs.declared.verdict.Cell.{Cell}
use Rattle.loop_data.specs.Locations.{address}
use Rattle.loop_data.specs.Trips.{number_of_stays}
use Rattle.dependence_tests.specs.Overlaps.{whole_range}
use Rattle.dependence_tests.specs.Separation.{AreDisjoint, PassTest}
use Rattle.alias_checks.specs.declared.areas.Permission.{Permission}
use Rattle.alias_checks.specs.declared.lists.Check.{Check}
use Rattle.alias_checks.specs.declared.lists.Turns.{Turns}
use Rattle.alias_checks.specs.Areas.{Range, permits}
use Rattle.alias_checks.specs.Entry.{entry, start_value}
use Rattle.alias_checks.specs.CellTests.{cell_size, cell_range, cell_permission}
use Rattle.alias_checks.specs.TurnTests.{AreRootTurns, ArePasses, last_of}
use Rattle.alias_checks.specs.AccessTests.{last_at, extent, access_permission}
use Rattle.alias_checks.specs.Listing.{ArePairs}
use Rattle.alias_checks.specs.Answers.{answer}

-- all of a range lies in one area of memory, which permits the access
pub record LiesIn (m : List Area) (permission : Permission) (r : Range) : Type 0 where
  pub area : Area
  pub among : Contains m area
  pub permitted : permits permission area ≡ true
  pub low : pos area.low ≤ℤ r.0
  pub end : r.1 ≤ℤ pos (area.low + length area.bytes)

-- a cell is aligned, and lies below 2 ^ 31 in one area that permits what is done with it
pub record CellHolds (regs : List ℕ) (m : List Area) (c : Cell) : Type 0 where
  pub aligned : address regs c % cell_size c ≡ 0
  pub below : address regs c < 2 ^ 31
  pub lies : LiesIn m (cell_permission c) (cell_range regs c)

-- two cells of different bases, of which one is stored, have no byte in common
abbrev pub CellsHold : List ℕ → Cell → Cell → Type 0
CellsHold regs c d = c.base ≢ d.base → (c.stored ≡ true) ⊎ (d.stored ≡ true)
    → AreDisjoint (cell_range regs c) (cell_range regs d)

-- the root's trip tells p turns, from 16 to 2 ^ 31
pub record RootHolds (trips : List Trip) (e : ℕ → ℤ) (p : ℕ) : Type 0 where
  pub trip : Trip
  pub first : slice_get trips 0 ≡ Some trip
  pub number : number_of_stays trip e ≡ Some p
  pub limits : AreRootTurns p

-- an inner loop's trip tells one turn less than its passes, of which there are from 1 to 2 ^ 31; one where there is no
-- such loop
abbrev pub PassesHold : Option Trip → (ℕ → ℤ) → ℕ → Type 0
PassesHold (Some t) e n = ArePasses n × (number_of_stays t e ≡ Some (n - 1))
PassesHold None e n = n ≡ 1

-- the least and the greatest value of a duty's form are signed numbers of 32 bits
pub record DutyHolds (e : ℕ → ℤ) (last : List ℕ) (d : Duty) : Type 0 where
  pub low : negsuc (2 ^ 31 - 1) ≤ℤ (extent d.form (signed64 (start_value d.form e)) (last_at d.around last)).0
  pub high : (extent d.form (signed64 (start_value d.form e)) (last_at d.around last)).1 <ℤ pos (2 ^ 31)

-- where an access begins, and its whole range
abbrev pub first_address : (ℕ → ℤ) → Access → ℕ
first_address e a = start_value a.form e

abbrev pub range_of : (ℕ → ℤ) → List ℕ → Access → Range
range_of e last a = whole_range a (pos (first_address e a)) last

-- an access begins below 2 ^ 31 and aligned, and its range lies in one area that permits it
pub record AccessHolds (m : List Area) (e : ℕ → ℤ) (last : List ℕ) (a : Access) : Type 0 where
  pub below : first_address e a < 2 ^ 31
  pub aligned : first_address e a % bytes_of a.width ≡ 0
  pub lies : LiesIn m (access_permission a) (range_of e last a)

-- a cell and an access, of which one is stored, have no byte in common
abbrev pub KeepsOff : List ℕ → (ℕ → ℤ) → List ℕ → Cell → Access → Type 0
KeepsOff regs e last c a = (c.stored ≡ true) ⊎ (a.store ≡ true)
    → AreDisjoint (cell_range regs c) (range_of e last a)

-- two accesses, of which one is a store, pass their test
abbrev pub PairHolds : (ℕ → ℤ) → List ℕ → Access → Access → Type 0
PairHolds e last a b = (a.store ≡ true) ⊎ (b.store ≡ true)
    → PassTest a b (pos (first_address e a)) (pos (first_address e b)) last

-- the check of a loop holds where it is arrived at with these registers and this memory, and tells these turns
pub record Holds (c : Check) (regs : List ℕ) (m : List Area) (t : Turns) : Type 0 where
  pub cells : All (CellHolds regs m) c.cells.list.items
  pub apart : AllPairs (CellsHold regs) c.cells.list.items
  pub root : RootHolds c.trips (entry c.cells.list.items regs m) t.root
  pub three : length t.inner ≡ 3
  pub inner : (k : ℕ) → k < 3
      → PassesHold (slice_get c.trips (suc k)) (entry c.cells.list.items regs m) (slice_index t.inner k)
  pub duties : All (DutyHolds (entry c.cells.list.items regs m) (last_of t)) c.duties
  pub accesses : All (AccessHolds m (entry c.cells.list.items regs m) (last_of t)) c.accesses.list.items
  pub off :
      All (λ (d : Cell). All (KeepsOff regs (entry c.cells.list.items regs m) (last_of t) d) c.accesses.list.items)
      c.cells.list.items
  pub pairs : (i j : ℕ) (d : Access) → i ≤ j → j < length c.accesses.list.items
      → PairHolds (entry c.cells.list.items regs m) (last_of t) (slice_index_or c.accesses.list.items i d)
      (slice_index_or c.accesses.list.items j d)

-- the answer is these turns exactly where the check holds with them
abbrev pub HoldsLaw : Type 0
HoldsLaw = (c : Check) (regs : List ℕ) (m : List Area) (t : Turns) → ArePairs c.accesses.list.items c.pairs
    → (answer c regs m ≡ Some t) ↔ Holds c regs m t

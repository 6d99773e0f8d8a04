-- What the pass over values makes of the places of a body, one after the other.
use Rattle.std.specs.Prelude.{ℕ, ◌≡◌, ◌≢◌, ◌<◌, ◌↔◌, ◌==◌, ◌||◌, ◌&&◌, Bool, true, false, List, [], ◌∷◌, Option, Some, None, slice_index_or, slice_set}
use Rattle.std.specs.List.{Contains}
use Rattle.loop_data.specs.declared.flow.Flow.{Flow}
use Rattle.loop_data.specs.declared.shape.Level.{Level}
use Rattle.loop_data.specs.declared.values.Value.{Value}
use Rattle.loop_data.specs.declared.values.Values.{Values}
use Rattle.loop_data.specs.LoopCode.{LoopCode, any_writes}
use Rattle.loop_data.specs.Facts.{Fact, fact_past}
use Rattle.loop_data.specs.FactPass.{header_fact}
use Rattle.loop_data.specs.Flows.{rows, row_at}
use Rattle.loop_data.specs.Lookups.{fact_in}

-- nothing is known of any location
abbrev pub nothing_known : Values
nothing_known = record { at = 0; of = [] }

abbrev pub values_at : List Values → ℕ → Values
values_at points k = slice_index_or points k nothing_known

-- the fact of a location after the word at a place
abbrev pub past : Flow → List Values → ℕ → ℕ → Option Fact
past flow points k r =
    fact_past (values_at points k).at (slice_index_or flow.instrs.items k None) (slice_index_or flow.uses.items k None)
    (fact_in (values_at points k).of) r

-- a loop with this header writes the location
abbrev pub lost_by : LoopCode → List Level → ℕ → ℕ → Bool
lost_by B [] v r = false
lost_by B (m ∷ ms) v r = ((m.header == v) && any_writes B m.body r) || lost_by B ms v r

-- the fact of a location at a word that is no header of the loop itself, where it is lost, or where edges
-- from these places meet
abbrev pub IsInnerFact : Bool → Flow → List Values → List ℕ → ℕ → Option Fact → Type 0
IsInnerFact true flow points sources r fact = fact ≡ None
IsInnerFact false flow points sources r fact =
    (x : Fact) → (fact ≡ Some x) ↔ ((k : ℕ) → Contains sources k → past flow points k r ≡ Some x)

-- the values are those of the word v at place p, out of the values at its sources
pub record IsState (B : LoopCode) (levels : List Level) (header : ℕ) (flow : Flow) (points : List Values) (p v : ℕ)
    (state : List Value) : Type 0 where
  pub first : v ≡ header → (r : ℕ) → r < 48 → fact_in state r ≡ header_fact B r
  pub other : v ≢ header → (r : ℕ) → r < 48
      → IsInnerFact (lost_by B levels v r) flow points (row_at (rows flow.sources.items) p) r (fact_in state r)

-- the values of place p are right
abbrev pub IsPlace : LoopCode → List Level → ℕ → Flow → List Values → ℕ → Type 0
IsPlace B levels header flow points p =
    IsState B levels header flow points p (values_at points p).at (values_at points p).of

-- the new points are the old ones with other values at place p, which are right
pub record IsSetAt (B : LoopCode) (levels : List Level) (header : ℕ) (flow : Flow) (p : ℕ) (old new : List Values)
    : Type 0 where
  pub state : List Value
  pub right : IsState B levels header flow old p (values_at old p).at state
  pub is : new ≡ slice_set old p (record { at = (values_at old p).at; of = state })

-- What the trips of the loops of a nest say of their turns in a run.
use Rattle.std.specs.Prelude.{ℕ, suc, ◌≡◌, ◌<◌, ◌≤◌, true, false, List, Option, Some}
use Rattle.rv64_decode.specs.Range.{AreWords, AreBytes}
use Rattle.rv64_decode.specs.declared.outcome.Next.TheVariants.{At}
use Rattle.linear_forms.specs.Forms.{LinearForm}
use Rattle.loop_data.specs.declared.graph.Graph.{Graph}
use Rattle.loop_data.specs.declared.shape.Level.{Level}
use Rattle.loop_data.specs.declared.trips.Trip.{Trip}
use Rattle.loop_data.specs.Nests.{Nest, has, In, nest_of}
use Rattle.loop_data.specs.LoopWords.{AreNest}
use Rattle.loop_data.specs.Runs.{State, run, walk, goes_at, instr}
use Rattle.loop_data.specs.Turns.{turn, Leaves, Stays}
use Rattle.loop_data.specs.Passes.{pass}
use Rattle.loop_data.specs.Locations.{CellMap}
use Rattle.loop_data.specs.LoopCode.{LoopCode, code_of}
use Rattle.loop_data.specs.Holds.{entry_of, HoldsAt, FormsHold}
use Rattle.loop_data.specs.Executing.{AreProgramWords, Executes}
use Rattle.loop_data.specs.Trips.{trip_of, number_of_stays}

-- the loop has a trip, which tells this number of turns where the root is entered in this state
pub record Tells (G : Graph) (C : CellMap) (at : ℕ → ℕ → Option LinearForm) (l : Level) (s : State) (n : ℕ)
    : Type 0 where
  pub trip : Trip
  pub is : trip_of G l at ≡ Some trip
  pub number : number_of_stays trip (entry_of C s) ≡ Some n

-- a run executes the words of the root up to visit m and at it, and is there at the exit branch of a loop, where
-- the forms hold
pub record IsAtExit (N : Nest) (B : LoopCode) (at : ℕ → ℕ → Option LinearForm) (l : Level) (s : State) (m : ℕ)
    : Type 0 where
  pub executes : Executes N.root B s m
  pub word : instr (run s m) ≡ B.instr (walk s m)
  pub exit : walk s m ≡ l.exit
  pub holds : HoldsAt N B.cells at s m

-- after visit m, in turn t of a loop, the run stays in the loop where t is below n, and leaves it where t is n
pub record StaysUntil (l : Level) (s : State) (m t n : ℕ) : Type 0 where
  pub stays : t < n → goes_at (has l.body) (run s (suc m)).next ≡ true
  pub leaves : t ≡ n → goes_at (has l.body) (run s (suc m)).next ≡ false

-- so it is at each visit of the root's exit branch, by its turns
abbrev pub TurnLaw : Type 0
TurnLaw = (G : Graph) (levels : List Level) (nest : AreNest G levels) → AreProgramWords G → (C : CellMap) →
    let N = nest_of G nest.root nest.inner in
    (at : ℕ → ℕ → Option LinearForm) (s : State) (m n : ℕ) → Tells G C at N.root s n
    → IsAtExit N (code_of G C) at N.root s m → StaysUntil N.root s m (turn N.root s m) n

-- and at each visit of an inner loop's, by the passes of that run of the loop
abbrev pub PassLaw : Type 0
PassLaw = (G : Graph) (levels : List Level) (nest : AreNest G levels) → AreProgramWords G → (C : CellMap) →
    let N = nest_of G nest.root nest.inner in
    (at : ℕ → ℕ → Option LinearForm) (l : Level) (s : State) (m n : ℕ) → In N.inner l → Tells G C at l s n
    → IsAtExit N (code_of G C) at l s m → StaysUntil l s m (pass l (walk s) m) n

-- a run from the root's header, of registers that are words and bytes that are bytes, executes up to turn n at each
-- word of the root what the word stands for
pub record Follows (N : Nest) (B : LoopCode) (s : State) (n : ℕ) : Type 0 where
  pub start : s.next ≡ At N.root.header
  pub registers : AreWords s.regs
  pub bytes : AreBytes s.memory
  pub words : (m : ℕ) → turn N.root s m ≤ n → goes_at (has N.root.body) (run s m).next ≡ true
      → instr (run s m) ≡ B.instr (walk s m)

-- no turn below n leaves the root, and n is the number of its stays where turn n comes to the exit branch and the
-- forms hold there
pub record IsNumberOfStays (N : Nest) (C : CellMap) (at : ℕ → ℕ → Option LinearForm) (s : State) (n : ℕ)
    : Type 0 where
  pub below : (m : ℕ) → turn N.root s m < n → ¬ Leaves N.root s m
  pub stays : (m : ℕ) → turn N.root s m ≡ n → (run s m).next ≡ At N.root.exit → HoldsAt N C at s m
      → Stays N.root s n

-- so it is where the forms hold in the turns below n
abbrev pub StaysLaw : Type 0
StaysLaw = (G : Graph) (levels : List Level) (nest : AreNest G levels) → AreProgramWords G → (C : CellMap) →
    let N = nest_of G nest.root nest.inner in
    (at : ℕ → ℕ → Option LinearForm) (s : State) (n : ℕ) → Follows N (code_of G C) s n → Tells G C at N.root s n
    → FormsHold N C at s n → IsNumberOfStays N C at s n

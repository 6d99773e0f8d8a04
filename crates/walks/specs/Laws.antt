-- What the machine with one hart counts: what the walk counts.
use Rattle.std.specs.Prelude.{ℕ, ◌≡◌, ◌<◌, ◌≤◌, List, [], ◌∷◌, map, replicate, IsNone, Bool, true, false, Option, None}
use Rattle.serial_run.specs.Serial.{State as SerialState, start_of, serial, ended, IsEnding}
use Rattle.image_writer.specs.declared.image.Image.{Image}
use Rattle.hart_core.specs.declared.counts.LoopCount.{LoopCount}
use Rattle.hart_core.specs.declared.entries.Found.{Found}
use Rattle.hart_core.specs.Machine.{Hart, State, capped}
use Rattle.hart_core.specs.Counting.{events_of, steps_of}
use Rattle.hart_core.specs.Entering.{headers_of, arrival, with_arrival}
use Rattle.hart_core.specs.Start.{start_state}
use Rattle.hart_core.specs.Alone.{events_alone}
use Rattle.one_hart.specs.Laws.{IsDivided, AreBytes, EndsAs}
use Rattle.walks.specs.Walk.{Point, state_at, GoesOn, IsPoint}

-- there is one walk
abbrev pub OneWalkLaw : Type 0
OneWalkLaw = (image : Image) (input : List ℕ) (k : ℕ) (w v : Point) → IsPoint image input k w → IsPoint image input k v
    → w ≡ v

-- it goes on from each of its points at which the serial run has no ending
abbrev pub OnLaw : Type 0
OnLaw = (image : Image) (input : List ℕ) (k : ℕ) (w : Point) → IsDivided image → AreBytes input
    → IsPoint image input k w → ended (state_at image input w) ≡ None → (v : Point) × GoesOn image input w v

-- it has a count of each entry
abbrev pub EntriesLaw : Type 0
EntriesLaw = (image : Image) (input : List ℕ) (k : ℕ) (w : Point) → IsPoint image input k w
    → map (λ (c : LoopCount). c.header) w.loops ≡ headers_of image.entries

-- and counts events each time
abbrev pub MoreLaw : Type 0
MoreLaw = (image : Image) (input : List ℕ) (k : ℕ) (w : Point) → IsPoint image input k w → k ≤ w.events

-- so it comes to each instruction of the serial run, or passes it in a loop's turns
abbrev pub ReachLaw : Type 0
ReachLaw = (image : Image) (input : List ℕ) (n : ℕ) → IsDivided image → AreBytes input
    → ((m : ℕ) → m < n → IsNone (ended (serial m (start_of image.elf input))))
    → (k : ℕ) × (w : Point) × IsPoint image input k w × (n ≤ w.index)

-- where an image has no entries it has executed k instructions after k events
abbrev pub plain_point : ℕ → Point
plain_point k = record { index = k; passing = false; slots = replicate 32 0; loops = []; events = k }

abbrev pub PlainLaw : Type 0
PlainLaw = (image : Image) (input : List ℕ) (k : ℕ) (w : Point) → image.entries ≡ [] → IsPoint image input k w
    → w ≡ plain_point k

-- a count of the machine stands still at its type's end
abbrev pub shown : LoopCount → LoopCount
shown c =
    record {
      header = c.header;
      arrivals = capped c.arrivals;
      divided = capped c.divided;
      turns = capped c.turns;
    }

-- the entry at which the walk is about to arrive, if there is one
abbrev pub arriving : Image → SerialState → Bool → Option Found
arriving image t true = None
arriving image t false = arrival image.entries t.machine

-- the machine has one hart, which has counted the events of the walk, and of each entry what the walk has, with the
-- arrival that is next, if there is one. Registers and all that is shared are as in the serial run
pub record HasCounted (image : Image) (s : State) (t : SerialState) (w : Point) : Type 0 where
  pub hart : Hart
  pub only : s.core.harts ≡ hart ∷ []
  pub events : hart.events ≡ capped w.events
  pub loops : s.core.loops ≡ with_arrival (map shown w.loops) (arriving image t w.passing)
  pub slots : hart.slots ≡ w.slots
  pub regs : hart.regs ≡ t.machine.regs
  pub memory : s.core.memory ≡ t.machine.memory
  pub break : s.core.brk ≡ t.machine.brk
  pub ending : s.core.ended ≡ ended t
  pub output : s.output ≡ t.output
  pub rest : s.rest ≡ t.rest

-- so it is after as many events as the walk has counted at a point, and before the machine has no ending
abbrev pub WalkLaw : Type 0
WalkLaw = (image : Image) (input : List ℕ) (k : ℕ) (w : Point) → IsDivided image → AreBytes input
    → IsPoint image input k w
    → HasCounted image (events_alone w.events (start_state image 1 input)) (state_at image input w) w
    × ((m : ℕ) → m < w.events → IsNone (events_alone m (start_state image 1 input)).core.ended)

-- the walk has come to the ending of the serial run, and the machine too: its counts are those of the whole walk, and
-- the walk's events are those of its one hart and all its steps
pub record HasWalked (image : Image) (input : List ℕ) (n : ℕ) (t : SerialState) (k : ℕ) (w : Point) : Type 0 where
  pub point : IsPoint image input k w
  pub index : w.index ≡ n
  pub ends : EndsAs (start_state image 1 input) w.events t
  pub loops : (events_alone w.events (start_state image 1 input)).core.loops ≡ map shown w.loops
  pub harts : map events_of (events_alone w.events (start_state image 1 input)).core.harts ≡ capped w.events ∷ []
  pub steps : steps_of (events_alone w.events (start_state image 1 input)).core.harts ≡ capped w.events

abbrev pub EndLaw : Type 0
EndLaw = (image : Image) (input : List ℕ) (n : ℕ) (t : SerialState) → IsDivided image → AreBytes input
    → IsEnding (start_of image.elf input) n t → (k : ℕ) × (w : Point) × HasWalked image input n t k w

-- The walk over the serial run of an executable: what its image counts on one hart. At a word of the executable the hart
-- counts one event. At the header of an entry it has arrived: it counts its events in added code, and the walk goes on
-- so many turns later as the loop's check tells; there it passes the header, at which it does not arrive again.
use Rattle.std.specs.Prelude.{ℕ, zero, suc, ◌≡◌, ◌+◌, ◌⊎◌, Bool, true, false, List, [], map, replicate, Option, Some, None}
use Rattle.rv64_decode.specs.Hart.{Hart}
use Rattle.serial_run.specs.Serial.{State, start_of, serial, ended}
use Rattle.alias_checks.specs.declared.lists.Turns.{Turns}
use Rattle.divided_loops.specs.Alone.{run_alone}
use Rattle.divided_loops.specs.Forks.{IsFirstBack}
use Rattle.image_writer.specs.declared.image.Image.{Image}
use Rattle.hart_core.specs.declared.counts.LoopCount.{LoopCount}
use Rattle.hart_core.specs.declared.entries.Found.{Found}
use Rattle.hart_core.specs.Entering.{entry_at, changed_count}
use Rattle.hart_core.specs.Start.{no_count}
use Rattle.entered_loops.specs.Laws.{HasLoop, told, AreTurns}

-- a point of the walk: how many instructions of the serial run it is, whether the walk passes the header at which it
-- stands, what the slots of the hart hold, the counts of each entry, and the events of the hart
pub record Point : Type 0 where
  pub index : ℕ
  pub passing : Bool
  pub slots : List ℕ
  pub loops : List LoopCount
  pub events : ℕ

-- the state of the serial run there
abbrev pub state_at : Image → List ℕ → Point → State
state_at image input w = serial w.index (start_of image.elf input)

-- where it begins
abbrev pub first_point : Image → Point
first_point image =
    record { index = 0; passing = false; slots = replicate 32 0; loops = map no_count image.entries; events = 0 }

-- behind a word of the executable
abbrev pub behind_word : Point → Point
behind_word w = record w { index = suc w.index; passing = false; events = suc w.events }

-- the hart, where it enters the added code of an entry
abbrev pub entering : State → List ℕ → Found → Hart
entering s slots found =
    record {
      pc = found.stub;
      regs = s.machine.regs;
      slots = slots;
      memory = s.machine.memory;
      log = [];
      number = 0;
      harts = 1;
    }

-- an entry has been arrived at once more
abbrev pub with_one_arrival : LoopCount → LoopCount
with_one_arrival c = record c { arrivals = suc c.arrivals }

-- and the turns that its loop's check has told, if it has, were divided
abbrev pub with_turns : Option Turns → LoopCount → LoopCount
with_turns None c = c
with_turns (Some t) c = record c { divided = suc c.divided; turns = c.turns + t.root }

-- at a point with this serial state the walk has arrived at an entry: the hart executes so many words of its added code
-- up to the one by which it leaves, and the serial run so many instructions in the turns that the check tells
pub record Arrives (image : Image) (s : State) (slots : List ℕ) : Type 0 where
  pub found : Found
  pub at : entry_at image.entries s.machine.pc ≡ Some found
  pub loop : HasLoop image.elf s.machine.pc
  pub words : ℕ
  pub first : IsFirstBack image.code words (entering s slots found)
  pub instructions : ℕ
  pub are_turns : AreTurns loop.root s (told image.elf s loop) instructions

-- behind added code
abbrev pub behind_stub : (image : Image) (s : State) (w : Point) → Arrives image s w.slots → Point
behind_stub image s w a =
    record {
      index = w.index + a.instructions;
      passing = true;
      slots = (run_alone image.code a.words (entering s w.slots a.found)).slots;
      loops = changed_count w.loops a.found.number (λ c. with_turns (told image.elf s a.loop) (with_one_arrival c));
      events = w.events + suc a.words;
    }

-- at this point of the walk it goes on at a word of the executable, since it passes the header or is at no entry
abbrev pub IsAtWord : Image → State → Bool → Type 0
IsAtWord image s passing = (passing ≡ true) ⊎ (entry_at image.entries s.machine.pc ≡ None)

-- how the walk comes from one point to the next, if the serial state at the first has no ending
pub data Comes (image : Image) (s : State) (w : Point) : Point → Type 0 where
  by_word : IsAtWord image s w.passing → Comes image s w (behind_word w)
  by_stub : w.passing ≡ false → (a : Arrives image s w.slots) → Comes image s w (behind_stub image s w a)

pub record GoesOn (image : Image) (input : List ℕ) (w v : Point) : Type 0 where
  pub running : ended (state_at image input w) ≡ None
  pub comes : Comes image (state_at image input w) w v

-- the k-th point of the walk
abbrev pub IsPoint : Image → List ℕ → ℕ → Point → Type 0
IsPoint image input zero w = w ≡ first_point image
IsPoint image input (suc k) w = (v : Point) × IsPoint image input k v × GoesOn image input v w

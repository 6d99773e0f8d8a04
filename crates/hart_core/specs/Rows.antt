-- What one instruction makes of the machine, by who executes it.
use Rattle.std.specs.Prelude.{ℕ, ◌==◌, ◌+◌, ◌-◌, ◌/◌, ◌%◌, ◌^◌, Bool, true, false, ◌&&◌, nat_le, if◌then◌else◌, List, [], ◌∷◌, length, map, slice_get, slice_index, slice_set, Option, Some, None}
use Rattle.rv64_decode.specs.Hart.{x_outcome}
use Rattle.rv64_decode.specs.Row.{next_pc}
use Rattle.rv64_decode.specs.declared.outcome.Fault.TheVariants.{Illegal}
use Rattle.rv64_decode.specs.Area.{Area}
use Rattle.rv64_decode.specs.declared.xinstr.XInstr.{XInstr}
use Rattle.rv64_decode.specs.declared.xinstr.XInstr.TheVariants.{Base, Put, Get, Par, Join, Back, Id, Harts}
use Rattle.serial_run.specs.declared.machine.Machine.{Machine}
use Rattle.serial_run.specs.declared.machine.End.TheVariants.{Faulted}
use Rattle.hart_core.specs.declared.counts.LoopCount.{LoopCount}
use Rattle.hart_core.specs.declared.entries.Found.{Found}
use Rattle.hart_core.specs.Machine.{Mode, Free, Stub, Passing, Waiting, Idle, Hart, Core, Place, Forked, Elsewhere, capped, counted}
use Rattle.hart_core.specs.Entering.{arrival, entered, header_of, changed_count, with_arrival, next_place, place_of_entry}

-- a hart that takes pc and registers from a machine, after one event more
abbrev pub back_in : Hart → Mode → Machine → Hart
back_in h mode m = record (counted h) { pc = m.pc; regs = m.regs; mode = mode }

-- what is shared, from a machine
abbrev pub shared_from : Core → Machine → Core
shared_from c m = record c { memory = m.memory; brk = m.brk; ended = m.ended }

-- the core once hart k has executed a word of the original, which has left this machine: it arrives at the next
-- pc, where the run has not ended
abbrev pub after_own : Core → ℕ → Hart → Machine → Core
after_own c k h m =
    let found = arrival c.image.entries m in
    record (shared_from c m) {
      harts = slice_set c.harts k (entered (back_in h Free m) found);
      loops = with_arrival c.loops found;
      place = next_place k (place_of_entry found) c.place;
    }

-- the core once hart k has executed an ordinary word of added code, which has left this machine
abbrev pub after_base : Core → ℕ → Hart → Machine → Core
after_base c k h m =
    record (shared_from c m) {
      harts = slice_set c.harts k (back_in h Stub m);
      place = next_place k Elsewhere c.place;
    }

-- hart k becomes this, and nothing else happens
abbrev pub with_hart : Core → ℕ → Hart → Core
with_hart c k h = record c { harts = slice_set c.harts k h; place = next_place k Elsewhere c.place }

-- added code that is none faults, and tells the word, or 0 where there is no word
abbrev pub illegal : Core → ℕ → Hart → ℕ → Core
illegal c k h addr =
    record (with_hart c k (counted h)) { ended = Some (Faulted Illegal h.pc addr) }

-- `xp.put`, `xp.get`, `xp.id` and `xp.harts` are of the hart alone
abbrev pub IsForOne : XInstr → Type 0
IsForOne (Base i) = ⊥
IsForOne (Put slot rs1) = Unit {0}
IsForOne (Get rd slot) = Unit {0}
IsForOne Par = ⊥
IsForOne Join = ⊥
IsForOne Back = ⊥
IsForOne (Id rd) = Unit {0}
IsForOne (Harts rd) = Unit {0}

-- the hart after one of these, where it is of this number among so many
abbrev pub alone_after : Hart → XInstr → ℕ → ℕ → List Area → Hart
alone_after h i number harts memory =
    let o = x_outcome i h.pc h.regs h.slots number harts memory in
    record (counted h) { pc = next_pc h.pc; regs = o.regs; slots = o.slots }

abbrev pub of_hart : Core → ℕ → Hart → XInstr → Core
of_hart c k h i = with_hart c k (alone_after h i k (length c.harts) c.memory)

-- another hart at a fork: it stands where the forking hart stands then, with its registers and slots
abbrev pub woken : ℕ → List ℕ → List ℕ → ℕ → Hart → Hart
woken pc regs slots kept other = record other { pc = pc; regs = regs; slots = slots; mode = Stub; kept = kept }

-- all but the first of these are woken
abbrev pub wakes : (Hart → Hart) → List Hart → List Hart
wakes wake [] = []
wakes wake (first ∷ others) = first ∷ map wake others

-- the harts once hart 0 has become this one, and has woken all others
abbrev pub forks : Hart → List Hart → List Hart
forks h harts = wakes (woken h.pc h.regs h.slots h.kept) (slice_set harts 0 h)

-- the number of turns that slot 23 tells, whose last turn's number it has
abbrev pub divided_turns : List ℕ → ℕ
divided_turns slots = (slice_index slots 23 + 1) % 2 ^ 64

abbrev pub one_division : ℕ → LoopCount → LoopCount
one_division turns count =
    record count { divided = capped (count.divided + 1); turns = capped (count.turns + turns) }

-- `xp.par` of hart 0
abbrev pub forked : Core → Hart → Core
forked c h =
    record c {
      harts = forks (record (counted h) { pc = next_pc h.pc }) c.harts;
      loops = changed_count c.loops h.kept (one_division (divided_turns h.slots));
      place = Forked;
    }

abbrev pub is_idle : Mode → Bool
is_idle Free = false
is_idle Stub = false
is_idle Passing = false
is_idle Waiting = false
is_idle Idle = true

abbrev pub all_idle : List Hart → Bool
all_idle [] = true
all_idle (h ∷ rest) = is_idle h.mode && all_idle rest

abbrev pub is_waiting : Mode → Bool
is_waiting Free = false
is_waiting Stub = false
is_waiting Passing = false
is_waiting Waiting = true
is_waiting Idle = false

-- the first of these waits, and all others are idle
abbrev pub have_gathered : List Hart → Bool
have_gathered [] = false
have_gathered (first ∷ others) = is_waiting first.mode && all_idle others

abbrev pub first_goes_on : List Hart → List Hart
first_goes_on [] = []
first_goes_on (first ∷ others) = record first { mode = Stub } ∷ others

-- where hart 0 waits and all others are idle, hart 0 goes on in its stub
abbrev pub gathered : List Hart → List Hart
gathered harts = if have_gathered harts then first_goes_on harts else harts

-- a hart that has joined
abbrev pub resting : ℕ → Mode
resting k = if k == 0 then Waiting else Idle

-- `xp.join` of hart k
abbrev pub joined : Core → ℕ → Hart → Core
joined c k h =
    let c' = with_hart c k (record (counted h) { pc = next_pc h.pc; mode = resting k }) in
    record c' { harts = gathered c'.harts }

-- `xp.back` of hart 0: it passes the header at which it has left the original
abbrev pub went_back : Core → Hart → Core
went_back c h =
    with_hart c 0 (record (counted h) { pc = header_of (slice_get c.image.entries h.kept); mode = Passing })

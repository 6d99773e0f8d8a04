-- What the machine with one hart does while the hart is in added code.
use Rattle.std.specs.Prelude.{ℕ, suc, ◌≡◌, ◌+◌, ◌≤◌, List, [], ◌∷◌, slice_get, Some, None}
use Rattle.rv64_decode.specs.Hart.{Hart as OneHart, fetched}
use Rattle.rv64_decode.specs.declared.xinstr.XInstr.TheVariants.{Back}
use Rattle.divided_loops.specs.Alone.{run_alone, MeetsNoFault}
use Rattle.divided_loops.specs.Forks.{IsFirstBack, turns_divided}
use Rattle.hart_core.specs.declared.counts.LoopCount.{LoopCount}
use Rattle.hart_core.specs.Machine.{Hart, State, Stub, Passing, capped}
use Rattle.hart_core.specs.Entering.{header_of, changed_count}
use Rattle.hart_core.specs.Rows.{one_division}
use Rattle.hart_core.specs.Alone.{events_alone}

-- the machine has one hart, which is in added code with pc, registers, slots and memory of this one
pub record IsInStub (s : State) (r : OneHart) : Type 0 where
  pub hart : Hart
  pub only : s.core.harts ≡ hart ∷ []
  pub stub : hart.mode ≡ Stub
  pub running : s.core.ended ≡ None
  pub pc : r.pc ≡ hart.pc
  pub regs : r.regs ≡ hart.regs
  pub slots : r.slots ≡ hart.slots
  pub memory : r.memory ≡ s.core.memory
  pub number : r.number ≡ 0
  pub harts : r.harts ≡ 1

-- it has come from the first state to the second: its hart has gone back to the header of the entry of this number, with
-- registers, slots and memory of r. Of what is shared nothing else has changed but what is counted, and where hart 0 stands
pub record HasLeft (s t : State) (entry : ℕ) (r : OneHart) : Type 0 where
  pub hart : Hart
  pub only : t.core.harts ≡ hart ∷ []
  pub passing : hart.mode ≡ Passing
  pub pc : hart.pc ≡ header_of (slice_get s.core.image.entries entry)
  pub regs : hart.regs ≡ r.regs
  pub slots : hart.slots ≡ r.slots
  pub memory : t.core.memory ≡ r.memory
  pub brk : t.core.brk ≡ s.core.brk
  pub running : t.core.ended ≡ None
  pub image : t.core.image ≡ s.core.image
  pub output : t.output ≡ s.output
  pub rest : t.rest ≡ s.rest

-- nothing was written or read, and the run has not ended
pub record IsQuiet (s t : State) : Type 0 where
  pub running : t.core.ended ≡ None
  pub output : t.output ≡ s.output
  pub rest : t.rest ≡ s.rest

-- where the hart that executes the added words alone comes to one at which it leaves, and meets no fault, the machine has
-- left after some events, and in none of those before has it ended
abbrev pub StubLaw : Type 0
StubLaw = (s : State) (r : OneHart) (n : ℕ) (i : IsInStub s r)
    → fetched s.core.image.code (run_alone s.core.image.code n r).pc ≡ Some Back → MeetsNoFault s.core.image.code r
    → (m : ℕ) × HasLeft s (events_alone (suc m) s) i.hart.kept (run_alone s.core.image.code n r)
    × ((k : ℕ) → k ≤ m → IsQuiet s (events_alone k s))

-- the counts of all entries once these turns of an entry have been divided, at a fork each
abbrev pub with_divisions : ℕ → List LoopCount → List ℕ → List LoopCount
with_divisions entry loops [] = loops
with_divisions entry loops (turns ∷ later) =
    with_divisions entry (changed_count loops entry (one_division turns)) later

-- up to the event by which it leaves, and with that, the only hart counts one event for each instruction, and of the
-- counts of entries only that of its own changes, by the forks that it has met. In none of the events before has the run
-- ended
abbrev pub CountLaw : Type 0
CountLaw = (s : State) (r : OneHart) (n : ℕ) (i : IsInStub s r) → IsFirstBack s.core.image.code n r
    → MeetsNoFault s.core.image.code r
    → (left : HasLeft s (events_alone (suc n) s) i.hart.kept (run_alone s.core.image.code n r))
    × (left.hart.events ≡ capped (i.hart.events + suc n))
    × ((events_alone (suc n) s).core.loops ≡ with_divisions i.hart.kept s.core.loops (turns_divided s.core.image.code n r))
    × ((k : ℕ) → k ≤ n → IsQuiet s (events_alone k s))

-- What the added code at an entry does for the serial run.
use Rattle.std.specs.Prelude.{ℕ, ◌≡◌, ◌<◌, List, ◌∷◌, slice_get, Option, Some, None}
use Rattle.std.specs.List.{All}
use Rattle.elf_image.specs.declared.image.Elf.{Elf}
use Rattle.elf_image.specs.Layout.{IsLoadable}
use Rattle.rv64_decode.specs.Hart.{Hart}
use Rattle.rv64_decode.specs.Range.{AreWords, AreBytes}
use Rattle.guest_memory.specs.Areas.{areas_of}
use Rattle.serial_run.specs.Serial.{State, start_of, serial, ended}
use Rattle.serial_run.specs.Sound.{HaveBytes}
use Rattle.loop_data.specs.declared.graph.Graph.{Graph}
use Rattle.loop_data.specs.declared.plans.Plan.{Plan}
use Rattle.loop_data.specs.declared.shape.Level.{Level}
use Rattle.loop_data.specs.declared.shape.LoopShape.{LoopShape}
use Rattle.loop_data.specs.Graphs.{IsGraph}
use Rattle.loop_data.specs.Loops.{AreLoops}
use Rattle.loop_data.specs.Turns.{HasAreas, IsArrival}
use Rattle.alias_checks.specs.declared.lists.Check.{Check}
use Rattle.alias_checks.specs.declared.lists.Turns.{Turns}
use Rattle.alias_checks.specs.Answers.{answer}
use Rattle.loop_choice.specs.Judging.{IsPlanOf}
use Rattle.loop_samples.specs.SerialRun.{state_in}
use Rattle.stub_laws.specs.Sound.{IsSound}
use Rattle.divided_loops.specs.Alone.{run_alone, MeetsNoFault}
use Rattle.divided_loops.specs.Forks.{forks_of, LeavesFirst}
use Rattle.image_writer.specs.declared.image.Entry.{Entry}
use Rattle.hart_core.specs.declared.entries.Found.{Found}
use Rattle.hart_core.specs.Entering.{entry_at, header_of}
use Rattle.loop_division.specs.Division.{IsDivision}

-- a state has the areas of an executable and its executable bytes, words in its registers and bytes in its memory
pub record IsWhole (elf : Elf) (s : State) : Type 0 where
  pub areas : HasAreas (areas_of elf) s.machine.memory
  pub registers : AreWords s.machine.regs
  pub bytes : AreBytes s.machine.memory

-- so has each state of its serial run, where its segments have bytes, for an input of bytes
abbrev pub WholeLaw : Type 0
WholeLaw = (elf : Elf) (input : List ℕ) (n : ℕ) → IsLoadable elf → HaveBytes elf.segments
    → All (λ (b : ℕ). b < 256) input → IsWhole elf (serial n (start_of elf input))

-- the only hart, at the first word of a stub, with the registers and the memory of a serial state
pub record Leaves (s : State) (stub : ℕ) (h : Hart) : Type 0 where
  pub at : h.pc ≡ stub
  pub sound : IsSound h
  pub regs : h.regs ≡ s.machine.regs
  pub memory : h.memory ≡ s.machine.memory
  pub number : h.number ≡ 0
  pub harts : h.harts ≡ 1

-- the listed loop of the executable with this header, its plan and its check
pub record HasLoop (elf : Elf) (pc : ℕ) : Type 0 where
  pub graph : Graph
  pub is : IsGraph elf graph
  pub shapes : List LoopShape
  pub loops : AreLoops graph shapes
  pub place : ℕ
  pub shape : LoopShape
  pub listed : slice_get shapes place ≡ Some shape
  pub header : shape.header ≡ pc
  pub root : Level
  pub inner : List Level
  pub levels : shape.levels ≡ root ∷ inner
  pub plan : Plan
  pub check : Check
  pub planned : IsPlanOf graph elf shape plan check

-- what its check tells of a state at the loop
abbrev pub told : (elf : Elf) (s : State) → HasLoop elf s.machine.pc → Option Turns
told elf s loop = answer loop.check s.machine.regs s.machine.memory

-- so many instructions of the serial run are as many turns of the loop as the check tells, and none where it tells none
abbrev pub AreTurns : Level → State → Option Turns → ℕ → Type 0
AreTurns root s (Some t) n = IsArrival root (state_in s) t.root n
AreTurns root s None n = n ≡ 0

-- it comes to the first word at which it leaves the added code, by one fork for the turns that the check tells. It has
-- the registers and the memory of the serial run these turns on, which is at the same pc, has no ending and has read and
-- written nothing since
pub record LeadsOn (code : List ℕ) (s : State) (h : Hart) (root : Level) (turns : Option Turns) : Type 0 where
  -- how many words of added code are executed, and how many instructions of the serial run that is
  pub words : ℕ
  pub instructions : ℕ
  pub leaves : LeavesFirst code words h (forks_of turns)
  pub are_turns : AreTurns root s turns instructions
  pub sound : IsSound (run_alone code words h)
  pub regs : (run_alone code words h).regs ≡ (serial instructions s).machine.regs
  pub memory : (run_alone code words h).memory ≡ (serial instructions s).machine.memory
  pub pc : (serial instructions s).machine.pc ≡ s.machine.pc
  pub break : (serial instructions s).machine.brk ≡ s.machine.brk
  pub running : ended (serial instructions s) ≡ None
  pub output : (serial instructions s).output ≡ s.output
  pub rest : (serial instructions s).rest ≡ s.rest

-- where a serial state without an ending is at an entry of the executable's division, a loop has its header there
abbrev pub EntryLaw : Type 0
EntryLaw = (elf : Elf) (entries : List Entry) (code : List ℕ) (s : State) (found : Found) (h : Hart) → IsLoadable elf
    → IsDivision elf entries code → IsWhole elf s → ended s ≡ None → entry_at entries s.machine.pc ≡ Some found
    → Leaves s found.stub h
    → (loop : HasLoop elf s.machine.pc) × LeadsOn code s h loop.root (told elf s loop) × MeetsNoFault code h
    × (header_of (slice_get entries found.number) ≡ s.machine.pc)

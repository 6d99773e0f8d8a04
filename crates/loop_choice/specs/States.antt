-- A state at a loop has the loop's words in memory, and where the check holds the run executes them, and stored cells
-- may be stored to.
use Rattle.std.specs.Prelude.{ℕ, ◌≡◌, ◌<◌, true, List, Some, None}
use Rattle.elf_image.specs.declared.image.Elf.{Elf}
use Rattle.elf_image.specs.Layout.{IsLoadable}
use Rattle.rv64_decode.specs.Area.{Area, why, writable_of}
use Rattle.rv64_decode.specs.Fetched.{instr_at}
use Rattle.loop_data.specs.declared.graph.Graph.{Graph}
use Rattle.loop_data.specs.declared.plans.Plan.{Plan}
use Rattle.loop_data.specs.declared.shape.Level.{Level}
use Rattle.loop_data.specs.declared.shape.LoopShape.{LoopShape}
use Rattle.loop_data.specs.declared.verdict.Cell.{Cell}
use Rattle.loop_data.specs.Executing.{AreWhole}
use Rattle.loop_data.specs.Graphs.{IsGraph}
use Rattle.loop_data.specs.Locations.{CellMap, cell_at, address, width_of}
use Rattle.loop_data.specs.LoopCode.{code_of}
use Rattle.loop_data.specs.LoopWords.{AreNest}
use Rattle.loop_data.specs.Lookups.{cell_map}
use Rattle.loop_data.specs.Nests.{Holds}
use Rattle.loop_data.specs.Runs.{State, run, walk, instr}
use Rattle.loop_data.specs.Turns.{turn}
use Rattle.alias_checks.specs.declared.lists.Check.{Check}
use Rattle.alias_checks.specs.declared.lists.Turns.{Turns}
use Rattle.loop_choice.specs.Independence.{IsAtLoop, IsHeld}

-- at each word of a loop memory has the instruction that the graph has there; its areas begin and end at multiples of 8
pub record HasProgram (G : Graph) (C : CellMap) (l : Level) (m : List Area) : Type 0 where
  pub words : (u : ℕ) → Holds l u → instr_at m u ≡ (code_of G C).instr u
  pub whole : AreWhole m

-- so it is in each state at a loop of an executable
abbrev pub ProgramLaw : Type 0
ProgramLaw = (elf : Elf) (G : Graph) (shape : LoopShape) (C : CellMap) (nest : AreNest G shape.levels) (s : State)
    → IsLoadable elf → IsGraph elf G → IsAtLoop elf nest.root s → HasProgram G C nest.root s.memory

-- and in the turns that a check tells the graph's instruction is executed at each visit
abbrev pub WordsLaw : Type 0
WordsLaw = (elf : Elf) (G : Graph) (shape : LoopShape) (plan : Plan) (check : Check) (nest : AreNest G shape.levels)
    (s : State) (t : Turns) → IsHeld elf G shape plan check nest.root s t → (n : ℕ) → turn nest.root s n < t.root
    → instr (run s n) ≡ (code_of G (cell_map plan.cells)).instr (walk s n)

-- where a check holds, a store to a stored cell's bytes is not refused
abbrev pub StoredLaw : Type 0
StoredLaw = (elf : Elf) (G : Graph) (shape : LoopShape) (plan : Plan) (check : Check) (nest : AreNest G shape.levels)
    (s : State) (t : Turns) → IsHeld elf G shape plan check nest.root s t → (k : ℕ) (c : Cell)
    → cell_at plan.cells.list.items k ≡ Some c → c.stored ≡ true
    → why writable_of s.memory (address s.regs c) (width_of c) ≡ None

-- When the forms at the words of a nest are true of a run.
use Rattle.std.specs.Prelude.{ℕ, suc, ◌≡◌, ◌<◌, true, List, Option, Some, None, ℤ}
use Rattle.std.specs.List.{Contains}
use Rattle.rv64_decode.specs.declared.outcome.Next.TheVariants.{At}
use Rattle.linear_forms.specs.Forms.{LinearForm, exact}
use Rattle.loop_data.specs.declared.cells.Cells.{Cells}
use Rattle.loop_data.specs.declared.classes.Classes.{Classes}
use Rattle.loop_data.specs.declared.equations.Duty.{Duty}
use Rattle.loop_data.specs.declared.equations.Equations.{Equations}
use Rattle.loop_data.specs.declared.graph.Graph.{Graph}
use Rattle.loop_data.specs.declared.shape.Level.{Level}
use Rattle.loop_data.specs.declared.verdict.Cell.{Cell}
use Rattle.loop_data.specs.Nests.{Nest, has, Among, nest_of, IsPass, Holds}
use Rattle.loop_data.specs.LoopWords.{AreNest}
use Rattle.loop_data.specs.Runs.{State, run, walk, goes_at, instr, access, asks_of}
use Rattle.loop_data.specs.Turns.{turn}
use Rattle.loop_data.specs.Locations.{CellMap, no_cells, cell_at, address, width_of}
use Rattle.loop_data.specs.LoopCode.{LoopCode, code_of, any_writes, IsUnwritten}
use Rattle.loop_data.specs.Independent.{Role, Keeps, Moves, IsAccess}
use Rattle.loop_data.specs.FormRows.{duty}
use Rattle.loop_data.specs.Equations.{AreForms, IsConfirmed}
use Rattle.loop_data.specs.Holds.{entry_of, times, HoldsAt, FormsHold}
use Rattle.loop_data.specs.Lookups.{cell_map, form_at, use_of}
use Rattle.loop_data.specs.Facts.{Fact}
use Rattle.loop_data.specs.FactPass.{AreFacts}
use Rattle.loop_data.specs.FoundCells.{AreFoundCells}
use Rattle.loop_data.specs.Results.{AreClasses, AreEquations}
use Rattle.loop_data.specs.Executing.{AreProgramWords, AreCellWords, Executes, LeavesCells, AreAtCells, IsOf32Bits}

-- the forms are a solution of the equations of a nest, by roles that its loops give the locations
pub record AreSolved (N : Nest) (B : LoopCode) (roles : Level → ℕ → Role) (at : ℕ → ℕ → Option LinearForm)
    : Type 0 where
  -- what a loop keeps it does not write
  pub keeps : (l : Level) → Among N l → (r : ℕ) → roles l r ≡ Keeps → IsUnwritten B l r
  -- what it moves on it writes on every pass
  pub moves : (l : Level) → Among N l → (r : ℕ) (step : ℤ) → roles l r ≡ Moves step → (us : List ℕ) → IsPass N l us
      → any_writes B us r ≡ true
  -- the forms solve the equations
  pub forms : AreForms N B roles at
  -- and each write of an induction is its header's form and the step
  pub confirmed : (l : Level) → Among N l → (r : ℕ) → IsConfirmed N B roles at l r

-- up to visit n a run executes the words of the nest, and before it no word writes to a cell that it does not use,
-- and each value that an instruction on words of 32 bits owes is a number of 32 bits
pub record MeetsDuties (N : Nest) (B : LoopCode) (at : ℕ → ℕ → Option LinearForm) (s : State) (n : ℕ) : Type 0 where
  pub executes : Executes N.root B s n
  pub leaves : LeavesCells B.cells s n
  pub duties : (m : ℕ) (f : LinearForm) → m < n → duty B (walk s m) (at (walk s m)) ≡ Some f
      → IsOf32Bits (exact f (entry_of B.cells s) (times N s m))

-- then the forms hold at visit n, where the words that use a cell access its bytes
abbrev pub FormLaw : Type 0
FormLaw = (G : Graph) (levels : List Level) (nest : AreNest G levels) → AreProgramWords G →
    let N = nest_of G nest.root nest.inner in
    (C : CellMap) →
    let B = code_of G C in
    (roles : Level → ℕ → Role) (at : ℕ → ℕ → Option LinearForm) (s : State) (n : ℕ) → AreSolved N B roles at
    → AreCellWords N.root B → AreAtCells C s n → MeetsDuties N B at s n → HoldsAt N C at s n

-- and at each visit of a word of the nest in the first p turns, where that is so up to each of them
abbrev pub TurnsLaw : Type 0
TurnsLaw = (G : Graph) (levels : List Level) (nest : AreNest G levels) → AreProgramWords G →
    let N = nest_of G nest.root nest.inner in
    (C : CellMap) →
    let B = code_of G C in
    (roles : Level → ℕ → Role) (at : ℕ → ℕ → Option LinearForm) (s : State) (p : ℕ) → AreSolved N B roles at
    → AreCellWords N.root B
    → ((n : ℕ) → turn N.root s n < p → goes_at (has N.root.body) (run s n).next ≡ true
    → AreAtCells C s n × MeetsDuties N B at s n)
    → FormsHold N C at s p

-- up to visit n a run executes the words of the nest, and before it no word writes to a cell that it does not use,
-- and the values of the duties that are listed are numbers of 32 bits
pub record MeetsListed (N : Nest) (B : LoopCode) (listed : List Duty) (s : State) (n : ℕ) : Type 0 where
  pub executes : Executes N.root B s n
  pub leaves : LeavesCells B.cells s n
  pub met : (m : ℕ) (d : Duty) → m < n → Contains listed d → walk s m ≡ d.at
      → IsOf32Bits (exact d.form (entry_of B.cells s) (times N s m))

-- the equations of a nest go by the classes of its locations, whose cells are found by the facts of the pass that
-- knows none; and no induction stays unconfirmed
pub record AreResults (G : Graph) (levels : List Level) (N : Nest) (cells : Cells) (c : Classes) (e : Equations)
    : Type 0 where
  pub facts : ℕ → ℕ → Option Fact
  pub pass : AreFacts N (code_of G no_cells) N.root facts
  pub found : AreFoundCells N (code_of G (cell_map cells)) facts
  pub classes : AreClasses G levels (cell_map cells) c
  pub equations : AreEquations G levels (cell_map cells) c e
  pub confirmed : e.unconfirmed ≡ None

-- what the passes over a nest give is true of a run: at visit n the forms hold, and before it each word that uses a
-- cell accesses its bytes
abbrev pub ResultLaw : Type 0
ResultLaw = (G : Graph) (levels : List Level) (nest : AreNest G levels) → AreProgramWords G →
    let N = nest_of G nest.root nest.inner in
    (cells : Cells) (c : Classes) (e : Equations) (s : State) (n : ℕ) → AreResults G levels N cells c e
    → MeetsListed N (code_of G (cell_map cells)) e.duties s n
    → HoldsAt N (cell_map cells) (form_at e.points) s n × AreAtCells (cell_map cells) s n

-- and at each visit of a word of the nest in the first p turns, where that is so up to each of them
abbrev pub ResultTurnsLaw : Type 0
ResultTurnsLaw = (G : Graph) (levels : List Level) (nest : AreNest G levels) → AreProgramWords G →
    let N = nest_of G nest.root nest.inner in
    (cells : Cells) (c : Classes) (e : Equations) (s : State) (p : ℕ) → AreResults G levels N cells c e
    → ((n : ℕ) → turn N.root s n < p → goes_at (has N.root.body) (run s n).next ≡ true
    → MeetsListed N (code_of G (cell_map cells)) e.duties s n)
    → FormsHold N (cell_map cells) (form_at e.points) s p
    × ((n : ℕ) → turn N.root s n < p → goes_at (has N.root.body) (run s n).next ≡ true
    → AreAtCells (cell_map cells) s n)

-- and there each word that uses a cell, where the run executes it and goes on, accesses the cell's bytes and no others:
-- also at the last visit of the turns
abbrev pub AccessTurnsLaw : Type 0
AccessTurnsLaw = (G : Graph) (levels : List Level) (nest : AreNest G levels) → AreProgramWords G →
    let N = nest_of G nest.root nest.inner in
    (cells : Cells) →
    let B = code_of G (cell_map cells) in
    (c : Classes) (e : Equations) (s : State) (p : ℕ) → AreResults G levels N cells c e
    → ((n : ℕ) → turn N.root s n < p → goes_at (has N.root.body) (run s n).next ≡ true → MeetsListed N B e.duties s n)
    → (n k v : ℕ) (x : Cell) → turn N.root s n < p → goes_at (has N.root.body) (run s n).next ≡ true
    → instr (run s n) ≡ B.instr (walk s n) → (run s (suc n)).next ≡ At v → use_of cells.uses.items (walk s n) ≡ Some k
    → cell_at cells.list.items k ≡ Some x → IsAccess (access (run s n)) (address s.regs x) (width_of x)

-- where the forms hold at the visit of a word that uses a cell, it asks memory for the cell's bytes and no others
abbrev pub AskLaw : Type 0
AskLaw = (G : Graph) (levels : List Level) (nest : AreNest G levels) → AreProgramWords G →
    let N = nest_of G nest.root nest.inner in
    (cells : Cells) (c : Classes) (e : Equations) (s : State) (n k : ℕ) (x : Cell) → AreResults G levels N cells c e
    → Holds N.root (walk s n) → instr (run s n) ≡ (code_of G (cell_map cells)).instr (walk s n)
    → HoldsAt N (cell_map cells) (form_at e.points) s n → use_of cells.uses.items (walk s n) ≡ Some k
    → cell_at cells.list.items k ≡ Some x
    → IsAccess (asks_of (instr (run s n)) (run s n).regs) (address s.regs x) (width_of x)

-- A run that executes the words of a loop: what the laws of the facts and of the forms ask of it.
use Rattle.std.specs.Prelude.{ℕ, zero, suc, ◌≡◌, ◌≢◌, ◌≤◌, ◌<◌, ◌+◌, ◌%◌, ◌^◌, true, false, if◌then◌else◌, ℤ, pos, List, [], ◌∷◌, length, Some}
use Rattle.std.specs.List.{Contains}
use Rattle.rv64_decode.specs.Area.{Area}
use Rattle.rv64_decode.specs.Form.{IsSigned}
use Rattle.rv64_decode.specs.Range.{AreWords, AreBytes}
use Rattle.rv64_decode.specs.declared.outcome.Next.TheVariants.{At}
use Rattle.linear_forms.specs.Forms.{Alike}
use Rattle.loop_data.specs.declared.graph.Word.{Word}
use Rattle.loop_data.specs.declared.graph.Graph.{Graph}
use Rattle.loop_data.specs.declared.shape.Level.{Level}
use Rattle.loop_data.specs.declared.verdict.Cell.{Cell}
use Rattle.loop_data.specs.Paths.{IsInOrder}
use Rattle.loop_data.specs.Nests.{has, Holds}
use Rattle.loop_data.specs.Runs.{State, run, walk, goes_at, instr, access}
use Rattle.loop_data.specs.Turns.{arrives, stores_byte}
use Rattle.loop_data.specs.Locations.{CellMap, cell_at, address, width_of, moves_cell, value_of}
use Rattle.loop_data.specs.Independent.{IsAccess, in_cell}
use Rattle.loop_data.specs.LoopCode.{LoopCode}

-- the words of a program stand in address order, and each has 32 bits
pub record AreProgramWords (G : Graph) : Type 0 where
  pub ordered : IsInOrder G
  pub bits : (w : Word) → Contains G.words w → w.bits < 2 ^ 32

-- a run from a loop's header, of registers that are words and bytes that are bytes, is up to visit n at words
-- of the loop, and before visit n executes what they stand for
pub record Executes (l : Level) (B : LoopCode) (s : State) (n : ℕ) : Type 0 where
  pub start : s.next ≡ At l.header
  pub registers : AreWords s.regs
  pub bytes : AreBytes s.memory
  pub inside : (m : ℕ) → m ≤ n → goes_at (has l.body) (run s m).next ≡ true
  pub words : (m : ℕ) → m < n → instr (run s m) ≡ B.instr (walk s m)

-- each word of the loop that uses a cell is a load or a store of one of its width
pub record AreCellWords (l : Level) (B : LoopCode) : Type 0 where
  pub uses : (u k : ℕ) → Holds l u → B.cells.uses u ≡ Some k
      → (c : Cell) × (cell_at B.cells.cells k ≡ Some c) × (moves_cell (B.instr u) c.wide ≡ true)

-- areas begin and end at multiples of 8, as those of an executable do
abbrev pub AreWhole : List Area → Type 0
AreWhole [] = Unit {0}
AreWhole (a ∷ rest) = (a.low % 8 ≡ 0) × ((a.low + length a.bytes) % 8 ≡ 0) × AreWhole rest

-- before visit n no word that does not use a cell writes one of its bytes. Where there is a cell, areas are whole
pub record LeavesCells (C : CellMap) (s : State) (n : ℕ) : Type 0 where
  pub others : (m k b : ℕ) (c : Cell) → m < n → cell_at C.cells k ≡ Some c → C.uses (walk s m) ≢ Some k
      → in_cell s c b ≡ true → stores_byte (access (run s m)) b ≡ false
  pub areas : (k : ℕ) (c : Cell) → cell_at C.cells k ≡ Some c → AreWhole s.memory

-- before visit n each word that uses a cell accesses its bytes and no others
abbrev pub AreAtCells : CellMap → State → ℕ → Type 0
AreAtCells C s n = (m k : ℕ) (c : Cell) → m < n → C.uses (walk s m) ≡ Some k → cell_at C.cells k ≡ Some c
    → IsAccess (access (run s m)) (address s.regs c) (width_of c)

-- the value of a location at visit n
abbrev pub value_at : CellMap → State → ℕ → ℕ → ℤ
value_at C s n r = pos (value_of C s.regs (run s n) r)

-- the visit at which the turn of visit n arrived
abbrev pub arrival : Level → State → ℕ → ℕ
arrival l s zero = 0
arrival l s (suc n) = if arrives l s (suc n) then suc n else arrival l s n

-- modulo 2 ^ 64 the integer is a signed number of 32 bits
pub record IsOf32Bits (z : ℤ) : Type 0 where
  pub number : ℤ
  pub signed : IsSigned 32 number
  pub same : Alike z number

-- The words of a loop as the analysis sees them: the instruction at each address, and the cells.
use Rattle.std.specs.Prelude.{ℕ, ◌≡◌, ◌==◌, ◌-◌, Bool, true, false, nat_lt, if◌then◌else◌, List, [], ◌∷◌, Option, None, is_some}
use Rattle.rv64_decode.specs.Table.{decoded}
use Rattle.rv64_decode.specs.declared.instr.Instr.{Instr}
use Rattle.loop_data.specs.declared.graph.Word.{Word}
use Rattle.loop_data.specs.declared.graph.Graph.{Graph}
use Rattle.loop_data.specs.declared.shape.Level.{Level}
use Rattle.loop_data.specs.Nests.{Nest, Holds, Edge, ClosesNone}
use Rattle.loop_data.specs.Locations.{CellMap, cell_at, first_cell, word_writes, word_reads, some_writes}

pub record LoopCode : Type 0 where
  pub instr : ℕ → Option Instr
  pub cells : CellMap

-- the instruction that the word at an address stands for
abbrev pub instr_among : List Word → ℕ → Option Instr
instr_among [] u = None
instr_among (w ∷ ws) u = if w.at == u then decoded w.bits else instr_among ws u

-- the words of a program, with these cells
abbrev pub code_of : Graph → CellMap → LoopCode
code_of G C = record { instr = instr_among G.words; cells = C }

-- the word at u writes a location, and reads it
abbrev pub writes : LoopCode → ℕ → ℕ → Bool
writes B u r = word_writes B.cells u (B.instr u) r

abbrev pub reads : LoopCode → ℕ → ℕ → Bool
reads B u r = word_reads B.cells u (B.instr u) r

-- one of the words does
abbrev pub any_writes : LoopCode → List ℕ → ℕ → Bool
any_writes B us r = some_writes B.cells B.instr us r

-- the number is that of a register but x0, or of a cell
abbrev pub is_location : LoopCode → ℕ → Bool
is_location B r =
    if r == 0 then false else if nat_lt r first_cell then true else is_some (cell_at B.cells.cells (r - first_cell))

-- no word of the loop writes the location, or one does
abbrev pub IsUnwritten : LoopCode → Level → ℕ → Type 0
IsUnwritten B l r = (u : ℕ) → Holds l u → writes B u r ≡ false

pub record IsWritten (B : LoopCode) (l : Level) (r : ℕ) : Type 0 where
  pub word : ℕ
  pub inside : Holds l word
  pub does : writes B word r ≡ true

-- an edge between two words of a body that closes no loop of the nest
pub record IsForwardIn (N : Nest) (body : List ℕ) (u v : ℕ) : Type 0 where
  pub edge : Edge N body u v
  pub closes : ClosesNone N u v

-- the loop m lies in the loop l
pub record LiesIn (N : Nest) (l m : Level) : Type 0 where
  pub among : Rattle.loop_data.specs.Nests.Among N m
  pub header : Holds l m.header
  pub other : ¬ (m ≡ l)

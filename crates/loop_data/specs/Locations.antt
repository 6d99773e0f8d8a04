-- Locations: registers by their numbers, and from 32 on the cells of a loop; their values, and the words
-- that read and write them.
use Rattle.std.specs.Prelude.{ℕ, zero, suc, ◌==◌, ◌+◌, ◌-◌, Bool, true, false, not, ◌||◌, nat_lt, if◌then◌else◌, List, [], ◌∷◌, ℤ, Option, Some, None}
use Rattle.rv64_decode.specs.Area.{Area, number_at}
use Rattle.rv64_decode.specs.Registers.{register}
use Rattle.rv64_decode.specs.Row.{plus_offset, extended32}
use Rattle.rv64_decode.specs.declared.memory.Width.{Width}
use Rattle.rv64_decode.specs.declared.memory.Width.TheVariants.{Four, Eight}
use Rattle.rv64_decode.specs.declared.instr.Instr.{Instr}
use Rattle.rv64_decode.specs.declared.instr.Instr.TheVariants.{Alu, AluImm, Upper, Load, Store, Branch, Jal, Jalr}
use Rattle.rv64_decode.specs.declared.instr.LoadOp.{LoadOp}
use Rattle.rv64_decode.specs.declared.instr.LoadOp.TheVariants.{Lw, Ld}
use Rattle.rv64_decode.specs.declared.instr.StoreOp.{StoreOp}
use Rattle.rv64_decode.specs.declared.instr.StoreOp.TheVariants.{Sw, Sd}
use Rattle.linear_forms.specs.Forms.{word_of}
use Rattle.loop_data.specs.declared.verdict.Cell.{Cell}
use Rattle.loop_data.specs.Runs.{State}

-- the cells of a loop, by number, and the cell that the word at an address accesses, if it does
pub record CellMap : Type 0 where
  pub cells : List Cell
  pub uses : ℕ → Option ℕ

-- a loop without cells
abbrev pub no_cells : CellMap
no_cells = record { cells = []; uses = λ u. None }

abbrev pub cell_at : List Cell → ℕ → Option Cell
cell_at [] k = None
cell_at (c ∷ cs) zero = Some c
cell_at (c ∷ cs) (suc k) = cell_at cs k

abbrev pub address_by : List ℕ → Option ℕ → ℤ → ℕ
address_by regs None z = word_of z
address_by regs (Some r) z = plus_offset (register regs r) z

-- the address of a cell, where the registers are these at the entry
abbrev pub address : List ℕ → Cell → ℕ
address regs c = address_by regs c.base c.offset

abbrev pub width_by : Bool → Width
width_by true = Eight
width_by false = Four

-- how many bytes a cell has
abbrev pub width_of : Cell → Width
width_of c = width_by c.wide

-- the 8 bytes of a cell, or its 4 bytes, sign-extended
abbrev pub content : Bool → List Area → ℕ → ℕ
content true m addr = number_at 8 m addr
content false m addr = extended32 (number_at 4 m addr)

abbrev pub held : List ℕ → Option Cell → List Area → ℕ
held regs None m = 0
held regs (Some c) m = content c.wide m (address regs c)

-- the first location that is a cell
abbrev pub first_cell : ℕ
first_cell = 32

-- the value of a location in a state, where the loop was entered with these registers
abbrev pub value_of : CellMap → List ℕ → State → ℕ → ℕ
value_of C entry s r =
    if nat_lt r first_cell then register s.regs r else held entry (cell_at C.cells (r - first_cell)) s.memory

-- the register that an instruction writes, or 0
abbrev pub target : Instr → ℕ
target (Alu op rd rs1 rs2) = rd
target (AluImm op rd rs1 imm) = rd
target (Upper op rd imm) = rd
target (Load op rd rs1 imm) = rd
target (Jal rd imm) = rd
target (Jalr rd rs1 imm) = rd
target _ = 0

-- an instruction writes a register, which is not x0
abbrev pub writes_register : Instr → ℕ → Bool
writes_register i r = if r == 0 then false else target i == r

-- an instruction reads a register
abbrev pub reads_register : Instr → ℕ → Bool
reads_register (Alu op rd rs1 rs2) r = (rs1 == r) || (rs2 == r)
reads_register (AluImm op rd rs1 imm) r = rs1 == r
reads_register (Load op rd rs1 imm) r = rs1 == r
reads_register (Jalr rd rs1 imm) r = rs1 == r
reads_register (Store op rs1 rs2 imm) r = (rs1 == r) || (rs2 == r)
reads_register (Branch op rs1 rs2 imm) r = (rs1 == r) || (rs2 == r)
reads_register _ r = false

-- a store writes the cell that it accesses, and a load reads it
abbrev pub writes_cell : Instr → Option ℕ → ℕ → Bool
writes_cell (Store op rs1 rs2 imm) (Some k) r = first_cell + k == r
writes_cell _ _ r = false

abbrev pub reads_cell : Instr → Option ℕ → ℕ → Bool
reads_cell (Load op rd rs1 imm) (Some k) r = first_cell + k == r
reads_cell _ _ r = false

-- an instruction, which accesses this cell if any, writes a location, and reads it
abbrev pub instr_writes : Option Instr → Option ℕ → ℕ → Bool
instr_writes None cell r = false
instr_writes (Some i) cell r = if nat_lt r first_cell then writes_register i r else writes_cell i cell r

abbrev pub instr_reads : Option Instr → Option ℕ → ℕ → Bool
instr_reads None cell r = false
instr_reads (Some i) cell r = if nat_lt r first_cell then reads_register i r else reads_cell i cell r

-- lw and sw move the bytes of a cell of 4 bytes, ld and sd those of one of 8
abbrev pub loads_cell : LoadOp → Bool → Bool
loads_cell Lw wide = not wide
loads_cell Ld wide = wide
loads_cell _ wide = false

abbrev pub stores_cell : StoreOp → Bool → Bool
stores_cell Sw wide = not wide
stores_cell Sd wide = wide
stores_cell _ wide = false

abbrev pub moves_cell : Option Instr → Bool → Bool
moves_cell (Some (Load op rd rs1 imm)) wide = loads_cell op wide
moves_cell (Some (Store op rs1 rs2 imm)) wide = stores_cell op wide
moves_cell _ wide = false

-- the word at u, where it is this instruction, writes a location, and reads it
abbrev pub word_writes : CellMap → ℕ → Option Instr → ℕ → Bool
word_writes C u i r = instr_writes i (C.uses u) r

abbrev pub word_reads : CellMap → ℕ → Option Instr → ℕ → Bool
word_reads C u i r = instr_reads i (C.uses u) r

-- one of the words writes a location
abbrev pub some_writes : CellMap → (ℕ → Option Instr) → List ℕ → ℕ → Bool
some_writes C code [] r = false
some_writes C code (u ∷ us) r = word_writes C u (code u) r || some_writes C code us r

-- Accesses at known addresses, before anything is known of cells.
use Rattle.std.specs.Prelude.{ℕ, Bool, true, false, not, ◌&&◌, nat_le, nat_lt, if◌then◌else◌, List, map, slice_index_or, Option, Some, None, ℤ, pos, negsuc}
use Rattle.rv64_decode.specs.declared.instr.Instr.{Instr}
use Rattle.rv64_decode.specs.declared.instr.Instr.TheVariants.{Load, Store}
use Rattle.rv64_decode.specs.declared.instr.LoadOp.{LoadOp}
use Rattle.rv64_decode.specs.declared.instr.LoadOp.TheVariants.{Lw, Ld}
use Rattle.rv64_decode.specs.declared.instr.StoreOp.{StoreOp}
use Rattle.rv64_decode.specs.declared.instr.StoreOp.TheVariants.{Sw, Sd}
use Rattle.linear_forms.specs.Forms.{between}
use Rattle.loop_data.specs.Accesses.{Motion, motion_of}
use Rattle.loop_data.specs.Facts.{Fact, Number, Offset, fact_read, fact_sum}
use Rattle.loop_data.specs.Locations.{first_cell}
use Rattle.loop_data.specs.LoopCode.{LoopCode, any_writes}
use Rattle.stack_slots.specs.declared.words.BodyWord.{BodyWord}
use Rattle.stack_slots.specs.declared.words.KnownAddress.{KnownAddress}
use Rattle.stack_slots.specs.declared.words.Touch.{Touch}

-- the number is that of a register but x0, which is not written
abbrev pub is_unwritten : (ℕ → Bool) → ℕ → Bool
is_unwritten written q = if nat_le 1 q && nat_lt q first_cell then not (written q) else false

-- no word of the body writes the register
abbrev pub is_kept : LoopCode → List ℕ → ℕ → Bool
is_kept B body q = is_unwritten (any_writes B body) q

-- the same by a flag for each location, of those that are written
abbrev pub is_unset : List Bool → ℕ → Bool
is_unset flags q = is_unwritten (λ r. slice_index_or flags r false) q

-- the known address of a fact: a number in [0, 0x7FFFF800), or an offset in [-2048, 2047] from the header's value
-- of a register that no word of the body writes
abbrev pub known_by : (ℕ → Bool) → Option Fact → Option KnownAddress
known_by kept (Some (Number z)) =
    if between (pos 0) (pos 0x7FFF_F800) z then Some (record { base = None; offset = z }) else None
known_by kept (Some (Offset q z)) =
    if kept q
    then (if between (negsuc 2047) (pos 2048) z then Some (record { base = Some q; offset = z }) else None)
    else None
known_by kept None = None

-- the known address at an offset from a register, where these are the facts of the registers
abbrev pub known_address : (ℕ → Bool) → (ℕ → Option Fact) → ℕ → ℤ → Option KnownAddress
known_address kept F base offset = known_by kept (fact_sum (fact_read F base) (Some (Number offset)))

-- lw, ld, sw and sd: the instructions that access cells
abbrev pub loads_cells : LoadOp → Bool
loads_cells Lw = true
loads_cells Ld = true
loads_cells _ = false

abbrev pub stores_cells : StoreOp → Bool
stores_cells Sw = true
stores_cells Sd = true
stores_cells _ = false

abbrev pub accesses_cells : Option Instr → Bool
accesses_cells (Some (Load op rd rs1 imm)) = loads_cells op
accesses_cells (Some (Store op rs1 rs2 imm)) = stores_cells op
accesses_cells i = false

-- the access at a known address
abbrev pub touch_with : Bool → Motion → Option KnownAddress → Option Touch
touch_with of_cell m (Some a) =
    Some (record { address = a; width = m.width; store = m.store; of_cell = of_cell })
touch_with of_cell m None = None

abbrev pub touch_by : (ℕ → Bool) → (ℕ → Option Fact) → Bool → Option Motion → Option Touch
touch_by kept F of_cell (Some m) = touch_with of_cell m (known_address kept F m.base m.offset)
touch_by kept F of_cell None = None

-- what an instruction accesses at a known address
abbrev pub touch_of : (ℕ → Bool) → (ℕ → Option Fact) → Option Instr → Option Touch
touch_of kept F i = touch_by kept F (accesses_cells i) (motion_of i)

-- the word at u, with what it accesses, where these are the facts before it
abbrev pub word_at : LoopCode → List ℕ → (ℕ → Option Fact) → ℕ → BodyWord
word_at B body F u = record { at = u; instr = B.instr u; touch = touch_of (is_kept B body) F (B.instr u) }

-- the words of a body, where these are the facts at each
abbrev pub words_of : LoopCode → List ℕ → (ℕ → ℕ → Option Fact) → List BodyWord
words_of B body V = map (λ (u : ℕ). word_at B body (V u) u) body

-- The added code round the copies of a loop's words: what the harts execute before their turns, between two of them and
-- behind them. It works with x5 to x7 and x28 to x31, whose entry values stand in slots 16 to 22; slot 23 has the number
-- of turns less 1, slot 28 the number that a hart has left, and slots 29 and 30 are free.
use Rattle.std.specs.Prelude.{ℕ, zero, suc, ◌==◌, ◌*◌, if◌then◌else◌, Bool, true, false, List, [], ◌∷◌, ◌++◌, ℤ, pos, negsuc, Option, Some, None}
use Rattle.rv64_decode.specs.declared.instr.AluOp.TheVariants.{Add, Sub, Mul, Divu, Remu}
use Rattle.rv64_decode.specs.declared.instr.BranchOp.TheVariants.{Beq, Bne}
use Rattle.rv64_decode.specs.declared.instr.ImmOp.TheVariants.{Addi}
use Rattle.rv64_decode.specs.declared.instr.StoreOp.{StoreOp}
use Rattle.rv64_decode.specs.declared.instr.StoreOp.TheVariants.{Sw, Sd}
use Rattle.rv64_decode.specs.declared.instr.UpperOp.TheVariants.{Lui}
use Rattle.rv64_decode.specs.declared.instr.Instr.TheVariants.{Alu, AluImm, Upper, Store, Branch}
use Rattle.rv64_decode.specs.declared.xinstr.XInstr.{XInstr}
use Rattle.rv64_decode.specs.declared.xinstr.XInstr.TheVariants.{Base, Put, Get, Back, Id, Harts}
use Rattle.loop_data.specs.declared.verdict.Cell.{Cell}
use Rattle.loop_data.specs.Independent.{Role, Keeps, Moves, Private}
use Rattle.stub_laws.specs.Locations.{slot_of}
use Rattle.stub_laws.specs.Places.{behind}
use Rattle.check_numbers.specs.Parts.{low_part, high_part}
use Rattle.turn_copies.specs.Copies.{jump_to, number_into}

-- the registers that added code works with into their slots, and back
abbrev pub save_code : List XInstr
save_code = Put 16 5 ∷ Put 17 6 ∷ Put 18 7 ∷ Put 19 28 ∷ Put 20 29 ∷ Put 21 30 ∷ Put 22 31 ∷ []

abbrev pub restore_code : List XInstr
restore_code = Get 5 16 ∷ Get 6 17 ∷ Get 7 18 ∷ Get 28 19 ∷ Get 29 20 ∷ Get 30 21 ∷ Get 31 22 ∷ []

-- all harts begin here: the first turn of the hart's block into x29, and how many it has into x28 and slot 28
abbrev pub block_code : List XInstr
block_code =
    Id 5 ∷ Harts 6 ∷ Get 7 23 ∷ Base (AluImm Addi 7 7 (pos 1)) ∷ Base (Alu Add 28 5 6)
    ∷ Base (AluImm Addi 28 28 (negsuc 0)) ∷ Base (Alu Remu 28 28 6) ∷ Base (Alu Mul 29 28 7) ∷ Base (Alu Divu 29 29 6)
    ∷ Base (AluImm Addi 28 28 (pos 1)) ∷ Base (Alu Mul 28 28 7) ∷ Base (Alu Divu 28 28 6) ∷ Base (Alu Sub 28 28 29)
    ∷ Put 28 28 ∷ []

-- from place p to the place `join` where there is none
abbrev pub fork_code : ℕ → ℕ → List XInstr
fork_code p join =
    block_code ++ (Base (Branch Bne 28 0 (pos 8)) ∷ jump_to join (suc (behind p block_code)) ∷ [])

-- a location that moves on by a step in each turn
pub record Moving : Type 0 where
  pub loc : ℕ
  pub step : ℤ

abbrev pub with_moving : Role → ℕ → List Moving → List Moving
with_moving (Moves step) loc rest = record { loc = loc; step = step } ∷ rest
with_moving Keeps loc rest = rest
with_moving Private loc rest = rest

-- those among so many locations from one on
abbrev pub movings_from : (ℕ → Role) → ℕ → ℕ → List Moving
movings_from roles loc zero = []
movings_from roles loc (suc n) = with_moving (roles loc) loc (movings_from roles (suc loc) n)

-- all of them, in order of their numbers
abbrev pub movings : (ℕ → Role) → List Moving
movings roles = movings_from roles 0 48

-- the value of a location into a register, and x5 into a location
abbrev pub taken_from : ℕ → ℕ → Option ℕ → XInstr
taken_from r loc None = Base (AluImm Addi r loc (pos 0))
taken_from r loc (Some slot) = Get r slot

abbrev pub put_into : ℕ → Option ℕ → XInstr
put_into loc None = Base (AluImm Addi loc 5 (pos 0))
put_into loc (Some slot) = Put slot 5

-- a location goes on by its step as often as x29 says
abbrev pub advance_code : Moving → List XInstr
advance_code m =
    taken_from 5 m.loc (slot_of m.loc) ∷ number_into 6 m.step
    ++ (Base (Alu Mul 6 6 29) ∷ Base (Alu Add 5 5 6) ∷ put_into m.loc (slot_of m.loc) ∷ [])

abbrev pub advances_code : List Moving → List XInstr
advances_code [] = []
advances_code (m ∷ ms) = advance_code m ++ advances_code ms

-- and then the first turn begins
abbrev pub begin_code : List Moving → ℕ → ℕ → List XInstr
begin_code ms p body =
    (advances_code ms ++ restore_code) ++ (jump_to body (behind p (advances_code ms ++ restore_code)) ∷ [])

-- one turn less is left: where there is one, from place p back to the first copy
abbrev pub next_code : ℕ → ℕ → List XInstr
next_code p body =
    Put 29 5 ∷ Get 5 28 ∷ Base (AluImm Addi 5 5 (negsuc 0)) ∷ Put 28 5 ∷ Base (Branch Beq 5 0 (pos (4 * 3))) ∷ Get 5 29
    ∷ jump_to body (suc (suc (suc (suc (suc (suc p)))))) ∷ Get 5 29 ∷ []

-- the place behind them, where the harts are joined
abbrev pub join_place : ℕ → ℕ
join_place p = suc (suc (suc (suc (suc (suc (suc (suc p)))))))

-- the store of a cell's width
abbrev pub cell_store : Bool → StoreOp
cell_store true = Sd
cell_store false = Sw

-- a register that is not the base
abbrev pub carrier : ℕ → ℕ
carrier r = if r == 5 then 6 else 5

-- a cell's slot into memory
abbrev pub based_code : ℕ → StoreOp → ℕ → ℤ → ℕ → List XInstr
based_code k op r offset s = Put 29 s ∷ Get s k ∷ Base (Store op r s offset) ∷ Get s 29 ∷ []

abbrev pub known_code : ℕ → StoreOp → ℤ → List XInstr
known_code k op v =
    Put 29 5 ∷ Put 30 6 ∷ Get 5 k ∷ Base (Upper Lui 6 (high_part v)) ∷ Base (Store op 6 5 (low_part v)) ∷ Get 5 29
    ∷ Get 6 30 ∷ []

abbrev pub write_by : ℕ → StoreOp → Option ℕ → ℤ → List XInstr
write_by k op (Some r) offset = based_code k op r offset (carrier r)
write_by k op None v = known_code k op v

-- the stored cells, from number k on
abbrev pub write_back_code : ℕ → List Cell → List XInstr
write_back_code k [] = []
write_back_code k (c ∷ cs) =
    (if c.stored then write_by k (cell_store c.wide) c.base c.offset else []) ++ write_back_code (suc k) cs

-- behind the join, and where the check fails
abbrev pub leave_code : List Cell → List XInstr
leave_code cells = write_back_code 0 cells ++ (Back ∷ [])

abbrev pub refuse_code : List XInstr
refuse_code = restore_code ++ (Back ∷ [])

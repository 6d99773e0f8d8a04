-- The trip of a loop whose relation is an order, as added code works it out. A relation is strict or not, and its step
-- leads up or down; one branch serves both to tell whether the relation fails at the start and whether it has ended.
use Rattle.std.specs.Prelude.{ℕ, ◌==◌, ◌&&◌, if◌then◌else◌, Bool, true, false, not, ℤ, pos, negsuc}
use Rattle.rv64_decode.specs.Row.{alu, alu_imm, taken}
use Rattle.rv64_decode.specs.declared.instr.AluOp.TheVariants.{Add, Sub, Mul, Div, Divu, Rem}
use Rattle.rv64_decode.specs.declared.instr.ImmOp.TheVariants.{Addi}
use Rattle.rv64_decode.specs.declared.instr.BranchOp.{BranchOp}
use Rattle.rv64_decode.specs.declared.instr.BranchOp.TheVariants.{Blt, Bge, Bltu, Bgeu}
use Rattle.check_numbers.specs.Parts.{bits}
use Rattle.loop_data.specs.declared.trips.Relation.{Relation}
use Rattle.loop_data.specs.declared.trips.Relation.TheVariants.{Differ, Less, AtMost, More}

-- the relation is an order
abbrev pub IsOrder : Relation → Type 0
IsOrder Differ = ⊥
IsOrder relation = Unit {0}

abbrev pub is_strict : Relation → Bool
is_strict Less = true
is_strict More = true
is_strict relation = false

abbrev pub is_up : Relation → Bool
is_up Less = true
is_up AtMost = true
is_up relation = false

-- the branch, and whether its operands are swapped
abbrev pub branch_of : Bool → Bool → BranchOp
branch_of true true = Bge
branch_of true false = Blt
branch_of false true = Bgeu
branch_of false false = Bltu

abbrev pub swapped : Bool → Bool → Bool
swapped true up = not up
swapped false up = up

-- of two, the first, or the second where they are swapped
abbrev pub side : Bool → ℕ → ℕ → ℕ
side false x y = x
side true x y = y

-- the value ends the relation to b
abbrev pub leaves : Bool → Bool → Bool → ℕ → ℕ → Bool
leaves signed strict up v b =
    taken (branch_of signed strict) (side (swapped strict up) v b) (side (swapped strict up) b v)

abbrev pub less_one : Bool → ℤ
less_one true = negsuc 0
less_one false = pos 0

abbrev pub gap_word : Bool → ℕ → ℕ → ℕ
gap_word true a b = alu Sub b a
gap_word false a b = alu Sub a b

abbrev pub end_word : Bool → ℕ → ℕ → ℕ → ℕ
end_word true a n size = alu Add a (alu Mul n size)
end_word false a n size = alu Sub a (alu Mul n size)

abbrev pub stays_word : Bool → Bool → ℕ → ℕ → ℕ → ℕ
stays_word strict up a b size =
    alu_imm Addi (alu Divu (alu_imm Addi (gap_word up a b) (less_one strict)) size) (pos 1)

-- the number of turns that stay
abbrev pub trip_word : Bool → Bool → Bool → ℕ → ℕ → ℕ → ℕ
trip_word signed strict up a b size = if leaves signed strict up a b then 0 else stays_word strict up a b size

-- whether there is one
abbrev pub trip_holds : Bool → Bool → Bool → ℕ → ℕ → ℕ → Bool
trip_holds signed strict up a b size =
    if leaves signed strict up a b
    then true
    else leaves signed strict up (end_word up a (stays_word strict up a b size) size) b

-- the turns until a difference v, which gains a step in each, is 0
abbrev pub differ_word : ℕ → ℤ → ℕ
differ_word v step = alu Div (alu Sub 0 v) (bits step)

-- whether it comes to 0 at all
abbrev pub differ_holds : ℕ → ℤ → Bool
differ_holds v step = alu Rem (alu Sub 0 v) (bits step) == 0 && taken Bge (differ_word v step) 0

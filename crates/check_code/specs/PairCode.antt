-- The test of two accesses, of which one is a store: of different shape by their ranges over all turns and passes, and
-- of the same shape by four tests in turn, each of which leads on to the end where it holds.
use Rattle.std.specs.Prelude.{ℕ, suc, ◌+◌, ◌*◌, nat_lt, if◌then◌else◌, Bool, true, false, List, [], ◌∷◌, ◌++◌, length, slice_index, pos}
use Rattle.rv64_decode.specs.declared.instr.AluOp.TheVariants.{Add, Sub, Mul, Xor, Rem}
use Rattle.rv64_decode.specs.declared.instr.ImmOp.TheVariants.{Addi, Srai}
use Rattle.rv64_decode.specs.declared.instr.BranchOp.{BranchOp}
use Rattle.rv64_decode.specs.declared.instr.BranchOp.TheVariants.{Blt, Bge}
use Rattle.rv64_decode.specs.declared.instr.Instr.TheVariants.{Alu, AluImm, Branch}
use Rattle.rv64_decode.specs.declared.xinstr.XInstr.{XInstr}
use Rattle.rv64_decode.specs.declared.xinstr.XInstr.TheVariants.{Base, Get}
use Rattle.linear_forms.specs.Forms.{LinearForm}
use Rattle.loop_data.specs.declared.accesses.Access.{Access}
use Rattle.loop_data.specs.declared.plans.Term.{Term}
use Rattle.loop_data.specs.declared.plans.Term.TheVariants.{Same, Apart}
use Rattle.stub_laws.specs.Code.{open_jump}
use Rattle.check_code.specs.Macros.{number_code, form_code, rise_code}
use Rattle.check_code.specs.AccessCode.{access_low, access_end}
use Rattle.check_code.specs.MeetCode.{disjoint_code}

-- a branch over so many words
abbrev pub over_words : BranchOp → ℕ → ℕ → ℕ → XInstr
over_words op rs1 rs2 n = Base (Branch op rs1 rs2 (pos (4 * suc n)))

-- accesses of different shape
abbrev pub ranges_code : Access → Access → List XInstr
ranges_code a b = access_low 5 a ++ (access_end 6 a ++ (access_low 7 b ++ (access_end 28 b ++ disjoint_code)))

-- from the addresses in x5 and x6 the difference into x28 and its size into x5; 0 into x6
abbrev pub distance_code : List XInstr
distance_code =
    Base (Alu Sub 28 6 5) ∷ Base (AluImm Srai 6 28 (pos 63)) ∷ Base (Alu Xor 5 28 6) ∷ Base (Alu Sub 5 5 6)
    ∷ Base (AluImm Addi 6 0 (pos 0)) ∷ []

-- the sizes of the strides in the inner loops, times the last passes, added to x6
abbrev pub passes_code : List ℕ → List XInstr
passes_code inner =
    rise_code 6 (pos (slice_index inner 0)) 24
    ++ (rise_code 6 (pos (slice_index inner 1)) 25 ++ rise_code 6 (pos (slice_index inner 2)) 26)

-- the distance is beyond all turns, passes and the width, or else the open target
abbrev pub far_code : ℕ → List XInstr
far_code width =
    Get 31 23 ∷ Base (Alu Mul 31 31 29) ∷ Base (Alu Add 31 31 6) ∷ Base (AluImm Addi 31 31 (pos width))
    ∷ over_words Bge 5 31 1 ∷ open_jump ∷ []

abbrev pub far_length : ℕ
far_length = 6

-- the remainder of the difference, which is not negative, into x7, and the divisor into x30
abbrev pub remainder_code : ℕ → List XInstr
remainder_code residue =
    number_code 30 (pos residue) ++ (Base (Alu Rem 7 28 30) ∷ over_words Bge 7 0 1 ∷ Base (Alu Add 7 7 30) ∷ [])

-- modulo the divisor of all strides the addresses stay a width away from each other: to the end, over n words more
abbrev pub residue_code : ℕ → ℕ → ℕ → List XInstr
residue_code residue width n =
    remainder_code residue ++ (Base (AluImm Addi 31 0 (pos width)) ∷ over_words Blt 7 31 2 ∷ Base (Alu Sub 30 30 7)
    ∷ over_words Bge 30 31 n ∷ [])

abbrev pub residue_length : Bool → ℕ
residue_length common = if common then 9 else 0

-- only where some stride is not 0
abbrev pub residue_part : Bool → ℕ → ℕ → List XInstr
residue_part true residue width = residue_code residue width far_length
residue_part false residue width = []

-- the stride of the root, in x29, is beyond the distance, and all turns stay within one step of the inner loops: to the
-- end, over n words more
abbrev pub lane_code : ℕ → ℕ → ℕ → List XInstr
lane_code lanes width n =
    Base (AluImm Addi 7 5 (pos width)) ∷ over_words Blt 29 7 6 ∷ Get 31 23 ∷ Base (Alu Mul 31 31 29)
    ∷ Base (Alu Add 7 7 31) ∷ (number_code 30 (pos lanes) ++ over_words Bge 30 7 n ∷ [])

abbrev pub lane_length : Bool → ℕ
lane_length inner = if inner then 8 else 0

-- only where an inner stride is not 0
abbrev pub lane_part : Bool → ℕ → ℕ → ℕ → List XInstr
lane_part true lanes width n = lane_code lanes width n
lane_part false lanes width n = []

-- the stride of the root is beyond the distance, the passes and the width: to the end, over n words more
abbrev pub block_code : ℕ → ℕ → ℕ → List XInstr
block_code root width n =
    Base (Alu Add 7 5 6) ∷ Base (AluImm Addi 7 7 (pos width))
    ∷ (number_code 29 (pos root) ++ over_words Bge 29 7 n ∷ [])

-- the four tests in turn
abbrev pub four_code : Bool → Bool → ℕ → ℕ → ℕ → ℕ → List XInstr
four_code inner common root lanes residue width =
    block_code root width (lane_length inner + (residue_length common + far_length))
    ++ (lane_part inner lanes width (residue_length common + far_length)
    ++ (residue_part common residue width ++ far_code width))

-- what they work with: the difference of the addresses at turn numbers 0, its size, and how far the passes lead
abbrev pub front_code : LinearForm → LinearForm → List ℕ → List XInstr
front_code f g inner = form_code 5 f ++ (form_code 6 g ++ (distance_code ++ passes_code inner))

-- accesses of the same shape
abbrev pub same_code : LinearForm → LinearForm → ℕ → List ℕ → ℕ → ℕ → ℕ → List XInstr
same_code f g root inner lanes residue width =
    front_code f g inner ++ four_code (nat_lt 0 lanes) (nat_lt 0 residue) root lanes residue width

abbrev pub pair_code : Access → Access → Term → List XInstr
pair_code a b (Same root inner lanes residue width known) = same_code a.form b.form root inner lanes residue width
pair_code a b Apart = ranges_code a b

-- The test of two accesses of the same shape, as added code works it out: each step a word, each branch on the way a
-- choice. What follows a part of the test is given to it.
use Rattle.std.specs.Prelude.{ℕ, ◌||◌, if◌then◌else◌, Bool, true, false, ℤ, pos}
use Rattle.rv64_decode.specs.Row.{alu, alu_imm, taken}
use Rattle.rv64_decode.specs.declared.instr.AluOp.TheVariants.{Add, Sub, Mul, Xor, Rem}
use Rattle.rv64_decode.specs.declared.instr.ImmOp.TheVariants.{Addi, Srai}
use Rattle.rv64_decode.specs.declared.instr.BranchOp.TheVariants.{Blt, Bge}

-- the difference of two addresses, and its size
abbrev pub difference : ℕ → ℕ → ℕ
difference a b = alu Sub b a

abbrev pub size_word : ℕ → ℕ
size_word c = let s = alu_imm Srai c (pos 63) in alu Sub (alu Xor c s) s

-- the last turn, the size of the root's stride, and what the passes of the inner loops and the width add
abbrev pub apart_word : ℕ → ℕ → ℕ → ℤ → ℕ
apart_word last root span width = alu_imm Addi (alu Add (alu Mul last root) span) width

abbrev pub apart_words : ℕ → ℕ → ℕ → ℕ → ℤ → Bool
apart_words distance last root span width = taken Bge distance (apart_word last root span width)

abbrev pub near_words : ℕ → ℕ → ℕ → Bool → Bool
near_words r residue width further =
    if taken Blt r width then further else (taken Bge (alu Sub residue r) width || further)

abbrev pub residue_words : ℕ → ℕ → ℤ → Bool → Bool
residue_words c residue width further =
    if taken Bge (alu Rem c residue) 0
    then near_words (alu Rem c residue) residue (alu_imm Addi 0 width) further
    else near_words (alu Add (alu Rem c residue) residue) residue (alu_imm Addi 0 width) further

abbrev pub lane_words : ℕ → ℕ → ℕ → ℕ → ℤ → Bool → Bool
lane_words distance last root lanes width further =
    if taken Blt root (alu_imm Addi distance width)
    then further
    else (taken Bge lanes (alu Add (alu_imm Addi distance width) (alu Mul last root)) || further)

abbrev pub block_words : ℕ → ℕ → ℕ → ℤ → Bool → Bool
block_words distance span root width further =
    taken Bge root (alu_imm Addi (alu Add distance span) width) || further

-- the part of the inner loops only where there is one that moves, and that of the residues only where something does
abbrev pub residue_if : Bool → ℕ → ℕ → ℤ → Bool → Bool
residue_if true c residue width further = residue_words c residue width further
residue_if false c residue width further = further

abbrev pub lanes_if : Bool → ℕ → ℕ → ℕ → ℕ → ℤ → Bool → Bool
lanes_if true distance last root lanes width further = lane_words distance last root lanes width further
lanes_if false distance last root lanes width further = further

-- the whole test, for the difference c of this size
abbrev pub same_words : Bool → Bool → ℕ → ℕ → ℕ → ℕ → ℕ → ℕ → ℕ → ℤ → Bool
same_words inner common c distance last root span lanes residue width =
    block_words distance span root width (lanes_if inner distance last root lanes width
    (residue_if common c residue width (apart_words distance last root span width)))

-- The copy of a word by its address, the copy's place and the place to which it leads where it branches or jumps.
use Rattle.std.specs.Prelude.{ℕ, ◌+◌, ◌==◌, ◌&&◌, if◌then◌else◌, List, [], ◌∷◌, ◌++◌, pos}
use Rattle.rv64_decode.specs.Aim.{distance}
use Rattle.rv64_decode.specs.Row.{plus_offset, next_pc, signed64}
use Rattle.rv64_decode.specs.declared.instr.ImmOp.TheVariants.{Addiw}
use Rattle.rv64_decode.specs.declared.instr.LoadOp.TheVariants.{Lw}
use Rattle.rv64_decode.specs.declared.instr.UpperOp.TheVariants.{Auipc}
use Rattle.rv64_decode.specs.declared.instr.Instr.{Instr}
use Rattle.rv64_decode.specs.declared.instr.Instr.TheVariants.{AluImm, Upper, Load, Store, Branch, Jal}
use Rattle.rv64_decode.specs.declared.xinstr.XInstr.{XInstr}
use Rattle.rv64_decode.specs.declared.xinstr.XInstr.TheVariants.{Base, Put, Get}
use Rattle.loop_data.specs.declared.shape.Level.{Level}
use Rattle.turn_copies.specs.Copies.{Kind, Leaving, OfCell, Plain, staying, falls_through, jump_to, number_into, word_size}

-- the address to which the copy of the instruction at address u has to lead: for the branch at which the loop is left
-- that of its two words which is in the loop, for other branches and for jumps their target. Copies of the rest lead
-- nowhere, and the next word is not looked at
abbrev pub target_of : Level → ℕ → Kind → Instr → ℕ
target_of l u Leaving i = staying l u i
target_of l u kind (Branch op rs1 rs2 imm) = plus_offset u imm
target_of l u kind (Jal rd imm) = plus_offset u imm
target_of l u kind i = next_pc u

-- the words that stand for the instruction at address u, from place `at` on: for the branch at which the loop is left a
-- jump to the place `to`, for an access of a cell one of its slot, for auipc its number, for other branches and jumps
-- the same to that place, and else the same word
abbrev pub word_at : ℕ → ℕ → ℕ → Kind → Instr → List XInstr
word_at u at to Leaving i = jump_to to at ∷ []
word_at u at to (OfCell k) (Load Lw rd rs1 imm) = Get rd k ∷ Base (AluImm Addiw rd rd (pos 0)) ∷ []
word_at u at to (OfCell k) (Load op rd rs1 imm) = Get rd k ∷ []
word_at u at to (OfCell k) (Store op rs1 rs2 imm) = Put k rs2 ∷ []
word_at u at to (OfCell k) i = []
word_at u at to Plain (Upper Auipc rd imm) = number_into rd (signed64 (plus_offset u imm))
word_at u at to Plain (Branch op rs1 rs2 imm) = Base (Branch op rs1 rs2 (distance to at)) ∷ []
word_at u at to Plain (Jal rd imm) = jump_to to at ∷ []
word_at u at to Plain i = Base i ∷ []

-- and behind it the jump to the end of a turn, where the header is the next word
abbrev pub copy_at : Level → ℕ → ℕ → ℕ → ℕ → Kind → Instr → List XInstr
copy_at l u at to end kind i =
    word_at u at to kind i
    ++ (if falls_through i && (next_pc u == l.header) then jump_to end (at + word_size kind i) ∷ [] else [])

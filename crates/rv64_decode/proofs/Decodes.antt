-- A word that stands for an instruction is decoded as it.
use Rattle.std.proofs.Common.{ℕ, ◌≡◌, Some, refl}
use Rattle.rv64_decode.specs.Table.{Means, decoded}
use Rattle.rv64_decode.specs.declared.instr.AluOp.TheVariants.{Add}
use Rattle.rv64_decode.specs.declared.instr.ImmOp.TheVariants.{Slli, Srli, Srai, Slliw, Srliw, Sraiw}
use Rattle.rv64_decode.specs.declared.instr.UpperOp.TheVariants.{Lui}
use Rattle.rv64_decode.specs.declared.instr.LoadOp.TheVariants.{Lb}
use Rattle.rv64_decode.specs.declared.instr.StoreOp.TheVariants.{Sb}
use Rattle.rv64_decode.specs.declared.instr.BranchOp.TheVariants.{Beq}
use Rattle.rv64_decode.specs.declared.instr.Instr.{Instr}
use Rattle.rv64_decode.specs.declared.instr.Instr.TheVariants.{Alu, AluImm, Upper, Load, Store, Branch, Jal, Jalr, Fence, Ecall, Ebreak}

pub means_decoded : (w : ℕ) (i : Instr) → Means w i → decoded w ≡ Some i
means_decoded w (Alu Add rd rs1 rs2) h = rw (h.0.0, h.0.1, h.0.2, h.1, h.2, h.3) refl
means_decoded w (Alu _ rd rs1 rs2) h = rw (h.0.0, h.0.1, h.0.2, h.1, h.2, h.3) refl
means_decoded w (AluImm Slli rd rs1 imm) h = rw (h.0.0, h.0.1, h.0.2, h.1, h.2, h.3) refl
means_decoded w (AluImm Srli rd rs1 imm) h = rw (h.0.0, h.0.1, h.0.2, h.1, h.2, h.3) refl
means_decoded w (AluImm Srai rd rs1 imm) h = rw (h.0.0, h.0.1, h.0.2, h.1, h.2, h.3) refl
means_decoded w (AluImm Slliw rd rs1 imm) h = rw (h.0.0, h.0.1, h.0.2, h.1, h.2, h.3) refl
means_decoded w (AluImm Srliw rd rs1 imm) h = rw (h.0.0, h.0.1, h.0.2, h.1, h.2, h.3) refl
means_decoded w (AluImm Sraiw rd rs1 imm) h = rw (h.0.0, h.0.1, h.0.2, h.1, h.2, h.3) refl
means_decoded w (AluImm _ rd rs1 imm) h = rw (h.0.0, h.0.1, h.1, h.2, h.3) refl
means_decoded w (Upper Lui rd imm) h = rw (h.0, h.1, h.2) refl
means_decoded w (Upper _ rd imm) h = rw (h.0, h.1, h.2) refl
means_decoded w (Load Lb rd rs1 imm) h = rw (h.0.0, h.0.1, h.1, h.2, h.3) refl
means_decoded w (Load _ rd rs1 imm) h = rw (h.0.0, h.0.1, h.1, h.2, h.3) refl
means_decoded w (Store Sb rs1 rs2 imm) h = rw (h.0.0, h.0.1, h.1, h.2, h.3) refl
means_decoded w (Store _ rs1 rs2 imm) h = rw (h.0.0, h.0.1, h.1, h.2, h.3) refl
means_decoded w (Branch Beq rs1 rs2 imm) h = rw (h.0.0, h.0.1, h.1, h.2, h.3) refl
means_decoded w (Branch _ rs1 rs2 imm) h = rw (h.0.0, h.0.1, h.1, h.2, h.3) refl
means_decoded w (Jal rd imm) h = rw (h.0, h.1, h.2) refl
means_decoded w (Jalr rd rs1 imm) h = rw (h.0.0, h.0.1, h.1, h.2, h.3) refl
means_decoded w (Fence rd rs1 imm) h = rw (h.0.0, h.0.1, h.1, h.2, h.3) refl
means_decoded w Ecall h = rw h refl
means_decoded w Ebreak h = rw h refl

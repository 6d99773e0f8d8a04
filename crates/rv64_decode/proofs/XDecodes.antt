-- A word that stands for an instruction of added code is decoded as it.
use Rattle.std.proofs.Common.{ℕ, ◌≡◌, ◌==◌, ap, Some, None, arith, refl, true, false, Bool}
use Rattle.std.proofs.lemmas.Bool.{eqb-true}
use Rattle.std.proofs.lemmas.Bool.Decides.{nat_tests}
use Rattle.rv64_decode.specs.Fields.{opcode}
use Rattle.rv64_decode.specs.Table.{decoded}
use Rattle.rv64_decode.specs.XTable.{MeansX, decoded_x, with_base}
use Rattle.rv64_decode.specs.declared.instr.Instr.{Instr}
use Rattle.rv64_decode.specs.declared.xinstr.XInstr.{XInstr}
use Rattle.rv64_decode.specs.declared.xinstr.XInstr.TheVariants.{Base, Put, Get, Par, Join, Back, Id, Harts}
use Rattle.rv64_decode.proofs.Decodes.{means_decoded}

custom_none : (w : ℕ) → opcode w ≡ 0x0B → decoded w ≡ None
custom_none w h =
    let a : (w == 0x73) ≡ false = grind (arith, nat_tests) in
    let b : (w == 0x10_0073) ≡ false = grind (arith, nat_tests) in
    rw (h, a, b) refl

not_custom : (w : ℕ) (i : Instr) → decoded w ≡ Some i → (opcode w == 0x0B) ≡ false
not_custom w i e = by_test w i e (opcode w == 0x0B) refl
  where
    by_test : (w : ℕ) (i : Instr) → decoded w ≡ Some i → (t : Bool) → (opcode w == 0x0B) ≡ t → t ≡ false
    by_test w i e false h = refl
    by_test w i e true h = let n = custom_none w (eqb-true (opcode w) 0x0B h) in cc

pub means_x_decoded : (w : ℕ) (i : XInstr) → MeansX w i → decoded_x w ≡ Some i
unfolding decoded_x
means_x_decoded w (Base i) h = let e = means_decoded w i h in let n = not_custom w i e in rw n (ap with_base e)
means_x_decoded w (Put slot rs1) h = rw (h.0.0, h.0.1, h.0.2, h.1, h.2, h.3) refl
means_x_decoded w (Get rd slot) h = rw (h.0.0, h.0.1, h.0.2, h.1, h.2, h.3) refl
means_x_decoded w Par h = rw (h.0.0, h.0.1, h.0.2, h.1, h.2, h.3) refl
means_x_decoded w Join h = rw (h.0.0, h.0.1, h.0.2, h.1, h.2, h.3) refl
means_x_decoded w Back h = rw (h.0.0, h.0.1, h.0.2, h.1, h.2, h.3) refl
means_x_decoded w (Id rd) h = rw (h.0.0, h.0.1, h.0.2, h.1, h.2, h.3) refl
means_x_decoded w (Harts rd) h = rw (h.0.0, h.0.1, h.0.2, h.1, h.2, h.3) refl

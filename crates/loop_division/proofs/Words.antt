-- An instruction of added code has one word.
use Rattle.std.proofs.Common.{ℕ, suc, ◌≡◌, ◌==◌, ◌+◌, ◌-◌, ◌*◌, ◌/◌, ◌%◌, ◌^◌, ◌<◌, ◌&&◌, nat_lt, if◌then◌else◌, Bool, true, false, Option, Some, None, pos, negsuc, refl, sym, subst, ◌∙◌, arith}
use Rattle.std.proofs.lemmas.Bool.{eqb-true, and_parts}
use Rattle.std.proofs.lemmas.Bool.Decides.{nat_tests}
use Rattle.rv64_decode.specs.Fields.{opcode, rd_of, funct3, rs1_of, rs2_of, funct7, funct6, amount64, amount32, signed_by, imm_i, imm_s, imm_b, imm_u, imm_j}
use Rattle.rv64_decode.specs.Operations.{load_by, store_by, branch_by}
use Rattle.rv64_decode.specs.Table.{Means, decoded, with_op, imm_for, IsOp, IsR, IsLoad, IsStore, IsBranch}
use Rattle.rv64_decode.specs.XTable.{MeansX, decoded_x, added_row, with_base}
use Rattle.rv64_decode.specs.declared.instr.AluOp.TheVariants.{Add}
use Rattle.rv64_decode.specs.declared.instr.ImmOp.TheVariants.{Slli, Srli, Srai, Slliw, Srliw, Sraiw}
use Rattle.rv64_decode.specs.declared.instr.UpperOp.TheVariants.{Lui, Auipc}
use Rattle.rv64_decode.specs.declared.instr.LoadOp.{LoadOp}
use Rattle.rv64_decode.specs.declared.instr.LoadOp.TheVariants.{Lb}
use Rattle.rv64_decode.specs.declared.instr.StoreOp.{StoreOp}
use Rattle.rv64_decode.specs.declared.instr.StoreOp.TheVariants.{Sb}
use Rattle.rv64_decode.specs.declared.instr.BranchOp.{BranchOp}
use Rattle.rv64_decode.specs.declared.instr.BranchOp.TheVariants.{Beq}
use Rattle.rv64_decode.specs.declared.instr.Instr.{Instr}
use Rattle.rv64_decode.specs.declared.instr.Instr.TheVariants.{Alu, AluImm, Upper, Load, Store, Branch, Jal, Jalr, Fence, Ecall, Ebreak}
use Rattle.rv64_decode.specs.declared.xinstr.XInstr.{XInstr}
use Rattle.rv64_decode.specs.declared.xinstr.XInstr.TheVariants.{Base, Put, Get, Par, Join, Back, Id, Harts}
use Rattle.rv64_decode.proofs.Rows.{alu33_forth, alu3b_forth, imm13_forth, imm1b_forth}

-- ---- a word means what it is decoded as

-- what is given is what the word means
abbrev pub IsMeant : ℕ → Option Instr → Type 0
IsMeant w (Some i) = Means w i
IsMeant w None = Unit {0}

choose : (w : ℕ) (b : Bool) (x y : Option Instr) → (b ≡ true → IsMeant w x) → (b ≡ false → IsMeant w y) → IsMeant w (if b then x else y)
choose w true x y p q = p refl
choose w false x y p q = q refl

by_op : {A : Type 0} (w : ℕ) (make : A → Instr) (o : Option A) → ((op : A) → o ≡ Some op → Means w (make op)) → IsMeant w (with_op make o)
by_op w make (Some op) f = f op refl
by_op w make None f = tt

load_forth : (w : ℕ) (op : LoadOp) → opcode w ≡ 0x03 → load_by (funct3 w) ≡ Some op → IsLoad op w
load_forth w op e h = grind (arith, nat_tests)

store_forth : (w : ℕ) (op : StoreOp) → opcode w ≡ 0x23 → store_by (funct3 w) ≡ Some op → IsStore op w
store_forth w op e h = grind (arith, nat_tests)

branch_forth : (w : ℕ) (op : BranchOp) → opcode w ≡ 0x63 → branch_by (funct3 w) ≡ Some op → IsBranch op w
branch_forth w op e h = grind (arith, nat_tests)

both_fields : (w n : ℕ) → (opcode w == n && funct3 w == 0) ≡ true → IsOp n 0 w
both_fields w n e = grind (arith, nat_tests)

meant : (w : ℕ) → IsMeant w (decoded w)
meant w =
    choose w (opcode w == 0x33) _ _ (λ e. by_op w (λ op. Alu op (rd_of w) (rs1_of w) (rs2_of w)) _ (λ op h. (alu33_forth w op (eqb-true (opcode w) 0x33 e) h, refl, refl, refl)))
    (λ _. choose w (opcode w == 0x3B) _ _ (λ e. by_op w (λ op. Alu op (rd_of w) (rs1_of w) (rs2_of w)) _ (λ op h. (alu3b_forth w op (eqb-true (opcode w) 0x3B e) h, refl, refl, refl)))
    (λ _. choose w (opcode w == 0x13) _ _ (λ e. by_op w (λ op. AluImm op (rd_of w) (rs1_of w) (imm_for op w)) _ (λ op h. (imm13_forth w op (eqb-true (opcode w) 0x13 e) h, refl, refl, refl)))
    (λ _. choose w (opcode w == 0x1B) _ _ (λ e. by_op w (λ op. AluImm op (rd_of w) (rs1_of w) (imm_for op w)) _ (λ op h. (imm1b_forth w op (eqb-true (opcode w) 0x1B e) h, refl, refl, refl)))
    (λ _. choose w (opcode w == 0x37) (Some (Upper Lui (rd_of w) (imm_u w))) _ (λ e. (eqb-true (opcode w) 0x37 e, refl, refl))
    (λ _. choose w (opcode w == 0x17) (Some (Upper Auipc (rd_of w) (imm_u w))) _ (λ e. (eqb-true (opcode w) 0x17 e, refl, refl))
    (λ _. choose w (opcode w == 0x03) _ _ (λ e. by_op w (λ op. Load op (rd_of w) (rs1_of w) (imm_i w)) _ (λ op h. (load_forth w op (eqb-true (opcode w) 0x03 e) h, refl, refl, refl)))
    (λ _. choose w (opcode w == 0x23) _ _ (λ e. by_op w (λ op. Store op (rs1_of w) (rs2_of w) (imm_s w)) _ (λ op h. (store_forth w op (eqb-true (opcode w) 0x23 e) h, refl, refl, refl)))
    (λ _. choose w (opcode w == 0x63) _ _ (λ e. by_op w (λ op. Branch op (rs1_of w) (rs2_of w) (imm_b w)) _ (λ op h. (branch_forth w op (eqb-true (opcode w) 0x63 e) h, refl, refl, refl)))
    (λ _. choose w (opcode w == 0x6F) (Some (Jal (rd_of w) (imm_j w))) _ (λ e. (eqb-true (opcode w) 0x6F e, refl, refl))
    (λ _. choose w (opcode w == 0x67 && funct3 w == 0) (Some (Jalr (rd_of w) (rs1_of w) (imm_i w))) _ (λ e. (both_fields w 0x67 e, refl, refl, refl))
    (λ _. choose w (opcode w == 0x0F && funct3 w == 0) (Some (Fence (rd_of w) (rs1_of w) (imm_i w))) _ (λ e. (both_fields w 0x0F e, refl, refl, refl))
    (λ _. choose w (w == 0x0000_0073) (Some Ecall) _ (λ e. eqb-true w 0x73 e)
    (λ _. choose w (w == 0x0010_0073) (Some Ebreak) None (λ e. eqb-true w 0x10_0073 e) (λ _. tt))))))))))))))

-- and so with the instructions of added code
abbrev pub IsMeantX : ℕ → Option XInstr → Type 0
IsMeantX w (Some i) = MeansX w i
IsMeantX w None = Unit {0}

choose_x : (w : ℕ) (b : Bool) (x y : Option XInstr) → (b ≡ true → IsMeantX w x) → (b ≡ false → IsMeantX w y)
    → IsMeantX w (if b then x else y)
choose_x w true x y p q = p refl
choose_x w false x y p q = q refl

base_meant : (w : ℕ) (o : Option Instr) → IsMeant w o → IsMeantX w (with_base o)
base_meant w (Some i) h = h
base_meant w None h = tt

custom : (w three : ℕ) → (opcode w == 0x0B && funct7 w == 0) ≡ true → funct3 w ≡ three → IsR 0x0B three 0 w
custom w three e f = let a = (and_parts (opcode w == 0x0B) (funct7 w == 0) e) in (eqb-true (opcode w) 0x0B a.0, f, eqb-true (funct7 w) 0 a.1)

two : (x y : Bool) → (x && y) ≡ true → (x ≡ true) × (y ≡ true)
two true true e = (refl, refl)
two true false e = absurd (cc)
two false y e = absurd (cc)

row_meant : (w : ℕ) → (opcode w == 0x0B && funct7 w == 0) ≡ true → IsMeantX w (added_row w)
row_meant w c =
    choose_x w (funct3 w == 0 && rd_of w == 0) (Some (Put (rs2_of w) (rs1_of w))) _
    (λ e. let a = two _ _ e in (custom w 0 c (eqb-true _ 0 a.0), eqb-true _ 0 a.1, refl, refl))
    (λ _. choose_x w (funct3 w == 1 && rs1_of w == 0) (Some (Get (rd_of w) (rs2_of w))) _
    (λ e. let a = two _ _ e in (custom w 1 c (eqb-true _ 1 a.0), refl, eqb-true _ 0 a.1, refl))
    (λ _. choose_x w (funct3 w == 2 && rd_of w == 0 && rs1_of w == 0 && rs2_of w == 0) (Some Par) _ (λ e. bare 2 e)
    (λ _. choose_x w (funct3 w == 3 && rd_of w == 0 && rs1_of w == 0 && rs2_of w == 0) (Some Join) _ (λ e. bare 3 e)
    (λ _. choose_x w (funct3 w == 4 && rd_of w == 0 && rs1_of w == 0 && rs2_of w == 0) (Some Back) _ (λ e. bare 4 e)
    (λ _. choose_x w (funct3 w == 5 && rs1_of w == 0 && rs2_of w == 0) (Some (Id (rd_of w))) _ (λ e. half 5 e)
    (λ _. choose_x w (funct3 w == 6 && rs1_of w == 0 && rs2_of w == 0) (Some (Harts (rd_of w))) None (λ e. half 6 e)
    (λ _. tt)))))))
  where
    bare : (n : ℕ) → (funct3 w == n && rd_of w == 0 && rs1_of w == 0 && rs2_of w == 0) ≡ true
        → IsR 0x0B n 0 w × (rd_of w ≡ 0) × (rs1_of w ≡ 0) × (rs2_of w ≡ 0)
    bare n e =
        let f : funct3 w ≡ n = grind (arith, nat_tests) in
        (custom w n c f, grind (arith, nat_tests), grind (arith, nat_tests), grind (arith, nat_tests))

    half : (n : ℕ) → (funct3 w == n && rs1_of w == 0 && rs2_of w == 0) ≡ true
        → IsR 0x0B n 0 w × (rd_of w ≡ rd_of w) × (rs1_of w ≡ 0) × (rs2_of w ≡ 0)
    half n e =
        let f : funct3 w ≡ n = grind (arith, nat_tests) in
        (custom w n c f, refl, grind (arith, nat_tests), grind (arith, nat_tests))

meant_x : (w : ℕ) → IsMeantX w (decoded_x w)
unfolding decoded_x
meant_x w = choose_x w (opcode w == 0x0B && funct7 w == 0) (added_row w) (with_base (decoded w)) (row_meant w)
    (λ _. base_meant w (decoded w) (meant w))

-- a word means what it is decoded as
pub decoded_means : (w : ℕ) (i : XInstr) → decoded_x w ≡ Some i → MeansX w i
decoded_means w i e = subst (IsMeantX w) e (meant_x w)

-- ---- the only word

same_signed : (half m n : ℕ) → m < 2 * half → n < 2 * half → signed_by half m ≡ signed_by half n → m ≡ n
same_signed half m n lm ln e = go (nat_lt m half) (nat_lt n half) refl refl e
  where
    go : (a b : Bool) → nat_lt m half ≡ a → nat_lt n half ≡ b
        → (if a then pos m else negsuc (2 * half - suc m)) ≡ (if b then pos n else negsuc (2 * half - suc n)) → m ≡ n
    go true true f g e = cc
    go true false f g e = absurd (cc)
    go false true f g e = absurd (cc)
    go false false f g e = let d : 2 * half - suc m ≡ 2 * half - suc n = cc in omega arith

module _ (v w : ℕ) (lv : v < 2 ^ 32) (lw : w < 2 ^ 32) where
  by_r : opcode v ≡ opcode w → funct3 v ≡ funct3 w → funct7 v ≡ funct7 w → rd_of v ≡ rd_of w → rs1_of v ≡ rs1_of w
      → rs2_of v ≡ rs2_of w → v ≡ w
  by_r a b c d e f = omega arith

  by_shift : opcode v ≡ opcode w → funct3 v ≡ funct3 w → funct6 v ≡ funct6 w → rd_of v ≡ rd_of w → rs1_of v ≡ rs1_of w
      → amount64 v ≡ amount64 w → v ≡ w
  by_shift a b c d e f = let g : v / 2 ^ 20 % 2 ^ 6 ≡ w / 2 ^ 20 % 2 ^ 6 = cc in omega arith

  by_amount : opcode v ≡ opcode w → funct3 v ≡ funct3 w → funct7 v ≡ funct7 w → rd_of v ≡ rd_of w → rs1_of v ≡ rs1_of w
      → amount32 v ≡ amount32 w → v ≡ w
  by_amount a b c d e f = let g : v / 2 ^ 20 % 2 ^ 5 ≡ w / 2 ^ 20 % 2 ^ 5 = cc in omega arith

  by_i : opcode v ≡ opcode w → funct3 v ≡ funct3 w → rd_of v ≡ rd_of w → rs1_of v ≡ rs1_of w → imm_i v ≡ imm_i w → v ≡ w
  by_i a b c d e =
      let f = same_signed (2 ^ 11) (v / 2 ^ 20) (w / 2 ^ 20) (omega arith) (omega arith) e in omega arith

  by_s : opcode v ≡ opcode w → funct3 v ≡ funct3 w → rs1_of v ≡ rs1_of w → rs2_of v ≡ rs2_of w → imm_s v ≡ imm_s w → v ≡ w
  by_s a b c d e =
      let f = same_signed (2 ^ 11) (v / 2 ^ 25 * 2 ^ 5 + v / 2 ^ 7 % 2 ^ 5) (w / 2 ^ 25 * 2 ^ 5 + w / 2 ^ 7 % 2 ^ 5)
      (omega arith) (omega arith) e in
      omega arith

  by_b : opcode v ≡ opcode w → funct3 v ≡ funct3 w → rs1_of v ≡ rs1_of w → rs2_of v ≡ rs2_of w → imm_b v ≡ imm_b w → v ≡ w
  by_b a b c d e =
      let f = same_signed (2 ^ 12)
      (v / 2 ^ 31 * 2 ^ 12 + v / 2 ^ 7 % 2 * 2 ^ 11 + v / 2 ^ 25 % 2 ^ 6 * 2 ^ 5 + v / 2 ^ 8 % 2 ^ 4 * 2)
      (w / 2 ^ 31 * 2 ^ 12 + w / 2 ^ 7 % 2 * 2 ^ 11 + w / 2 ^ 25 % 2 ^ 6 * 2 ^ 5 + w / 2 ^ 8 % 2 ^ 4 * 2)
      (omega arith) (omega arith) e in
      omega arith

  by_u : opcode v ≡ opcode w → rd_of v ≡ rd_of w → imm_u v ≡ imm_u w → v ≡ w
  by_u a b c =
      let f = same_signed (2 ^ 31) (v / 2 ^ 12 * 2 ^ 12) (w / 2 ^ 12 * 2 ^ 12) (omega arith) (omega arith) c in omega arith

  by_j : opcode v ≡ opcode w → rd_of v ≡ rd_of w → imm_j v ≡ imm_j w → v ≡ w
  by_j a b c =
      let f = same_signed (2 ^ 20)
      (v / 2 ^ 31 * 2 ^ 20 + v / 2 ^ 12 % 2 ^ 8 * 2 ^ 12 + v / 2 ^ 20 % 2 * 2 ^ 11 + v / 2 ^ 21 % 2 ^ 10 * 2)
      (w / 2 ^ 31 * 2 ^ 20 + w / 2 ^ 12 % 2 ^ 8 * 2 ^ 12 + w / 2 ^ 20 % 2 * 2 ^ 11 + w / 2 ^ 21 % 2 ^ 10 * 2)
      (omega arith) (omega arith) c in
      omega arith

  via : {A : Type 0} {a b c : A} → a ≡ c → b ≡ c → a ≡ b
  via e f = e ∙ sym f

  one_meaning : (i : Instr) → Means v i → Means w i → v ≡ w
  one_meaning (Alu Add rd rs1 rs2) h k = by_r (via h.0.0 k.0.0) (via h.0.1 k.0.1) (via h.0.2 k.0.2) (via h.1 k.1) (via h.2 k.2) (via h.3 k.3)
  one_meaning (Alu _ rd rs1 rs2) h k = by_r (via h.0.0 k.0.0) (via h.0.1 k.0.1) (via h.0.2 k.0.2) (via h.1 k.1) (via h.2 k.2) (via h.3 k.3)
  one_meaning (AluImm Slli rd rs1 imm) h k = by_shift (via h.0.0 k.0.0) (via h.0.1 k.0.1) (via h.0.2 k.0.2) (via h.1 k.1) (via h.2 k.2) (via h.3 k.3)
  one_meaning (AluImm Srli rd rs1 imm) h k = by_shift (via h.0.0 k.0.0) (via h.0.1 k.0.1) (via h.0.2 k.0.2) (via h.1 k.1) (via h.2 k.2) (via h.3 k.3)
  one_meaning (AluImm Srai rd rs1 imm) h k = by_shift (via h.0.0 k.0.0) (via h.0.1 k.0.1) (via h.0.2 k.0.2) (via h.1 k.1) (via h.2 k.2) (via h.3 k.3)
  one_meaning (AluImm Slliw rd rs1 imm) h k = by_amount (via h.0.0 k.0.0) (via h.0.1 k.0.1) (via h.0.2 k.0.2) (via h.1 k.1) (via h.2 k.2) (via h.3 k.3)
  one_meaning (AluImm Srliw rd rs1 imm) h k = by_amount (via h.0.0 k.0.0) (via h.0.1 k.0.1) (via h.0.2 k.0.2) (via h.1 k.1) (via h.2 k.2) (via h.3 k.3)
  one_meaning (AluImm Sraiw rd rs1 imm) h k = by_amount (via h.0.0 k.0.0) (via h.0.1 k.0.1) (via h.0.2 k.0.2) (via h.1 k.1) (via h.2 k.2) (via h.3 k.3)
  one_meaning (AluImm _ rd rs1 imm) h k = by_i (via h.0.0 k.0.0) (via h.0.1 k.0.1) (via h.1 k.1) (via h.2 k.2) (via h.3 k.3)
  one_meaning (Upper Lui rd imm) h k = by_u (via h.0 k.0) (via h.1 k.1) (via h.2 k.2)
  one_meaning (Upper _ rd imm) h k = by_u (via h.0 k.0) (via h.1 k.1) (via h.2 k.2)
  one_meaning (Load Lb rd rs1 imm) h k = by_i (via h.0.0 k.0.0) (via h.0.1 k.0.1) (via h.1 k.1) (via h.2 k.2) (via h.3 k.3)
  one_meaning (Load _ rd rs1 imm) h k = by_i (via h.0.0 k.0.0) (via h.0.1 k.0.1) (via h.1 k.1) (via h.2 k.2) (via h.3 k.3)
  one_meaning (Store Sb rs1 rs2 imm) h k = by_s (via h.0.0 k.0.0) (via h.0.1 k.0.1) (via h.1 k.1) (via h.2 k.2) (via h.3 k.3)
  one_meaning (Store _ rs1 rs2 imm) h k = by_s (via h.0.0 k.0.0) (via h.0.1 k.0.1) (via h.1 k.1) (via h.2 k.2) (via h.3 k.3)
  one_meaning (Branch Beq rs1 rs2 imm) h k = by_b (via h.0.0 k.0.0) (via h.0.1 k.0.1) (via h.1 k.1) (via h.2 k.2) (via h.3 k.3)
  one_meaning (Branch _ rs1 rs2 imm) h k = by_b (via h.0.0 k.0.0) (via h.0.1 k.0.1) (via h.1 k.1) (via h.2 k.2) (via h.3 k.3)
  one_meaning (Jal rd imm) h k = by_j (via h.0 k.0) (via h.1 k.1) (via h.2 k.2)
  one_meaning (Jalr rd rs1 imm) h k = by_i (via h.0.0 k.0.0) (via h.0.1 k.0.1) (via h.1 k.1) (via h.2 k.2) (via h.3 k.3)
  one_meaning (Fence rd rs1 imm) h k = by_i (via h.0.0 k.0.0) (via h.0.1 k.0.1) (via h.1 k.1) (via h.2 k.2) (via h.3 k.3)
  one_meaning Ecall h k = via h k
  one_meaning Ebreak h k = via h k

  pub one_meaning_x : (i : XInstr) → MeansX v i → MeansX w i → v ≡ w
  one_meaning_x (Base i) h k = one_meaning i h k
  one_meaning_x (Put slot rs1) h k = by_r (via h.0.0 k.0.0) (via h.0.1 k.0.1) (via h.0.2 k.0.2) (via h.1 k.1) (via h.2 k.2) (via h.3 k.3)
  one_meaning_x (Get rd slot) h k = by_r (via h.0.0 k.0.0) (via h.0.1 k.0.1) (via h.0.2 k.0.2) (via h.1 k.1) (via h.2 k.2) (via h.3 k.3)
  one_meaning_x Par h k = by_r (via h.0.0 k.0.0) (via h.0.1 k.0.1) (via h.0.2 k.0.2) (via h.1 k.1) (via h.2 k.2) (via h.3 k.3)
  one_meaning_x Join h k = by_r (via h.0.0 k.0.0) (via h.0.1 k.0.1) (via h.0.2 k.0.2) (via h.1 k.1) (via h.2 k.2) (via h.3 k.3)
  one_meaning_x Back h k = by_r (via h.0.0 k.0.0) (via h.0.1 k.0.1) (via h.0.2 k.0.2) (via h.1 k.1) (via h.2 k.2) (via h.3 k.3)
  one_meaning_x (Id rd) h k = by_r (via h.0.0 k.0.0) (via h.0.1 k.0.1) (via h.0.2 k.0.2) (via h.1 k.1) (via h.2 k.2) (via h.3 k.3)
  one_meaning_x (Harts rd) h k = by_r (via h.0.0 k.0.0) (via h.0.1 k.0.1) (via h.0.2 k.0.2) (via h.1 k.1) (via h.2 k.2) (via h.3 k.3)

pub one_word : (i : XInstr) (v w : ℕ) → v < 2 ^ 32 → w < 2 ^ 32 → decoded_x v ≡ Some i → decoded_x w ≡ Some i → v ≡ w
one_word i v w lv lw e f = one_meaning_x v w lv lw i (decoded_means v i e) (decoded_means w i f)

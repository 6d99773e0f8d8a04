-- No word makes a stride out of forms without one.
use Rattle.std.proofs.Common.{◌≡◌, ℕ, zero, suc, ◌+◌, ◌^◌, Bool, true, false, Option, Some, None, refl, ap, sym, ◌∙◌, arith, if◌then◌else◌, ◌==◌, nat_lt, nat_le, pos, negsuc, ℤ, ◌+ℤ◌, ◌*ℤ◌}
use Rattle.std.proofs.lemmas.Int.{ints}
use Rattle.rv64_decode.specs.declared.instr.Instr.{Instr}
use Rattle.rv64_decode.specs.declared.instr.Instr.TheVariants.{Alu, AluImm, Upper, Load, Store, Branch, Jal, Jalr, Fence, Ecall, Ebreak}
use Rattle.rv64_decode.specs.declared.instr.AluOp.{AluOp}
use Rattle.rv64_decode.specs.declared.instr.AluOp.TheVariants.{Add, Sub, Addw, Subw, Mul, Mulw}
use Rattle.rv64_decode.specs.declared.instr.ImmOp.{ImmOp}
use Rattle.rv64_decode.specs.declared.instr.ImmOp.TheVariants.{Addi, Slli, Addiw, Slliw}
use Rattle.rv64_decode.specs.declared.instr.UpperOp.{UpperOp}
use Rattle.rv64_decode.specs.declared.instr.UpperOp.TheVariants.{Lui, Auipc}
use Rattle.rv64_decode.specs.declared.instr.StoreOp.{StoreOp}
use Rattle.rv64_decode.specs.declared.instr.StoreOp.TheVariants.{Sb, Sh, Sw, Sd}
use Rattle.linear_forms.specs.Forms.{LinearForm, stride, pure, limited, sum_of, difference, multiple}
use Rattle.linear_forms.proofs.Sums.{limited_is}
use Rattle.loop_data.specs.Locations.{first_cell}
use Rattle.loop_data.specs.LoopCode.{LoopCode, writes}
use Rattle.loop_data.specs.Facts.{signed_of, short_of}
use Rattle.loop_data.specs.FormRows.{form_read, form_sum, form_difference, form_multiple, form_shifted, is_pure, is_factor, form_product, form_limited, form_short, alu_form, imm_form, upper_form, register_form, store_form, stored_form, written_form, form_after}

stride-sum : (f g : LinearForm) (k : ℕ) → stride (sum_of f g) k ≡ stride f k +ℤ stride g k
stride-sum f g zero = refl
stride-sum f g (suc zero) = refl
stride-sum f g (suc (suc zero)) = refl
stride-sum f g (suc (suc (suc k))) = refl

stride-multiple : (by : ℤ) (f : LinearForm) (k : ℕ) → stride (multiple by f) k ≡ by *ℤ stride f k
stride-multiple by f zero = refl
stride-multiple by f (suc zero) = refl
stride-multiple by f (suc (suc zero)) = refl
stride-multiple by f (suc (suc (suc k))) = omega (arith, ints)

stride-pure : (z : ℤ) (k : ℕ) → stride (pure z) k ≡ pos 0
stride-pure z zero = refl
stride-pure z (suc zero) = refl
stride-pure z (suc (suc zero)) = refl
stride-pure z (suc (suc (suc k))) = refl

-- no stride of this depth
abbrev pub Without : ℕ → Option LinearForm → Type 0
Without k o = (f : LinearForm) → o ≡ Some f → stride f k ≡ pos 0

without_pure : (k : ℕ) (z : ℤ) → Without k (Some (pure z))
without_pure k z f e = let q : f ≡ pure z = cc in ap (λ h. stride h k) q ∙ stride-pure z k

without_read : (k : ℕ) (F : ℕ → Option LinearForm) (r : ℕ) → Without k (F r) → Without k (form_read F r)
without_read k F r h = go (r == 0)
  where
    go : (b : Bool) → Without k (if b then Some (pure (pos 0)) else F r)
    go true = without_pure k (pos 0)
    go false = h

without_sum : (k : ℕ) (o p : Option LinearForm) → Without k o → Without k p → Without k (form_sum o p)
without_sum k (Some f) (Some g) a b h e =
    let q : sum_of f g ≡ h = cc in
    let x = stride-sum f g k in let y = a f refl in let z = b g refl in
    sym (ap (λ q. stride q k) q) ∙ x ∙ ap (λ q. q +ℤ stride g k) y ∙ ap (λ q. pos 0 +ℤ q) z ∙ omega (arith, ints)
without_sum k (Some f) None a b h e = absurd (cc)
without_sum k None p a b h e = absurd (cc)

without_difference : (k : ℕ) (o p : Option LinearForm) → Without k o → Without k p → Without k (form_difference o p)
without_difference k (Some f) (Some g) a b h e =
    let q : difference f g ≡ h = cc in
    let x = stride-sum f (multiple (negsuc 0) g) k in let y = a f refl in
    let z : negsuc 0 *ℤ stride g k ≡ negsuc 0 *ℤ pos 0 = ap (λ z. negsuc 0 *ℤ z) (b g refl) in
    let w = stride-multiple (negsuc 0) g k in
    sym (ap (λ q. stride q k) q) ∙ x ∙ ap (λ q. q +ℤ stride (multiple (negsuc 0) g) k) y ∙ ap (λ q. pos 0 +ℤ q) (w ∙ z) ∙ omega (arith, ints)
without_difference k (Some f) None a b h e = absurd (cc)
without_difference k None p a b h e = absurd (cc)

without_multiple : (k : ℕ) (by : ℤ) (o : Option LinearForm) → Without k o → Without k (form_multiple by o)
without_multiple k by (Some f) a h e =
    let q : multiple by f ≡ h = cc in
    sym (ap (λ q. stride q k) q) ∙ stride-multiple by f k ∙ ap (λ z. by *ℤ z) (a f refl) ∙ omega (arith, ints)
without_multiple k by None a h e = absurd (cc)

without_short : (k : ℕ) (o : Option LinearForm) → Without k o → Without k (form_short o)
without_short k (Some f) a = go (is_pure f)
  where
    go : (b : Bool) → Without k (if b then Some (pure (short_of f.constant)) else limited f)
    go true = without_pure k (short_of f.constant)
    go false = λ h e. sym (ap (λ q. stride q k) (limited_is f h e)) ∙ a f refl
without_short k None a = λ h e. absurd (cc)

without_product : (k : ℕ) (o p : Option LinearForm) → Without k o → Without k p → Without k (form_product o p)
without_product k (Some f) (Some g) a b = go (is_factor g) (is_factor f)
  where
    go : (x y : Bool) → Without k (if x then Some (multiple g.constant f) else if y then Some (multiple f.constant g) else None)
    go true y = without_multiple k g.constant (Some f) a
    go false true = without_multiple k f.constant (Some g) b
    go false false = λ h e. absurd (cc)
without_product k (Some f) None a b = λ h e. absurd (cc)
without_product k None p a b = λ h e. absurd (cc)

without_limited : (k : ℕ) (o : Option LinearForm) → Without k o → Without k (form_limited o)
without_limited k (Some f) a h e = sym (ap (λ q. stride q k) (limited_is f h e)) ∙ a f refl
without_limited k None a h e = absurd (cc)

without_alu : (k : ℕ) (op : AluOp) (o p : Option LinearForm) → Without k o → Without k p → Without k (alu_form op o p)
without_alu k Add o p a b = without_limited k (form_sum o p) (without_sum k o p a b)
without_alu k Sub o p a b = without_limited k (form_difference o p) (without_difference k o p a b)
without_alu k Addw o p a b = without_short k (form_sum o p) (without_sum k o p a b)
without_alu k Subw o p a b = without_short k (form_difference o p) (without_difference k o p a b)
without_alu k Mul o p a b = without_limited k (form_product o p) (without_product k o p a b)
without_alu k Mulw o p a b = without_short k (form_product o p) (without_product k o p a b)
without_alu k _ o p a b = λ f e. absurd (cc)

without_shifted : (k : ℕ) (o : Option LinearForm) (z : ℤ) → Without k o → Without k (form_shifted o z)
without_shifted k o (pos n) a = go (nat_le n 30)
  where
    go : (b : Bool) → Without k (if b then form_multiple (pos (2 ^ n)) o else None)
    go true = without_multiple k (pos (2 ^ n)) o a
    go false = λ f e. absurd (cc)
without_shifted k o (negsuc n) a = λ f e. absurd (cc)

without_imm : (k : ℕ) (op : ImmOp) (o : Option LinearForm) (z : ℤ) → Without k o → Without k (imm_form op o z)
without_imm k Addi o z a = without_limited k (form_sum o (Some (pure z))) (without_sum k o (Some (pure z)) a (without_pure k z))
without_imm k Addiw o z a = without_short k (form_sum o (Some (pure z))) (without_sum k o (Some (pure z)) a (without_pure k z))
without_imm k Slliw o z a = without_short k (form_shifted o z) (without_shifted k o z a)
without_imm k Slli o z a = without_limited k (form_shifted o z) (without_shifted k o z a)
without_imm k _ o z a = λ f e. absurd (cc)

without_upper : (k : ℕ) (op : UpperOp) (u : ℕ) (z : ℤ) → Without k (upper_form op u z)
without_upper k Lui u z = without_limited k (Some (pure z)) (without_pure k z)
without_upper k Auipc u z = without_limited k (Some (pure (signed_of (pos u +ℤ z)))) (without_pure k (signed_of (pos u +ℤ z)))

without_register : (k u : ℕ) (i : Instr) (cell : Option ℕ) (F : ℕ → Option LinearForm) → ((r : ℕ) → Without k (F r)) → Without k (register_form u i cell F)
without_register k u (Alu op rd rs1 rs2) cell F h = without_alu k op _ _ (without_read k F rs1 (h rs1)) (without_read k F rs2 (h rs2))
without_register k u (AluImm op rd rs1 imm) cell F h = without_imm k op _ imm (without_read k F rs1 (h rs1))
without_register k u (Upper op rd imm) cell F h = without_upper k op u imm
without_register k u (Load op rd rs1 imm) None F h = λ f e. absurd (cc)
without_register k u (Load op rd rs1 imm) (Some c) F h = h (first_cell + c)
without_register k u (Store op rs1 rs2 imm) cell F h = λ f e. absurd (cc)
without_register k u (Branch op rs1 rs2 imm) cell F h = λ f e. absurd (cc)
without_register k u (Jal rd imm) cell F h = λ f e. absurd (cc)
without_register k u (Jalr rd rs1 imm) cell F h = λ f e. absurd (cc)
without_register k u (Fence rd rs1 imm) cell F h = λ f e. absurd (cc)
without_register k u Ecall cell F h = λ f e. absurd (cc)
without_register k u Ebreak cell F h = λ f e. absurd (cc)

without_store : (k : ℕ) (op : StoreOp) (o : Option LinearForm) → Without k o → Without k (store_form op o)
without_store k Sw o a = without_short k o a
without_store k Sb o a = a
without_store k Sh o a = a
without_store k Sd o a = a

without_stored : (k : ℕ) (i : Instr) (F : ℕ → Option LinearForm) → ((r : ℕ) → Without k (F r)) → Without k (stored_form i F)
without_stored k (Store op rs1 rs2 imm) F h = without_store k op (form_read F rs2) (without_read k F rs2 (h rs2))
without_stored k (Alu op rd rs1 rs2) F h = λ f e. absurd (cc)
without_stored k (AluImm op rd rs1 imm) F h = λ f e. absurd (cc)
without_stored k (Upper op rd imm) F h = λ f e. absurd (cc)
without_stored k (Load op rd rs1 imm) F h = λ f e. absurd (cc)
without_stored k (Branch op rs1 rs2 imm) F h = λ f e. absurd (cc)
without_stored k (Jal rd imm) F h = λ f e. absurd (cc)
without_stored k (Jalr rd rs1 imm) F h = λ f e. absurd (cc)
without_stored k (Fence rd rs1 imm) F h = λ f e. absurd (cc)
without_stored k Ecall F h = λ f e. absurd (cc)
without_stored k Ebreak F h = λ f e. absurd (cc)

-- a word makes no stride of a depth out of forms without one
pub without_after : (B : LoopCode) (u k : ℕ) (F : ℕ → Option LinearForm) → ((r : ℕ) → Without k (F r)) → (r : ℕ) → Without k (form_after B u F r)
without_after B u k F h r = go (writes B u r) (B.instr u)
  where
    by : (i : Instr) (b : Bool) → Without k (if b then register_form u i (B.cells.uses u) F else stored_form i F)
    by i true = without_register k u i (B.cells.uses u) F h
    by i false = without_stored k i F h

    go : (w : Bool) (o : Option Instr) → Without k (if w then written_form u o (B.cells.uses u) r F else F r)
    go true None = λ f e. absurd (cc)
    go true (Some i) = by i (nat_lt r first_cell)
    go false o = h r

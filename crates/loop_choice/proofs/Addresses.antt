-- The addresses of accesses in turns and passes up to the last: aligned, and within the whole range.
use Rattle.std.proofs.Common.{◌≡◌, ℕ, suc, ◌/◌, ◌%◌, ◌==◌, Bool, true, false, ◌&&◌, if◌then◌else◌, List, Option, Some, None, refl, ap, ◌∙◌, subst, arith, ℤ, pos, negsuc, ◌+ℤ◌, ◌*ℤ◌, ◌≤ℤ◌}
use Rattle.std.proofs.lemmas.Int.{ints}
use Rattle.std.specs.Int.RustNames.{unsigned_abs}
use Rattle.rv64_decode.specs.Area.{bytes_of}
use Rattle.rv64_decode.specs.declared.memory.Width.{Width}
use Rattle.rv64_decode.specs.declared.memory.Width.TheVariants.{One, Two, Four, Eight}
use Rattle.rv64_decode.specs.declared.instr.Instr.{Instr}
use Rattle.rv64_decode.specs.declared.instr.Instr.TheVariants.{Alu, AluImm, Upper, Load, Store, Branch, Jal, Jalr, Fence, Ecall, Ebreak}
use Rattle.rv64_decode.specs.declared.instr.AluOp.{AluOp}
use Rattle.rv64_decode.specs.declared.instr.AluOp.TheVariants.{Addw, Subw, Mulw}
use Rattle.rv64_decode.specs.declared.instr.ImmOp.{ImmOp}
use Rattle.rv64_decode.specs.declared.instr.ImmOp.TheVariants.{Addiw, Slliw}
use Rattle.rv64_decode.specs.declared.instr.StoreOp.{StoreOp}
use Rattle.rv64_decode.specs.declared.instr.StoreOp.TheVariants.{Sw}
use Rattle.linear_forms.specs.Forms.{LinearForm, pure, is_limited, limited, constant_fits, are_limited, is_small, IsBounded}
use Rattle.linear_forms.proofs.Sums.{times_times}
use Rattle.loop_data.specs.declared.accesses.Access.{Access}
use Rattle.loop_data.specs.LoopCode.{LoopCode}
use Rattle.loop_data.specs.FormRows.{is_pure, form_read, form_sum, form_difference, form_product, form_shifted, form_owed, form_limited, alu_duty, imm_duty, store_duty, duty_by, duty_from, duty}
use Rattle.loop_data.specs.Accesses.{Motion, is_multiple, is_regular, if_regular, address_form, accessed_form}
use Rattle.loop_data.proofs.Tests.{eq_of, and_true}
use Rattle.dependence_tests.specs.Overlaps.{address_in, last_round, whole_range}
use Rattle.alias_checks.specs.Values.{AreUpTo}
use Rattle.alias_checks.proofs.InTurns.{shift_within}

-- ---- forms within their limits

limited_bounded : (f g : LinearForm) → limited f ≡ Some g → IsBounded g
limited_bounded f g e = go (is_limited f) refl e
  where
    go : (b : Bool) → is_limited f ≡ b → (if b then Some f else None) ≡ Some g → IsBounded g
    go true k h =
        let a = and_true (constant_fits f.constant) (are_limited f.terms && (is_small f.first && (is_small f.second && is_small f.third))) k in
        let b = and_true (are_limited f.terms) (is_small f.first && (is_small f.second && is_small f.third)) a.1 in
        let c = and_true (is_small f.first) (is_small f.second && is_small f.third) b.1 in
        let d = and_true (is_small f.second) (is_small f.third) c.1 in
        let q : f ≡ g = cc in
        subst IsBounded q (record { constant = a.0; first = c.0; second = d.0; third = d.1 })
    go false k h = absurd (cc)

form_bounded : (o : Option LinearForm) (g : LinearForm) → form_limited o ≡ Some g → IsBounded g
form_bounded (Some f) g e = limited_bounded f g e
form_bounded None g e = absurd (cc)

owed_bounded : (o : Option LinearForm) (g : LinearForm) → form_owed o ≡ Some g → IsBounded g
owed_bounded None g e = absurd (cc)
owed_bounded (Some f) g e = go (is_pure f) e
  where
    go : (b : Bool) → (if b then None else limited f) ≡ Some g → IsBounded g
    go true h = absurd (cc)
    go false h = limited_bounded f g h

alu_bounded : (op : AluOp) (f h : Option LinearForm) (g : LinearForm) → alu_duty op f h ≡ Some g → IsBounded g
alu_bounded Addw f h g e = owed_bounded (form_sum f h) g e
alu_bounded Subw f h g e = owed_bounded (form_difference f h) g e
alu_bounded Mulw f h g e = owed_bounded (form_product f h) g e
alu_bounded _ f h g e = absurd (cc)

imm_bounded : (op : ImmOp) (f : Option LinearForm) (z : ℤ) (g : LinearForm) → imm_duty op f z ≡ Some g → IsBounded g
imm_bounded Addiw f z g e = owed_bounded (form_sum f (Some (pure z))) g e
imm_bounded Slliw f z g e = owed_bounded (form_shifted f z) g e
imm_bounded _ f z g e = absurd (cc)

store_bounded : (op : StoreOp) (f : Option LinearForm) (g : LinearForm) → store_duty op f ≡ Some g → IsBounded g
store_bounded Sw f g e = owed_bounded f g e
store_bounded _ f g e = absurd (cc)

duty_bounded_by : (i : Instr) (cell : Option ℕ) (F : ℕ → Option LinearForm) (g : LinearForm) → duty_by i cell F ≡ Some g → IsBounded g
duty_bounded_by (Alu op rd rs1 rs2) cell F g e = go (rd == 0) e
  where
    go : (b : Bool) → (if b then None else alu_duty op (form_read F rs1) (form_read F rs2)) ≡ Some g → IsBounded g
    go true h = absurd (cc)
    go false h = alu_bounded op (form_read F rs1) (form_read F rs2) g h
duty_bounded_by (AluImm op rd rs1 imm) cell F g e = go (rd == 0) e
  where
    go : (b : Bool) → (if b then None else imm_duty op (form_read F rs1) imm) ≡ Some g → IsBounded g
    go true h = absurd (cc)
    go false h = imm_bounded op (form_read F rs1) imm g h
duty_bounded_by (Store op rs1 rs2 imm) (Some k) F g e = store_bounded op (form_read F rs2) g e
duty_bounded_by (Store op rs1 rs2 imm) None F g e = absurd (cc)
duty_bounded_by (Upper op rd imm) cell F g e = absurd (cc)
duty_bounded_by (Load op rd rs1 imm) cell F g e = absurd (cc)
duty_bounded_by (Branch op rs1 rs2 imm) cell F g e = absurd (cc)
duty_bounded_by (Jal rd imm) cell F g e = absurd (cc)
duty_bounded_by (Jalr rd rs1 imm) cell F g e = absurd (cc)
duty_bounded_by (Fence rd rs1 imm) cell F g e = absurd (cc)
duty_bounded_by Ecall cell F g e = absurd (cc)
duty_bounded_by Ebreak cell F g e = absurd (cc)

-- the form of a duty keeps to the limits
pub duty_bounded : (B : LoopCode) (u : ℕ) (F : ℕ → Option LinearForm) (g : LinearForm) → duty B u F ≡ Some g → IsBounded g
duty_bounded B u F g e = go (B.instr u) e
  where
    go : (o : Option Instr) → duty_from o (B.cells.uses u) F ≡ Some g → IsBounded g
    go None h = absurd (cc)
    go (Some i) h = duty_bounded_by i (B.cells.uses u) F g h

-- and so does the form of an accessed address, whose strides are multiples of the width
pub access_bounded : (F : ℕ → Option LinearForm) (m : Motion) (g : LinearForm) → accessed_form F m ≡ Some g → IsBounded g × (is_regular m.width g ≡ true)
access_bounded F m g e = go (address_form F m.base m.offset) refl e
  where
    go : (o : Option LinearForm) → address_form F m.base m.offset ≡ o → if_regular m.width o ≡ Some g → IsBounded g × (is_regular m.width g ≡ true)
    go None q h = absurd (cc)
    go (Some f) q h = by (is_regular m.width f) refl h
      where
        by : (b : Bool) → is_regular m.width f ≡ b → (if b then Some f else None) ≡ Some g → IsBounded g × (is_regular m.width g ≡ true)
        by true k h =
            let s : f ≡ g = cc in
            (form_bounded (form_sum (form_read F m.base) (Some (pure m.offset))) g (q ∙ h), subst (λ (x : LinearForm). is_regular m.width x ≡ true) s k)
        by false k h = absurd (cc)

-- ---- alignment

-- a multiple of n
record IsMultiple (n : ℕ) (z : ℤ) : Type 0 where
  pub by : ℤ
  pub is : z ≡ pos n *ℤ by

multiple_is : (w : Width) (z : ℤ) → is_multiple (bytes_of w) z ≡ true → IsMultiple (bytes_of w) z
multiple_is w z e = go w z (eq_of (unsigned_abs z % bytes_of w) 0 e)
  where
    go : (w : Width) (z : ℤ) → unsigned_abs z % bytes_of w ≡ 0 → IsMultiple (bytes_of w) z
    go One (pos m) k = record { by = pos m; is = omega (arith, ints) }
    go One (negsuc m) k = record { by = negsuc m; is = omega (arith, ints) }
    go Two (pos m) k = record { by = pos (m / 2); is = omega (arith, ints) }
    go Two (negsuc m) k = record { by = negsuc 0 *ℤ pos (suc m / 2); is = omega (arith, ints) }
    go Four (pos m) k = record { by = pos (m / 4); is = omega (arith, ints) }
    go Four (negsuc m) k = record { by = negsuc 0 *ℤ pos (suc m / 4); is = omega (arith, ints) }
    go Eight (pos m) k = record { by = pos (m / 8); is = omega (arith, ints) }
    go Eight (negsuc m) k = record { by = negsuc 0 *ℤ pos (suc m / 8); is = omega (arith, ints) }

times_multiple : (w : Width) (z : ℤ) (t : ℕ) → IsMultiple (bytes_of w) z → IsMultiple (bytes_of w) (z *ℤ pos t)
times_multiple w z t m = record { by = m.by *ℤ pos t; is = ap (λ x. x *ℤ pos t) m.is ∙ times_times (pos (bytes_of w)) m.by (pos t) }

sum_aligned : (w : Width) (v base : ℕ) (x y z : ℤ) → IsMultiple (bytes_of w) x → IsMultiple (bytes_of w) y → IsMultiple (bytes_of w) z → base % bytes_of w ≡ 0 → pos v ≡ pos base +ℤ (x +ℤ (y +ℤ z)) → v % bytes_of w ≡ 0
sum_aligned One v base x y z a b c h e = omega arith
sum_aligned Two v base x y z a b c h e = let p = a.is in let q = b.is in let r = c.is in omega (arith, ints)
sum_aligned Four v base x y z a b c h e = let p = a.is in let q = b.is in let r = c.is in omega (arith, ints)
sum_aligned Eight v base x y z a b c h e = let p = a.is in let q = b.is in let r = c.is in omega (arith, ints)

-- the address in each turn is aligned where the first is
pub aligned_in : (w : Width) (f : LinearForm) (v base : ℕ) (t : ℕ → ℕ) → is_regular w f ≡ true → base % bytes_of w ≡ 0 → pos v ≡ address_in f (pos base) t → v % bytes_of w ≡ 0
aligned_in w f v base t r h e =
    let a = and_true (is_multiple (bytes_of w) f.first) (is_multiple (bytes_of w) f.second && is_multiple (bytes_of w) f.third) r in
    let b = and_true (is_multiple (bytes_of w) f.second) (is_multiple (bytes_of w) f.third) a.1 in
    sum_aligned w v base (f.first *ℤ pos (t 0)) (f.second *ℤ pos (t 1)) (f.third *ℤ pos (t 2))
    (times_multiple w f.first (t 0) (multiple_is w f.first a.0)) (times_multiple w f.second (t 1) (multiple_is w f.second b.0)) (times_multiple w f.third (t 2) (multiple_is w f.third b.1)) h e

-- ---- ranges

within : (base low high x from to : ℤ) (n : ℕ) → low ≤ℤ x → x ≤ℤ high → from ≡ base +ℤ low → to ≡ base +ℤ high +ℤ pos n → (from ≤ℤ (base +ℤ x)) × ((base +ℤ x +ℤ pos n) ≤ℤ to)
within base low high x from to n l h e f = (omega (arith, ints), omega (arith, ints))

-- the bytes of an access in each turn lie in its whole range
pub in_range : (a : Access) (base : ℤ) (last : List ℕ) (t : ℕ → ℕ) → AreUpTo (last_round a last) t
    → ((whole_range a base last).0 ≤ℤ address_in a.form base t) × ((address_in a.form base t +ℤ pos (bytes_of a.width)) ≤ℤ (whole_range a base last).1)
in_range a base last t u =
    let s = shift_within a.form (last_round a last) t u in
    within base _ _ _ _ _ (bytes_of a.width) s.low s.high refl refl

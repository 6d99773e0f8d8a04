-- The form that an instruction writes is right, where what it owes is a number of 32 bits.
use Rattle.std.proofs.Common.{◌≡◌, ◌≢◌, ℕ, suc, ◌+◌, ◌-◌, ◌*◌, ◌%◌, ◌^◌, ◌<◌, ◌≤◌, List, [], ◌∷◌, length, get_or, set, Bool, true, false, Option, Some, None, Result, Ok, Err, refl, ap, sym, ◌∙◌, subst, arith, if◌then◌else◌, ◌==◌, nat_lt, nat_le, pos, negsuc, ℤ, ◌+ℤ◌, ◌-ℤ◌, ◌*ℤ◌}
use Rattle.std.proofs.lemmas.Int.{ints}
use Rattle.std.proofs.lemmas.Bool.Decides.{nat_tests}
use Rattle.std.proofs.lemmas.List.{get_or-set_same, get_or-set_other}
use Rattle.std.specs.Int.{w64, cast_unsigned}
use Rattle.rv64_decode.specs.Area.{Area, load_of}
use Rattle.rv64_decode.specs.Ask.{answer, after}
use Rattle.rv64_decode.specs.Form.{IsSigned}
use Rattle.rv64_decode.specs.Range.{IsInRange, AreWords}
use Rattle.rv64_decode.specs.Registers.{register, with_register}
use Rattle.rv64_decode.specs.Row.{row, asks, alu, alu_imm, upper, extended32, low32, load_width, next_pc, plus_offset, onward, jump, stopped, loaded, stored, taken}
use Rattle.rv64_decode.specs.declared.memory.MemFault.{MemFault}
use Rattle.rv64_decode.specs.declared.outcome.Fault.TheVariants.{Target}
use Rattle.rv64_decode.specs.declared.outcome.Next.TheVariants.{At}
use Rattle.rv64_decode.specs.declared.instr.Instr.{Instr}
use Rattle.rv64_decode.specs.declared.instr.Instr.TheVariants.{Alu, AluImm, Upper, Load, Store, Branch, Jal, Jalr, Fence, Ecall, Ebreak}
use Rattle.rv64_decode.specs.declared.instr.AluOp.{AluOp}
use Rattle.rv64_decode.specs.declared.instr.AluOp.TheVariants.{Add, Sub, Addw, Subw, Mul, Mulw}
use Rattle.rv64_decode.specs.declared.instr.ImmOp.{ImmOp}
use Rattle.rv64_decode.specs.declared.instr.ImmOp.TheVariants.{Addi, Slli, Addiw, Slliw}
use Rattle.rv64_decode.specs.declared.instr.UpperOp.{UpperOp}
use Rattle.rv64_decode.specs.declared.instr.UpperOp.TheVariants.{Lui, Auipc}
use Rattle.rv64_decode.specs.declared.instr.LoadOp.{LoadOp}
use Rattle.rv64_decode.specs.declared.instr.StoreOp.{StoreOp}
use Rattle.rv64_decode.proofs.Sound.{register_below}
use Rattle.linear_forms.specs.Forms.{Alike, EntryTerm, LinearForm, weight, exact, is_zero, pure, sum_of, difference, multiple, limited}
use Rattle.linear_forms.proofs.Sums.{same, alike_from, alike_trans, alike_sym, alike_add, alike_sub, alike_times, alike_mod, exact-sum, exact-difference, exact-multiple, exact-pure, limited_is}
use Rattle.loop_data.specs.declared.verdict.Cell.{Cell}
use Rattle.loop_data.specs.Locations.{CellMap, first_cell, cell_at, address, content, held, value_of, target, writes_register, writes_cell, instr_writes}
use Rattle.loop_data.specs.LoopCode.{LoopCode, writes}
use Rattle.loop_data.specs.Facts.{signed_of, short_of}
use Rattle.loop_data.specs.FormRows.{form_read, form_sum, form_difference, form_multiple, form_shifted, is_empty, is_pure, is_factor, form_product, form_limited, form_short, form_owed, alu_form, imm_form, upper_form, register_form, stored_form, written_form, form_after, alu_duty, imm_duty, duty_by, duty_from, duty, cell_form, store_form, store_duty}
use Rattle.loop_data.specs.Runs.{State, run, walk}
use Rattle.loop_data.specs.Executing.{IsOf32Bits, value_at}
use Rattle.loop_data.proofs.Tests.{ne_of, is_ne, and_true}
use Rattle.loop_data.proofs.Shorts.{extended_low, extended_short, addw_is, subw_is, sllw_is, low_product, alike_word, alike_signed_of}
use Rattle.loop_data.proofs.NestVisits.{Visit}
use Rattle.loop_data.proofs.CellWords.{store_of_cell, IsOwn, OnCells, loaded_cell, stored_cell, cell_kept, writer_of}

-- the number is the form's value
abbrev pub Right : (ℕ → ℤ) → (ℕ → ℕ) → ℕ → Option LinearForm → Type 0
Right entry t v o = (f : LinearForm) → o ≡ Some f → Alike (pos v) (exact f entry t)

-- the form's value is a number of 32 bits
abbrev pub IsMet : (ℕ → ℤ) → (ℕ → ℕ) → Option LinearForm → Type 0
IsMet entry t o = (f : LinearForm) → o ≡ Some f → IsOf32Bits (exact f entry t)

pub right_sum : (entry : ℕ → ℤ) (t : ℕ → ℕ) (v w : ℕ) (o p : Option LinearForm) → Right entry t v o → Right entry t w p → Right entry t (v + w) (form_sum o p)
right_sum entry t v w (Some f) (Some g) a b h k =
    let e : sum_of f g ≡ h = cc in
    alike_trans _ _ _ (alike_from _ _ (omega (arith, ints))) (alike_trans _ _ _ (alike_add _ _ _ _ (a f refl) (b g refl)) (alike_from _ _ (sym (exact-sum f g entry t) ∙ ap (λ h. exact h entry t) e)))
right_sum entry t v w (Some f) None a b h k = absurd (cc)
right_sum entry t v w None p a b h k = absurd (cc)

alike_off : (v w : ℕ) → w ≤ 2 ^ 64 → Alike (pos (v + (2 ^ 64 - w))) (pos v -ℤ pos w)
alike_off v w le = record { turns = pos 1; is = omega (arith, ints) }

right_difference : (entry : ℕ → ℤ) (t : ℕ → ℕ) (v w : ℕ) (o p : Option LinearForm) → w ≤ 2 ^ 64 → Right entry t v o → Right entry t w p → Right entry t (v + (2 ^ 64 - w)) (form_difference o p)
right_difference entry t v w (Some f) (Some g) le a b h k =
    let e : difference f g ≡ h = cc in
    alike_trans _ _ _ (alike_off v w le) (alike_trans _ _ _ (alike_sub _ _ _ _ (a f refl) (b g refl)) (alike_from _ _ (sym (exact-difference f g entry t) ∙ ap (λ h. exact h entry t) e)))
right_difference entry t v w (Some f) None le a b h k = absurd (cc)
right_difference entry t v w None p le a b h k = absurd (cc)

right_multiple : (entry : ℕ → ℤ) (t : ℕ → ℕ) (v m : ℕ) (o : Option LinearForm) → Right entry t v o → Right entry t (v * m) (form_multiple (pos m) o)
right_multiple entry t v m (Some f) a h k =
    let e : multiple (pos m) f ≡ h = cc in
    alike_trans _ _ _ (alike_from _ _ (omega (arith, ints))) (alike_trans _ _ _ (alike_times (pos m) _ _ (a f refl)) (alike_from _ _ (sym (exact-multiple (pos m) f entry t) ∙ ap (λ h. exact h entry t) e)))
right_multiple entry t v m None a h k = absurd (cc)

zero_is : (z : ℤ) → is_zero z ≡ true → z ≡ pos 0
zero_is (pos n) e = let k : n ≡ 0 = grind (arith, nat_tests) in ap pos k
zero_is (negsuc n) e = absurd (cc)

empty_weight : (entry : ℕ → ℤ) (ts : List EntryTerm) → is_empty ts ≡ true → weight entry ts ≡ pos 0
empty_weight entry [] e = refl
empty_weight entry (t ∷ ts) e = absurd (cc)

nothing_times : (z : ℤ) (t : ℕ) → z ≡ pos 0 → z *ℤ pos t ≡ pos 0
nothing_times z t e = ap (λ z. z *ℤ pos t) e ∙ omega (arith, ints)

-- the value of a form without terms and strides
exact-of_pure : (f : LinearForm) (entry : ℕ → ℤ) (t : ℕ → ℕ) → is_pure f ≡ true → exact f entry t ≡ f.constant
exact-of_pure f entry t e =
    let a = and_true _ _ e in
    let b = and_true _ _ a.1 in
    let c = and_true _ _ b.1 in
    let w = empty_weight entry f.terms a.0 in
    let x = nothing_times f.first (t 0) (zero_is f.first b.0) in
    let y = nothing_times f.second (t 1) (zero_is f.second c.0) in
    let z = nothing_times f.third (t 2) (zero_is f.third c.1) in
    omega (arith, ints)

right_short : (entry : ℕ → ℤ) (t : ℕ → ℕ) (n : ℕ) (o : Option LinearForm) → IsMet entry t (form_owed o) → Right entry t n o → Right entry t (extended32 (low32 n)) (form_short o)
right_short entry t n (Some f) met a = go (is_pure f) refl met
  where
    go : (b : Bool) → is_pure f ≡ b → IsMet entry t (if b then None else limited f) → Right entry t (extended32 (low32 n)) (if b then Some (pure (short_of f.constant)) else limited f)
    go true e met g k =
        let q : pure (short_of f.constant) ≡ g = cc in
        alike_trans _ _ _ (extended_short n f.constant (alike_trans _ _ _ (a f refl) (alike_from _ _ (exact-of_pure f entry t e))))
        (alike_from _ _ (sym (exact-pure (short_of f.constant) entry t) ∙ ap (λ h. exact h entry t) q))
    go false e met g k =
        let q = limited_is f g k in
        subst (λ h. Alike (pos (extended32 (low32 n))) (exact h entry t)) q (extended_low n (exact f entry t) (a f refl) (subst (λ h. IsOf32Bits (exact h entry t)) (sym q) (met g k)))
right_short entry t n None met a = λ f k. absurd (cc)

pub right_limited : (entry : ℕ → ℤ) (t : ℕ → ℕ) (n : ℕ) (o : Option LinearForm) → Right entry t n o → Right entry t (n % 2 ^ 64) (form_limited o)
right_limited entry t n (Some f) a g k = let q = limited_is f g k in alike_trans _ _ _ (alike_mod n) (subst (λ h. Alike (pos n) (exact h entry t)) q (a f refl))
right_limited entry t n None a g k = absurd (cc)

pub right_pure : (entry : ℕ → ℤ) (t : ℕ → ℕ) (z : ℤ) → IsSigned 32 z → Right entry t (cast_unsigned w64 z) (Some (pure z))
right_pure entry t z h f k =
    let e : f ≡ pure z = cc in
    alike_trans _ _ _ (alike_word z h) (alike_from _ _ (sym (ap (λ g. exact g entry t) e ∙ exact-pure z entry t)))

right_shift : (entry : ℕ → ℤ) (t : ℕ → ℕ) (v : ℕ) (o : Option LinearForm) (z : ℤ) → Right entry t v o → Right entry t (alu_imm Slli v z) (form_limited (form_shifted o z))
right_shift entry t v o (pos n) a = go (nat_le n 30) refl
  where
    go : (b : Bool) → nat_le n 30 ≡ b → Right entry t (alu_imm Slli v (pos n)) (form_limited (if b then form_multiple (pos (2 ^ n)) o else None))
    go true e =
        let k : n % 64 ≡ n = grind (arith, nat_tests) in
        subst (λ m. Right entry t (v * 2 ^ m % 2 ^ 64) (form_limited (form_multiple (pos (2 ^ n)) o))) (sym k) (right_limited entry t (v * 2 ^ n) (form_multiple (pos (2 ^ n)) o) (right_multiple entry t v (2 ^ n) o a))
    go false e = λ f k. absurd (cc)
right_shift entry t v o (negsuc n) a = λ f k. absurd (cc)

right_shift_short : (entry : ℕ → ℤ) (t : ℕ → ℕ) (v : ℕ) (o : Option LinearForm) (z : ℤ) → IsMet entry t (form_owed (form_shifted o z)) → Right entry t v o → Right entry t (alu_imm Slliw v z) (form_short (form_shifted o z))
right_shift_short entry t v o (pos n) met a = go (nat_le n 30) refl met
  where
    go : (b : Bool) → nat_le n 30 ≡ b → IsMet entry t (form_owed (if b then form_multiple (pos (2 ^ n)) o else None)) → Right entry t (alu_imm Slliw v (pos n)) (form_short (if b then form_multiple (pos (2 ^ n)) o else None))
    go true e met =
        let k : n % 32 ≡ n = grind (arith, nat_tests) in
        subst (λ x. Right entry t x (form_short (form_multiple (pos (2 ^ n)) o))) (sym (sllw_is v n ∙ ap (λ m. extended32 (low32 (v * 2 ^ m))) k)) (right_short entry t (v * 2 ^ n) (form_multiple (pos (2 ^ n)) o) met (right_multiple entry t v (2 ^ n) o a))
    go false e met = λ f k. absurd (cc)
right_shift_short entry t v o (negsuc n) met a = λ f k. absurd (cc)

pub right_read : (entry : ℕ → ℤ) (t : ℕ → ℕ) (regs : List ℕ) (F : ℕ → Option LinearForm) (r : ℕ) → Right entry t (register regs r) (F r) → Right entry t (register regs r) (form_read F r)
right_read entry t regs F r all = go (r == 0) refl
  where
    go : (b : Bool) → (r == 0) ≡ b → Right entry t (register regs r) (if b then Some (pure (pos 0)) else F r)
    go true e f k =
        let z : register regs r ≡ 0 = rw e refl in
        let p : f ≡ pure (pos 0) = cc in
        alike_from _ _ (ap pos z ∙ sym (ap (λ g. exact g entry t) p ∙ exact-pure (pos 0) entry t))
    go false e f k = all f k

swap_times : (a b : ℤ) → a *ℤ b ≡ b *ℤ a
swap_times a b = omega (arith, ints)

-- a number times one that is a constant
times_constant : (v w : ℕ) (x c : ℤ) → Alike (pos v) x → Alike (pos w) c → Alike (pos (v * w)) (c *ℤ x)
times_constant v w x c p q =
    alike_trans _ _ _ (alike_from (pos (v * w)) (pos v *ℤ pos w) (omega (arith, ints)))
    (alike_trans _ _ _ (alike_times (pos v) (pos w) c q) (alike_trans _ _ _ (alike_from (pos v *ℤ c) (c *ℤ pos v) (swap_times (pos v) c)) (alike_times c (pos v) x p)))

right_product : (entry : ℕ → ℤ) (t : ℕ → ℕ) (v w : ℕ) (o p : Option LinearForm) → Right entry t v o → Right entry t w p → Right entry t (v * w) (form_product o p)
right_product entry t v w (Some f) (Some g) a b = go (is_factor g) (is_factor f) refl refl
  where
    by : (f g : LinearForm) (v w : ℕ) → Alike (pos v) (exact f entry t) → Alike (pos w) (exact g entry t) → is_factor g ≡ true → Alike (pos (v * w)) (exact (multiple g.constant f) entry t)
    by f g v w a b e =
        let c : exact g entry t ≡ g.constant = exact-of_pure g entry t (and_true _ _ e).0 in
        alike_trans _ _ _ (times_constant v w (exact f entry t) g.constant a (alike_trans _ _ _ b (alike_from _ _ c))) (alike_from _ _ (sym (exact-multiple g.constant f entry t)))

    go : (x y : Bool) → is_factor g ≡ x → is_factor f ≡ y → Right entry t (v * w) (if x then Some (multiple g.constant f) else if y then Some (multiple f.constant g) else None)
    go true y e d h k = let q : multiple g.constant f ≡ h = cc in subst (λ i. Alike (pos (v * w)) (exact i entry t)) q (by f g v w (a f refl) (b g refl) e)
    go false true e d h k =
        let q : multiple f.constant g ≡ h = cc in
        let z : w * v ≡ v * w = omega arith in
        subst (λ i. Alike (pos (v * w)) (exact i entry t)) q (subst (λ n. Alike (pos n) (exact (multiple f.constant g) entry t)) z (by g f w v (b g refl) (a f refl) d))
    go false false e d h k = absurd (cc)
right_product entry t v w (Some f) None a b = λ h k. absurd (cc)
right_product entry t v w None p a b = λ h k. absurd (cc)

right_alu : (entry : ℕ → ℤ) (t : ℕ → ℕ) (op : AluOp) (v w : ℕ) (o p : Option LinearForm) → w ≤ 2 ^ 64 → IsMet entry t (alu_duty op o p) → Right entry t v o → Right entry t w p → Right entry t (alu op v w) (alu_form op o p)
right_alu entry t Add v w o p le met a b = right_limited entry t (v + w) (form_sum o p) (right_sum entry t v w o p a b)
right_alu entry t Sub v w o p le met a b = right_limited entry t (v + (2 ^ 64 - w)) (form_difference o p) (right_difference entry t v w o p le a b)
right_alu entry t Addw v w o p le met a b = subst (λ x. Right entry t x (form_short (form_sum o p))) (sym (addw_is v w)) (right_short entry t (v + w) (form_sum o p) met (right_sum entry t v w o p a b))
right_alu entry t Subw v w o p le met a b = subst (λ x. Right entry t x (form_short (form_difference o p))) (sym (subw_is v w le)) (right_short entry t (v + (2 ^ 64 - w)) (form_difference o p) met (right_difference entry t v w o p le a b))
right_alu entry t Mul v w o p le met a b = right_limited entry t (v * w) (form_product o p) (right_product entry t v w o p a b)
right_alu entry t Mulw v w o p le met a b = subst (λ n. Right entry t (extended32 n) (form_short (form_product o p))) (sym (low_product v w)) (right_short entry t (v * w) (form_product o p) met (right_product entry t v w o p a b))
right_alu entry t _ v w o p le met a b = λ f k. absurd (cc)

right_imm : (entry : ℕ → ℤ) (t : ℕ → ℕ) (op : ImmOp) (v : ℕ) (o : Option LinearForm) (z : ℤ) → IsSigned 32 z → IsMet entry t (imm_duty op o z) → Right entry t v o → Right entry t (alu_imm op v z) (imm_form op o z)
right_imm entry t Addi v o z h met a = right_limited entry t (v + cast_unsigned w64 z) (form_sum o (Some (pure z))) (right_sum entry t v (cast_unsigned w64 z) o (Some (pure z)) a (right_pure entry t z h))
right_imm entry t Addiw v o z h met a = subst (λ x. Right entry t x (form_short (form_sum o (Some (pure z))))) (sym (addw_is v (cast_unsigned w64 z))) (right_short entry t (v + cast_unsigned w64 z) (form_sum o (Some (pure z))) met (right_sum entry t v (cast_unsigned w64 z) o (Some (pure z)) a (right_pure entry t z h)))
right_imm entry t Slliw v o z h met a = right_shift_short entry t v o z met a
right_imm entry t Slli v o z h met a = right_shift entry t v o z a
right_imm entry t _ v o z h met a = λ f k. absurd (cc)

right_upper : (entry : ℕ → ℤ) (t : ℕ → ℕ) (op : UpperOp) (pc : ℕ) (z : ℤ) → IsSigned 32 z → Right entry t (upper op pc z) (upper_form op pc z)
right_upper entry t Lui pc z h f k =
    let e = limited_is (pure z) f k in
    right_pure entry t z h f (ap Some e)
right_upper entry t Auipc pc z h f k =
    let e = limited_is (pure (signed_of (pos pc +ℤ z))) f k in
    alike_trans _ _ _ (alike_mod (pc + cast_unsigned w64 z)) (alike_trans _ _ _ (alike_from _ _ (omega (arith, ints))) (alike_trans _ _ _ (alike_add _ _ _ _ (same (pos pc)) (alike_word z h))
    (alike_trans _ _ _ (alike_sym _ _ (alike_signed_of (pos pc +ℤ z))) (alike_from _ _ (sym (exact-pure (signed_of (pos pc +ℤ z)) entry t) ∙ ap (λ h. exact h entry t) e)))))

-- registers before and after
register-with_same : (regs : List ℕ) (r v : ℕ) → r ≢ 0 → r < length regs → register (with_register regs r v) r ≡ v
register-with_same regs r v ne lt = let e = is_ne r 0 ne in rw e (get_or-set_same regs r v 0 lt)

register-with_other : (regs : List ℕ) (r t v : ℕ) → t ≢ r → register (with_register regs t v) r ≡ register regs r
register-with_other regs r t v ne = go (r == 0) (t == 0)
  where
    go : (a b : Bool) → (if a then 0 else get_or (if b then regs else set regs t v) r 0) ≡ (if a then 0 else get_or regs r 0)
    go true b = refl
    go false true = refl
    go false false = get_or-set_other regs t r v 0 (λ e. ne (sym e))

register-with_kept : (regs : List ℕ) (r t v : ℕ) → (if r == 0 then false else t == r) ≡ false → register (with_register regs t v) r ≡ register regs r
register-with_kept regs r t v = go (r == 0) refl
  where
    go : (a : Bool) → (r == 0) ≡ a → (if a then false else t == r) ≡ false → register (with_register regs t v) r ≡ register regs r
    go true e f = rw e refl
    go false e f = register-with_other regs r t v (ne_of t r f)

jump_kept : (to r : ℕ) (old new : List ℕ) → register new r ≡ register old r → register (jump to old new).regs r ≡ register old r
jump_kept to r old new e = go (to % 4 == 0)
  where
    go : (b : Bool) → register (if b then record { next = At to; regs = new } else stopped Target to old).regs r ≡ register old r
    go true = e
    go false = refl

loaded_kept : (op : LoadOp) (rd addr pc r : ℕ) (regs : List ℕ) (told : Result ℕ MemFault) → (if r == 0 then false else rd == r) ≡ false → register (loaded op rd addr pc regs told).regs r ≡ register regs r
loaded_kept op rd addr pc r regs (Ok n) e = register-with_kept regs r rd _ e
loaded_kept op rd addr pc r regs (Err why) e = refl

stored_kept : (addr pc r : ℕ) (regs : List ℕ) (told : Result ℕ MemFault) → register (stored addr pc regs told).regs r ≡ register regs r
stored_kept addr pc r regs (Ok n) = refl
stored_kept addr pc r regs (Err why) = refl

branch_kept : (b : Bool) (pc to r : ℕ) (regs : List ℕ) → register (if b then jump to regs regs else onward pc regs).regs r ≡ register regs r
branch_kept true pc to r regs = jump_kept to r regs regs refl
branch_kept false pc to r regs = refl

-- a register that the instruction does not write keeps its value
pub keeps : (i : Instr) (pc r : ℕ) (regs : List ℕ) (told : Result ℕ MemFault) → writes_register i r ≡ false → register (row i pc regs told).regs r ≡ register regs r
keeps (Alu op rd rs1 rs2) pc r regs told e = register-with_kept regs r rd _ e
keeps (AluImm op rd rs1 imm) pc r regs told e = register-with_kept regs r rd _ e
keeps (Upper op rd imm) pc r regs told e = register-with_kept regs r rd _ e
keeps (Load op rd rs1 imm) pc r regs told e = loaded_kept op rd _ pc r regs told e
keeps (Store op rs1 rs2 imm) pc r regs told e = stored_kept _ pc r regs told
keeps (Branch op rs1 rs2 imm) pc r regs told e = branch_kept (taken op (register regs rs1) (register regs rs2)) pc (plus_offset pc imm) r regs
keeps (Jal rd imm) pc r regs told e = jump_kept (plus_offset pc imm) r regs (with_register regs rd (next_pc pc)) (register-with_kept regs r rd _ e)
keeps (Jalr rd rs1 imm) pc r regs told e = jump_kept _ r regs (with_register regs rd (next_pc pc)) (register-with_kept regs r rd _ e)
keeps (Fence rd rs1 imm) pc r regs told e = refl
keeps Ecall pc r regs told e = refl
keeps Ebreak pc r regs told e = refl

right_register : (entry : ℕ → ℤ) (t : ℕ → ℕ) (r rd v : ℕ) (regs : List ℕ) (o : Option LinearForm) → r ≢ 0 → rd ≡ r → rd < 32 → AreWords regs → Right entry t v o → Right entry t (register (with_register regs rd v) r) o
right_register entry t r rd v regs o ne e lt ok a =
    let l = ok.count in
    let lt' : rd < length regs = omega arith in
    subst (λ x. Right entry t (register (with_register regs rd v) x) o) e (subst (λ x. Right entry t x o) (sym (register-with_same regs rd v (λ z. ne (sym e ∙ z)) lt')) a)

-- what an instruction owes that writes no x0
owes : (A : Type 0) (rd r : ℕ) (x y : A) (P : A → Type 0) → r ≢ 0 → rd ≡ r → P (if rd == 0 then x else y) → P y
owes A rd r x y P ne e p = subst (λ b. P (if b then x else y)) (is_ne rd 0 (λ z. ne (sym e ∙ z))) p

-- the form that a word writes to a register is right
right_written : (C : CellMap) (entry : ℕ → ℤ) (t : ℕ → ℕ) (u r : ℕ) (i : Instr) (first regs : List ℕ) (m : List Area) (F : ℕ → Option LinearForm) → IsInRange i → AreWords regs
    → ((q : ℕ) → q < 32 → Right entry t (register regs q) (form_read F q)) → ((k : ℕ) → Right entry t (held first (cell_at C.cells k) m) (F (first_cell + k))) → OnCells C u i first regs m
    → IsMet entry t (duty_by i (C.uses u) F) → r ≢ 0 → target i ≡ r → Right entry t (register (row i u regs (answer m (asks i regs))).regs r) (register_form u i (C.uses u) F)
right_written C entry t u r (Alu op rd rs1 rs2) first regs m F d ok all cells on met ne e =
    let b = register_below regs rs2 ok in
    let g = d.registers in
    right_register entry t r rd (alu op (register regs rs1) (register regs rs2)) regs (alu_form op (form_read F rs1) (form_read F rs2)) ne e g.0 ok
    (right_alu entry t op _ _ _ _ (omega arith) (owes (Option LinearForm) rd r None (alu_duty op (form_read F rs1) (form_read F rs2)) (IsMet entry t) ne e met) (all rs1 g.1) (all rs2 g.2))
right_written C entry t u r (AluImm op rd rs1 imm) first regs m F d ok all cells on met ne e =
    let g = d.registers in
    right_register entry t r rd (alu_imm op (register regs rs1) imm) regs (imm_form op (form_read F rs1) imm) ne e g.0 ok
    (right_imm entry t op _ _ imm d.number (owes (Option LinearForm) rd r None (imm_duty op (form_read F rs1) imm) (IsMet entry t) ne e met) (all rs1 g.1))
right_written C entry t u r (Upper op rd imm) first regs m F d ok all cells on met ne e =
    right_register entry t r rd (upper op u imm) regs (upper_form op u imm) ne e d.registers ok (right_upper entry t op u imm d.number)
right_written C entry t u r (Load op rd rs1 imm) first regs m F d ok all cells on met ne e = go (C.uses u) on.own
  where
    x : ℕ
    x = plus_offset (register regs rs1) imm

    go : (uses : Option ℕ) → ((k : ℕ) → uses ≡ Some k → (c : Cell) × (cell_at C.cells k ≡ Some c) × IsOwn (Load op rd rs1 imm) first regs m c)
        → Right entry t (register (loaded op rd x u regs (load_of m x (load_width op))).regs r) (cell_form uses F)
    go None own = λ f k. absurd (cc)
    go (Some k) own =
        let o = own k refl in
        let c = o.0 in
        let v : Right entry t (content c.wide m (address first c)) (F (first_cell + k)) = subst (λ x. Right entry t (held first x m) (F (first_cell + k))) o.1 (cells k) in
        subst (λ (x : List ℕ). Right entry t (register x r) (F (first_cell + k))) (sym (loaded_cell first regs m c op rd rs1 imm u o.2))
        (right_register entry t r rd (content c.wide m (address first c)) regs (F (first_cell + k)) ne e (d.registers).0 ok v)
right_written C entry t u r (Store op rs1 rs2 imm) first regs m F d ok all cells on met ne e = λ f k. absurd (cc)
right_written C entry t u r (Branch op rs1 rs2 imm) first regs m F d ok all cells on met ne e = λ f k. absurd (cc)
right_written C entry t u r (Jal rd imm) first regs m F d ok all cells on met ne e = λ f k. absurd (cc)
right_written C entry t u r (Jalr rd rs1 imm) first regs m F d ok all cells on met ne e = λ f k. absurd (cc)
right_written C entry t u r (Fence rd rs1 imm) first regs m F d ok all cells on met ne e = λ f k. absurd (cc)
right_written C entry t u r Ecall first regs m F d ok all cells on met ne e = λ f k. absurd (cc)
right_written C entry t u r Ebreak first regs m F d ok all cells on met ne e = λ f k. absurd (cc)

-- the form that a store writes to its cell is right
right_stored : (C : CellMap) (entry : ℕ → ℤ) (t : ℕ → ℕ) (u j : ℕ) (i : Instr) (first regs : List ℕ) (m : List Area) (F : ℕ → Option LinearForm) → IsInRange i
    → ((q : ℕ) → q < 32 → Right entry t (register regs q) (form_read F q)) → OnCells C u i first regs m → IsMet entry t (duty_by i (C.uses u) F)
    → writes_cell i (C.uses u) (first_cell + j) ≡ true → Right entry t (held first (cell_at C.cells j) (after m (asks i regs))) (stored_form i F)
right_stored C entry t u j i first regs m F d all on met w = by (writer_of i (C.uses u) j w)
  where
    by : (op : StoreOp) × (rs1 : ℕ) × (rs2 : ℕ) × (imm : ℤ) × (i ≡ Store op rs1 rs2 imm) × (C.uses u ≡ Some j) → Right entry t (held first (cell_at C.cells j) (after m (asks i regs))) (stored_form i F)
    by x =
        let op = x.0 in
        let rs2 = x.2 in
        let v = register regs rs2 in
        let o = on.own j x.5 in
        let c = o.0 in
        let own : IsOwn (Store op x.1 rs2 x.3) first regs m c = subst (λ y. IsOwn y first regs m c) x.4 o.2 in
        let owed : IsMet entry t (store_duty op (form_read F rs2)) = subst (λ y. IsMet entry t (duty_by y (Some j) F)) x.4 (subst (λ y. IsMet entry t (duty_by i y F)) x.5 met) in
        let r2 : rs2 < 32 = (subst IsInRange x.4 d).registers.1 in
        subst (λ y. Right entry t (held first (cell_at C.cells j) (after m (asks y regs))) (stored_form y F)) (sym x.4)
        (subst (λ y. Right entry t (held first y (after m (asks (Store op x.1 rs2 x.3) regs))) (store_form op (form_read F rs2))) (sym o.1)
        (subst (λ n. Right entry t n (store_form op (form_read F rs2))) (sym (stored_cell first regs m c op x.1 rs2 x.3 own))
        (subst (λ p. Right entry t (if c.wide then v % 2 ^ 64 else extended32 (low32 v)) (store_form p (form_read F rs2))) (sym own.0)
        (by_width c.wide (form_read F rs2) v (all rs2 r2) (subst (λ p. IsMet entry t (store_duty p (form_read F rs2))) own.0 owed)))))
      where
        by_width : (wide : Bool) (f : Option LinearForm) (v : ℕ) → Right entry t v f → IsMet entry t (store_duty (store_of_cell wide) f) → Right entry t (if wide then v % 2 ^ 64 else extended32 (low32 v)) (store_form (store_of_cell wide) f)
        by_width true f v a met = λ g e. alike_trans _ _ _ (alike_mod v) (a g e)
        by_width false f v a met = right_short entry t v f met a

module _ (B : LoopCode) (s : State) (m : ℕ) (v : Visit B s m) (on : OnCells B.cells (walk s m) v.does s.regs (run s m).regs (run s m).memory) where
  now : State
  now = run s m

  u : ℕ
  u = walk s m

  -- the value of a location after the visit
  next_value : (b : Bool) (r : ℕ) → ℕ
  next_value b r =
      if b then register (row v.does (walk s m) (run s m).regs (answer (run s m).memory (asks v.does (run s m).regs))).regs r
      else held s.regs (cell_at B.cells.cells (r - first_cell)) (after (run s m).memory (asks v.does (run s m).regs))

  after_is : (r : ℕ) → value_at B.cells s (suc m) r ≡ pos (next_value (nat_lt r first_cell) r)
  unfolding next_value
  after_is r = ap (λ (x : State). pos (value_of B.cells s.regs x r)) v.next

  writes_is : (r : ℕ) → writes B (walk s m) r ≡ (if nat_lt r first_cell then writes_register v.does r else writes_cell v.does (B.cells.uses (walk s m)) r)
  writes_is r = ap (λ o. instr_writes o (B.cells.uses (walk s m)) r) v.is

  number_of_cell : (r : ℕ) → nat_lt r first_cell ≡ false → first_cell + (r - first_cell) ≡ r
  number_of_cell r e = grind (arith, nat_tests)

  -- a location that a visited word does not write
  pub kept_at : (r : ℕ) → writes B (walk s m) r ≡ false → value_at B.cells s (suc m) r ≡ value_at B.cells s m r
  unfolding next_value
  kept_at r e = after_is r ∙ ap pos (go (nat_lt r first_cell) refl (sym (writes_is r) ∙ e))
    where
      go : (b : Bool) → nat_lt r first_cell ≡ b → (if b then writes_register v.does r else writes_cell v.does (B.cells.uses (walk s m)) r) ≡ false
          → next_value b r ≡ (if b then register (run s m).regs r else held s.regs (cell_at B.cells.cells (r - first_cell)) (run s m).memory)
      go true q f = keeps v.does (walk s m) r (run s m).regs (answer (run s m).memory (asks v.does (run s m).regs)) f
      go false q f =
          cell_kept B.cells (walk s m) (r - first_cell) v.does s.regs (run s m).regs (run s m).memory on (ap (writes_cell v.does (B.cells.uses (walk s m))) (number_of_cell r q) ∙ f)

  -- what a visited word leaves in a location is what the forms say, where what it owes is met
  pub right_at : (F : ℕ → Option LinearForm) (entry : ℕ → ℤ) (t : ℕ → ℕ) → ((r : ℕ) (f : LinearForm) → F r ≡ Some f → Alike (value_at B.cells s m r) (exact f entry t)) → (r : ℕ)
      → (writes B (walk s m) r ≡ true → IsMet entry t (duty B (walk s m) F))
      → (f : LinearForm) → form_after B (walk s m) F r ≡ Some f → Alike (value_at B.cells s (suc m) r) (exact f entry t)
  unfolding next_value
  right_at F entry t holds r met f k = by (writes B (walk s m) r) refl k
    where
      registers : (q : ℕ) → q < 32 → Right entry t (register (run s m).regs q) (F q)
      registers q lt f e =
          let l : nat_lt q first_cell ≡ true = grind (arith, nat_tests) in
          subst (λ x. Alike (pos x) (exact f entry t)) (ap (λ b. if b then register (run s m).regs q else held s.regs (cell_at B.cells.cells (q - first_cell)) (run s m).memory) l) (holds q f e)

      reads : (q : ℕ) → q < 32 → Right entry t (register (run s m).regs q) (form_read F q)
      reads q lt = right_read entry t (run s m).regs F q (registers q lt)

      cells : (j : ℕ) → Right entry t (held s.regs (cell_at B.cells.cells j) (run s m).memory) (F (first_cell + j))
      cells j f e =
          let l : nat_lt (first_cell + j) first_cell ≡ false = grind (arith, nat_tests) in
          let z : (first_cell + j) - first_cell ≡ j = omega arith in
          subst (λ x. Alike (pos x) (exact f entry t))
          (ap (λ b. if b then register (run s m).regs (first_cell + j) else held s.regs (cell_at B.cells.cells ((first_cell + j) - first_cell)) (run s m).memory) l ∙ ap (λ n. held s.regs (cell_at B.cells.cells n) (run s m).memory) z)
          (holds (first_cell + j) f e)

      owed : writes B (walk s m) r ≡ true → IsMet entry t (duty_by v.does (B.cells.uses (walk s m)) F)
      owed e = subst (λ o. IsMet entry t (duty_from o (B.cells.uses (walk s m)) F)) v.is (met e)

      by : (w : Bool) → writes B (walk s m) r ≡ w → (if w then written_form (walk s m) (B.instr (walk s m)) (B.cells.uses (walk s m)) r F else F r) ≡ Some f → Alike (value_at B.cells s (suc m) r) (exact f entry t)
      by false e k = subst (λ x. Alike x (exact f entry t)) (sym (kept_at r e)) (holds r f k)
      by true e k =
          subst (λ x. Alike x (exact f entry t)) (sym (after_is r))
          (go (nat_lt r first_cell) refl (sym (writes_is r) ∙ e) (sym (ap (λ o. written_form (walk s m) o (B.cells.uses (walk s m)) r F) v.is) ∙ k))
        where
          go : (b : Bool) → nat_lt r first_cell ≡ b → (if b then writes_register v.does r else writes_cell v.does (B.cells.uses (walk s m)) r) ≡ true
              → (if b then register_form (walk s m) v.does (B.cells.uses (walk s m)) F else stored_form v.does F) ≡ Some f → Alike (pos (next_value b r)) (exact f entry t)
          go true b w k =
              let ne : r ≢ 0 = grind (arith, nat_tests) in
              let q : target v.does ≡ r = grind (arith, nat_tests) in
              right_written B.cells entry t (walk s m) r v.does s.regs (run s m).regs (run s m).memory F v.range v.registers reads cells on (owed e) ne q f k
          go false b w k =
              right_stored B.cells entry t (walk s m) (r - first_cell) v.does s.regs (run s m).regs (run s m).memory F v.range reads on (owed e)
              (ap (writes_cell v.does (B.cells.uses (walk s m))) (number_of_cell r b) ∙ w) f k

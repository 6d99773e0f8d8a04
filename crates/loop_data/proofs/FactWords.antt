-- The fact that an instruction gives is right: it is the form of its base.
use Rattle.std.proofs.Common.{◌≡◌, ℕ, suc, Bool, true, false, Option, Some, None, refl, ap, sym, ◌∙◌, subst, arith, if◌then◌else◌, ◌==◌, nat_lt, ℤ, ◌+ℤ◌}
use Rattle.std.proofs.lemmas.Int.{ints}
use Rattle.rv64_decode.specs.declared.instr.Instr.{Instr}
use Rattle.rv64_decode.specs.declared.instr.Instr.TheVariants.{Alu, AluImm, Upper, Load, Store, Branch, Jal, Jalr, Fence, Ecall, Ebreak}
use Rattle.rv64_decode.specs.declared.instr.AluOp.{AluOp}
use Rattle.rv64_decode.specs.declared.instr.AluOp.TheVariants.{Addw, Subw, Mulw}
use Rattle.rv64_decode.specs.declared.instr.ImmOp.{ImmOp}
use Rattle.rv64_decode.specs.declared.instr.ImmOp.TheVariants.{Addi, Slti, Sltiu, Xori, Ori, Andi, Slli, Srli, Srai, Addiw, Slliw, Srliw, Sraiw}
use Rattle.rv64_decode.specs.declared.instr.StoreOp.{StoreOp}
use Rattle.rv64_decode.specs.declared.instr.StoreOp.TheVariants.{Sb, Sh, Sw, Sd}
use Rattle.linear_forms.specs.Forms.{Alike, LinearForm, exact, pure, limited, constant_fits}
use Rattle.linear_forms.proofs.Sums.{alike_from, alike_trans, limited_is}
use Rattle.loop_data.specs.Locations.{first_cell}
use Rattle.loop_data.specs.LoopCode.{LoopCode, writes}
use Rattle.loop_data.specs.Facts.{Fact, Number, Offset, ranged, fact_read, fact_sum, fact_difference, fact_short, alu_fact, imm_fact, register_fact, store_fact, stored_fact, written_fact, fact_after}
use Rattle.loop_data.specs.FactLaws.{fact_value, is_short_sum}
use Rattle.loop_data.specs.FormRows.{form_read, form_sum, form_difference, form_owed, alu_duty, imm_duty, store_duty, duty_by, duty_from, duty}
use Rattle.loop_data.specs.Runs.{State, run, walk}
use Rattle.loop_data.specs.Executing.{IsOf32Bits, value_at}
use Rattle.loop_data.proofs.NestVisits.{Visit}
use Rattle.loop_data.proofs.CellWords.{OnCells}
use Rattle.loop_data.proofs.FactForms.{fact_form, image, IsOver, Agree, agree_image, agree_number, agree_read, agree_sum, agree_difference, agree_after}
use Rattle.loop_data.proofs.FormWords.{IsMet, right_at}

any_base : (x : Fact) → IsOver (λ q. Unit {0}) x
any_base (Number z) = tt
any_base (Offset q z) = tt

from_form : (base : ℕ → ℤ) (x : Fact) (v : ℤ) → Alike v (exact (fact_form x) base (λ k. 0)) → Alike v (fact_value base x)
from_form base (Number c) v a = alike_trans _ _ _ a (alike_from _ _ (omega (arith, ints)))
from_form base (Offset q c) v a = alike_trans _ _ _ a (alike_from _ _ (omega (arith, ints)))

to_form : (base : ℕ → ℤ) (x : Fact) (v : ℤ) → Alike v (fact_value base x) → Alike v (exact (fact_form x) base (λ k. 0))
to_form base (Number c) v a = alike_trans _ _ _ a (alike_from _ _ (omega (arith, ints)))
to_form base (Offset q c) v a = alike_trans _ _ _ a (alike_from _ _ (omega (arith, ints)))

-- the fact over a location is the value of a number of 32 bits
abbrev pub LosesNone : (ℕ → ℤ) → Fact → Type 0
LosesNone base x = (q : ℕ) (c : ℤ) → x ≡ Offset q c → IsOf32Bits (base q +ℤ c)

short_form : (base : ℕ → ℤ) (q : ℕ) (c : ℤ) → IsOf32Bits (base q +ℤ c) → IsOf32Bits (exact (fact_form (Offset q c)) base (λ k. 0))
short_form base q c s = let e : base q +ℤ c ≡ exact (fact_form (Offset q c)) base (λ k. 0) = omega (arith, ints) in subst IsOf32Bits e s

met_short : (base : ℕ → ℤ) (o : Option Fact) (f : Option LinearForm) (x : Fact) → Agree (λ q. Unit {0}) o f → ranged (fact_short o) ≡ Some x → LosesNone base x → IsMet base (λ k. 0) (form_owed f)
met_short base (Some (Number c)) f x a e l h k = let q = sym (ap form_owed (a (Number c) tt refl)) ∙ k in absurd (cc)
met_short base (Some (Offset r c)) f x a e l h k = go (constant_fits c) e
  where
    go : (b : Bool) → (if b then Some (Offset r c) else None) ≡ Some x → IsOf32Bits (exact h base (λ k. 0))
    go true e =
        let p : Offset r c ≡ x = cc in
        let q : limited (fact_form (Offset r c)) ≡ Some h = sym (ap form_owed (a (Offset r c) tt refl)) ∙ k in
        subst (λ h. IsOf32Bits (exact h base (λ k. 0))) (limited_is (fact_form (Offset r c)) h q) (short_form base r c (l r c (sym p)))
    go false e = absurd (cc)
met_short base None f x a e l h k = absurd (cc)

-- what a word owes is met where the pass gives its register a fact
met_alu : (base : ℕ → ℤ) (op : AluOp) (rd rs1 rs2 : ℕ) (o p : Option Fact) (f g : Option LinearForm) (x : Fact) → Agree (λ q. Unit {0}) o f → Agree (λ q. Unit {0}) p g → alu_fact op o p ≡ Some x
    → (is_short_sum (Some (Alu op rd rs1 rs2)) ≡ true → LosesNone base x) → IsMet base (λ k. 0) (alu_duty op f g)
met_alu base Addw rd rs1 rs2 o p f g x a b e l = met_short base (fact_sum o p) (form_sum f g) x (agree_sum (λ q. Unit {0}) o p f g a b) e (l refl)
met_alu base Subw rd rs1 rs2 o p f g x a b e l = met_short base (fact_difference o p) (form_difference f g) x (agree_difference (λ q. Unit {0}) o p f g a b) e (l refl)
met_alu base Mulw rd rs1 rs2 o p f g x a b e l = absurd (cc)
met_alu base _ rd rs1 rs2 o p f g x a b e l = λ h k. absurd (cc)

met_imm : (base : ℕ → ℤ) (op : ImmOp) (rd rs1 : ℕ) (o : Option Fact) (f : Option LinearForm) (z : ℤ) (x : Fact) → Agree (λ q. Unit {0}) o f → imm_fact op o z ≡ Some x
    → (is_short_sum (Some (AluImm op rd rs1 z)) ≡ true → LosesNone base x) → IsMet base (λ k. 0) (imm_duty op f z)
met_imm base Addiw rd rs1 o f z x a e l = met_short base (fact_sum o (Some (Number z))) (form_sum f (Some (pure z))) x (agree_sum (λ q. Unit {0}) o (Some (Number z)) f (Some (pure z)) a (agree_number (λ q. Unit {0}) z)) e (l refl)
met_imm base Slliw rd rs1 o f z x a e l = absurd (cc)
met_imm base Addi rd rs1 o f z x a e l = λ h k. absurd (cc)
met_imm base Slti rd rs1 o f z x a e l = λ h k. absurd (cc)
met_imm base Sltiu rd rs1 o f z x a e l = λ h k. absurd (cc)
met_imm base Xori rd rs1 o f z x a e l = λ h k. absurd (cc)
met_imm base Ori rd rs1 o f z x a e l = λ h k. absurd (cc)
met_imm base Andi rd rs1 o f z x a e l = λ h k. absurd (cc)
met_imm base Slli rd rs1 o f z x a e l = λ h k. absurd (cc)
met_imm base Srli rd rs1 o f z x a e l = λ h k. absurd (cc)
met_imm base Srai rd rs1 o f z x a e l = λ h k. absurd (cc)
met_imm base Srliw rd rs1 o f z x a e l = λ h k. absurd (cc)
met_imm base Sraiw rd rs1 o f z x a e l = λ h k. absurd (cc)

unless_zero_register : (base : ℕ → ℤ) (rd : ℕ) (o : Option LinearForm) → IsMet base (λ k. 0) o → IsMet base (λ k. 0) (if rd == 0 then None else o)
unless_zero_register base rd o met = go (rd == 0)
  where
    go : (b : Bool) → IsMet base (λ k. 0) (if b then None else o)
    go true = λ h k. absurd (cc)
    go false = met

met_register : (base : ℕ → ℤ) (u : ℕ) (i : Instr) (cell : Option ℕ) (V : ℕ → Option Fact) (x : Fact) → register_fact u i cell V ≡ Some x → (is_short_sum (Some i) ≡ true → LosesNone base x)
    → IsMet base (λ k. 0) (duty_by i cell (λ q. image (V q)))
met_register base u (Alu op rd rs1 rs2) cell V x e l =
    unless_zero_register base rd (alu_duty op (form_read (λ q. image (V q)) rs1) (form_read (λ q. image (V q)) rs2))
    (met_alu base op rd rs1 rs2 _ _ _ _ x (agree_read (λ q. Unit {0}) V (λ q. image (V q)) rs1 (agree_image (λ q. Unit {0}) (V rs1))) (agree_read (λ q. Unit {0}) V (λ q. image (V q)) rs2 (agree_image (λ q. Unit {0}) (V rs2))) e l)
met_register base u (AluImm op rd rs1 imm) cell V x e l =
    unless_zero_register base rd (imm_duty op (form_read (λ q. image (V q)) rs1) imm)
    (met_imm base op rd rs1 _ _ imm x (agree_read (λ q. Unit {0}) V (λ q. image (V q)) rs1 (agree_image (λ q. Unit {0}) (V rs1))) e l)
met_register base u (Store op rs1 rs2 imm) cell V x e l = absurd (cc)
met_register base u (Upper op rd imm) cell V x e l = λ h k. absurd (cc)
met_register base u (Load op rd rs1 imm) cell V x e l = λ h k. absurd (cc)
met_register base u (Branch op rs1 rs2 imm) cell V x e l = λ h k. absurd (cc)
met_register base u (Jal rd imm) cell V x e l = λ h k. absurd (cc)
met_register base u (Jalr rd rs1 imm) cell V x e l = λ h k. absurd (cc)
met_register base u (Fence rd rs1 imm) cell V x e l = λ h k. absurd (cc)
met_register base u Ecall cell V x e l = λ h k. absurd (cc)
met_register base u Ebreak cell V x e l = λ h k. absurd (cc)

-- what a store owes is met where the pass gives its cell a fact
met_stored : (base : ℕ → ℤ) (i : Instr) (cell : Option ℕ) (V : ℕ → Option Fact) (x : Fact) → stored_fact i V ≡ Some x → (is_short_sum (Some i) ≡ true → LosesNone base x)
    → IsMet base (λ k. 0) (duty_by i cell (λ q. image (V q)))
met_stored base (Store op rs1 rs2 imm) None V x e l = λ h k. absurd (cc)
met_stored base (Store op rs1 rs2 imm) (Some j) V x e l = by op e l
  where
    by : (op : StoreOp) → store_fact op (fact_read V rs2) ≡ Some x → (is_short_sum (Some (Store op rs1 rs2 imm)) ≡ true → LosesNone base x) → IsMet base (λ k. 0) (store_duty op (form_read (λ q. image (V q)) rs2))
    by Sw e l = met_short base (fact_read V rs2) (form_read (λ q. image (V q)) rs2) x (agree_read (λ q. Unit {0}) V (λ q. image (V q)) rs2 (agree_image (λ q. Unit {0}) (V rs2))) e (l refl)
    by Sd e l = λ h k. absurd (cc)
    by Sb e l = λ h k. absurd (cc)
    by Sh e l = λ h k. absurd (cc)
met_stored base (Alu op rd rs1 rs2) cell V x e l = absurd (cc)
met_stored base (AluImm op rd rs1 imm) cell V x e l = absurd (cc)
met_stored base (Upper op rd imm) cell V x e l = absurd (cc)
met_stored base (Load op rd rs1 imm) cell V x e l = absurd (cc)
met_stored base (Branch op rs1 rs2 imm) cell V x e l = absurd (cc)
met_stored base (Jal rd imm) cell V x e l = absurd (cc)
met_stored base (Jalr rd rs1 imm) cell V x e l = absurd (cc)
met_stored base (Fence rd rs1 imm) cell V x e l = absurd (cc)
met_stored base Ecall cell V x e l = absurd (cc)
met_stored base Ebreak cell V x e l = absurd (cc)

module _ (B : LoopCode) (s : State) (m : ℕ) (v : Visit B s m) (on : OnCells B.cells (walk s m) v.does s.regs (run s m).regs (run s m).memory) where
  -- what a visited word leaves in a location is what its fact gives, where a short sum loses no bits
  pub fact_right_at : (V : ℕ → Option Fact) (base : ℕ → ℤ) → ((r : ℕ) (x : Fact) → V r ≡ Some x → Alike (value_at B.cells s m r) (fact_value base x)) → (r : ℕ) (x : Fact)
      → (is_short_sum (B.instr (walk s m)) ≡ true → writes B (walk s m) r ≡ true → LosesNone base x)
      → fact_after B (walk s m) V r ≡ Some x → Alike (value_at B.cells s (suc m) r) (fact_value base x)
  fact_right_at V base holds r x keeps e =
      from_form base x (value_at B.cells s (suc m) r)
      (right_at B s m v on (λ q. image (V q)) base (λ k. 0) held r met (fact_form x) (agree_after (λ q. Unit {0}) B (walk s m) V (λ q. image (V q)) (λ q. agree_image (λ q. Unit {0}) (V q)) r x (any_base x) e))
    where
      held : (q : ℕ) (f : LinearForm) → image (V q) ≡ Some f → Alike (value_at B.cells s m q) (exact f base (λ k. 0))
      held q f k = by (V q) refl k
        where
          by : (o : Option Fact) → V q ≡ o → image o ≡ Some f → Alike (value_at B.cells s m q) (exact f base (λ k. 0))
          by (Some y) p k = let g : fact_form y ≡ f = cc in subst (λ f. Alike (value_at B.cells s m q) (exact f base (λ k. 0))) g (to_form base y (value_at B.cells s m q) (holds q y p))
          by None p k = absurd (cc)

      -- a fact that is written
      met : writes B (walk s m) r ≡ true → IsMet base (λ k. 0) (duty B (walk s m) (λ q. image (V q)))
      met w =
          subst (λ o. IsMet base (λ k. 0) (duty_from o (B.cells.uses (walk s m)) (λ q. image (V q)))) (sym v.is)
          (by (nat_lt r first_cell)
          (sym (ap (λ o. written_fact (walk s m) o (B.cells.uses (walk s m)) r V) v.is) ∙ sym (ap (λ b. if b then written_fact (walk s m) (B.instr (walk s m)) (B.cells.uses (walk s m)) r V else V r) w) ∙ e))
        where
          by : (b : Bool) → (if b then register_fact (walk s m) v.does (B.cells.uses (walk s m)) V else stored_fact v.does V) ≡ Some x → IsMet base (λ k. 0) (duty_by v.does (B.cells.uses (walk s m)) (λ q. image (V q)))
          by true k = met_register base (walk s m) v.does (B.cells.uses (walk s m)) V x k (λ i. keeps (ap is_short_sum v.is ∙ i) w)
          by false k = met_stored base v.does (B.cells.uses (walk s m)) V x k (λ i. keeps (ap is_short_sum v.is ∙ i) w)

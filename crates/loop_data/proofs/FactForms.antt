-- Facts as forms: what the pass over a loop knows, and the equations say too.
use Rattle.std.proofs.Common.{◌≡◌, ℕ, ◌^◌, Bool, true, false, ◌&&◌, Option, Some, None, ◌+◌, refl, ap, sym, ◌∙◌, subst, arith, if◌then◌else◌, ◌==◌, nat_lt, nat_le, [], ◌∷◌, pos, negsuc, ℤ, ◌+ℤ◌, ◌-ℤ◌, ◌*ℤ◌}
use Rattle.std.proofs.lemmas.Int.{ints}
use Rattle.rv64_decode.specs.declared.instr.Instr.{Instr}
use Rattle.rv64_decode.specs.declared.instr.Instr.TheVariants.{Alu, AluImm, Upper, Load, Store, Branch, Jal, Jalr, Fence, Ecall, Ebreak}
use Rattle.rv64_decode.specs.declared.instr.AluOp.{AluOp}
use Rattle.rv64_decode.specs.declared.instr.AluOp.TheVariants.{Add, Sub, Addw, Subw, Mul, Mulw}
use Rattle.rv64_decode.specs.declared.instr.ImmOp.{ImmOp}
use Rattle.rv64_decode.specs.declared.instr.ImmOp.TheVariants.{Addi, Slti, Sltiu, Xori, Ori, Andi, Slli, Srli, Srai, Addiw, Slliw, Srliw, Sraiw}
use Rattle.rv64_decode.specs.declared.instr.UpperOp.{UpperOp}
use Rattle.rv64_decode.specs.declared.instr.StoreOp.{StoreOp}
use Rattle.rv64_decode.specs.declared.instr.StoreOp.TheVariants.{Sb, Sh, Sw, Sd}
use Rattle.rv64_decode.specs.declared.instr.UpperOp.TheVariants.{Lui, Auipc}
use Rattle.linear_forms.specs.Forms.{LinearForm, pure, limited, sum_of, difference, constant_fits}
use Rattle.loop_data.specs.Locations.{first_cell, instr_writes}
use Rattle.loop_data.specs.LoopCode.{LoopCode}
use Rattle.loop_data.specs.Facts.{Fact, Number, Offset, number_in, signed_of, short_of, ranged, fact_read, fact_sum, fact_difference, fact_shifted, fact_short, alu_fact, imm_fact, upper_fact, cell_fact, register_fact, store_fact, stored_fact, written_fact, fact_after, fact_past}
use Rattle.loop_data.specs.FormRows.{form_read, form_sum, form_difference, form_multiple, form_shifted, form_limited, form_short, alu_form, imm_form, upper_form, cell_form, register_form, store_form, stored_form, written_form, form_after}

-- a fact as a form over the values at the turn's arrival
abbrev pub fact_form : Fact → LinearForm
fact_form (Number c) = pure c
fact_form (Offset q c) = record { constant = c; terms = record { loc = q; by = pos 1 } ∷ []; first = pos 0; second = pos 0; third = pos 0 }

abbrev pub image : Option Fact → Option LinearForm
image (Some x) = Some (fact_form x)
image None = None

-- a number, or an offset from a location of these
abbrev pub IsOver : (ℕ → Type 0) → Fact → Type 0
IsOver P (Number z) = Unit {0}
IsOver P (Offset q z) = P q

-- the fact, where there is one over these locations, is the form's
abbrev pub Agree : (ℕ → Type 0) → Option Fact → Option LinearForm → Type 0
Agree P o f = (x : Fact) → IsOver P x → o ≡ Some x → f ≡ Some (fact_form x)

-- the words that the pass sees use no other cells
abbrev pub IsUseOf : Option ℕ → Option ℕ → Type 0
IsUseOf None cell = Unit {0}
IsUseOf (Some k) cell = cell ≡ Some k

both_added : (f g : Option LinearForm) (i j : LinearForm) → f ≡ Some i → g ≡ Some j → form_sum f g ≡ Some (sum_of i j)
both_added f g i j p q = ap (λ a. form_sum a g) p ∙ ap (λ a. form_sum (Some i) a) q

both_off : (f g : Option LinearForm) (i j : LinearForm) → f ≡ Some i → g ≡ Some j → form_difference f g ≡ Some (difference i j)
both_off f g i j p q = ap (λ a. form_difference a g) p ∙ ap (λ a. form_difference (Some i) a) q

less : (a b : ℤ) → a +ℤ negsuc 0 *ℤ b ≡ a -ℤ b
less a b = omega (arith, ints)

no_times : (z : ℤ) → z *ℤ pos 0 ≡ pos 0
no_times z = omega (arith, ints)

in_limits : (x : Fact) → constant_fits (number_in x) ≡ true → limited (fact_form x) ≡ Some (fact_form x)
in_limits (Number c) e = ap (λ b. if b && true then Some (pure c) else None) e
in_limits (Offset q c) e = ap (λ b. if b && true then Some (fact_form (Offset q c)) else None) e

module _ (P : ℕ → Type 0) where
  pub agree_image : (o : Option Fact) → Agree P o (image o)
  agree_image o x l e = ap image e

  pub agree_number : (z : ℤ) → Agree P (Some (Number z)) (Some (pure z))
  agree_number z x l e = let q : Number z ≡ x = cc in ap (λ y. Some (fact_form y)) q

  pub agree_read : (V : ℕ → Option Fact) (F : ℕ → Option LinearForm) (r : ℕ) → Agree P (V r) (F r) → Agree P (fact_read V r) (form_read F r)
  agree_read V F r a = go (r == 0)
    where
      go : (b : Bool) → Agree P (if b then Some (Number (pos 0)) else V r) (if b then Some (pure (pos 0)) else F r)
      go true = agree_number (pos 0)
      go false = a

  nothing : (f : Option LinearForm) → Agree P None f
  nothing f x l e = absurd (cc)

  pub agree_sum : (o p : Option Fact) (f g : Option LinearForm) → Agree P o f → Agree P p g → Agree P (fact_sum o p) (form_sum f g)
  agree_sum (Some (Number a)) (Some (Number b)) f g h k x l e =
      let q : Number (a +ℤ b) ≡ x = cc in
      both_added f g (pure a) (pure b) (h (Number a) tt refl) (k (Number b) tt refl) ∙ ap (λ y. Some (fact_form y)) q
  agree_sum (Some (Number a)) (Some (Offset r b)) f g h k x l e =
      let q : Offset r (a +ℤ b) ≡ x = cc in
      both_added f g (pure a) (fact_form (Offset r b)) (h (Number a) tt refl) (k (Offset r b) (subst (IsOver P) (sym q) l) refl) ∙ ap (λ y. Some (fact_form y)) q
  agree_sum (Some (Offset r a)) (Some (Number b)) f g h k x l e =
      let q : Offset r (a +ℤ b) ≡ x = cc in
      both_added f g (fact_form (Offset r a)) (pure b) (h (Offset r a) (subst (IsOver P) (sym q) l) refl) (k (Number b) tt refl) ∙ ap (λ y. Some (fact_form y)) q
  agree_sum (Some (Offset r a)) (Some (Offset t b)) f g h k x l e = absurd (cc)
  agree_sum (Some (Number a)) None f g h k x l e = absurd (cc)
  agree_sum (Some (Offset r a)) None f g h k x l e = absurd (cc)
  agree_sum None p f g h k x l e = absurd (cc)

  pub agree_difference : (o p : Option Fact) (f g : Option LinearForm) → Agree P o f → Agree P p g → Agree P (fact_difference o p) (form_difference f g)
  agree_difference (Some (Number a)) (Some (Number b)) f g h k x l e =
      let q : Number (a -ℤ b) ≡ x = cc in
      both_off f g (pure a) (pure b) (h (Number a) tt refl) (k (Number b) tt refl) ∙ ap (λ z. Some (pure z)) (less a b) ∙ ap (λ y. Some (fact_form y)) q
  agree_difference (Some (Offset r a)) (Some (Number b)) f g h k x l e =
      let q : Offset r (a -ℤ b) ≡ x = cc in
      both_off f g (fact_form (Offset r a)) (pure b) (h (Offset r a) (subst (IsOver P) (sym q) l) refl) (k (Number b) tt refl) ∙ ap (λ z. Some (fact_form (Offset r z))) (less a b) ∙ ap (λ y. Some (fact_form y)) q
  agree_difference (Some (Number a)) (Some (Offset r b)) f g h k x l e = absurd (cc)
  agree_difference (Some (Offset t a)) (Some (Offset r b)) f g h k x l e = absurd (cc)
  agree_difference (Some (Number a)) None f g h k x l e = absurd (cc)
  agree_difference (Some (Offset r a)) None f g h k x l e = absurd (cc)
  agree_difference None p f g h k x l e = absurd (cc)

  agree_shifted : (o : Option Fact) (f : Option LinearForm) (z : ℤ) → Agree P o f → Agree P (fact_shifted o z) (form_shifted f z)
  agree_shifted (Some (Number a)) f (pos n) h = go (nat_le n 30)
    where
      go : (b : Bool) → Agree P (if b then Some (Number (pos (2 ^ n) *ℤ a)) else None) (if b then form_multiple (pos (2 ^ n)) f else None)
      go true x l e =
          let q : Number (pos (2 ^ n) *ℤ a) ≡ x = cc in
          ap (form_multiple (pos (2 ^ n))) (h (Number a) tt refl)
          ∙ ap (λ w. Some (record { constant = pos (2 ^ n) *ℤ a; terms = []; first = w; second = w; third = w })) (no_times (pos (2 ^ n)))
          ∙ ap (λ y. Some (fact_form y)) q
      go false x l e = absurd (cc)
  agree_shifted (Some (Number a)) f (negsuc n) h = nothing None
  agree_shifted (Some (Offset q a)) f z h = nothing (form_shifted f z)
  agree_shifted None f z h = nothing (form_shifted f z)

  agree_ranged : (o : Option Fact) (f : Option LinearForm) → Agree P o f → Agree P (ranged o) (form_limited f)
  agree_ranged (Some y) f h x l = go (constant_fits (number_in y)) refl
    where
      go : (b : Bool) → constant_fits (number_in y) ≡ b → (if b then Some y else None) ≡ Some x → form_limited f ≡ Some (fact_form x)
      go true r e =
          let q : y ≡ x = cc in
          ap form_limited (h y (subst (IsOver P) (sym q) l) refl) ∙ in_limits y r ∙ ap (λ y. Some (fact_form y)) q
      go false r e = absurd (cc)
  agree_ranged None f h x l = λ e. absurd (cc)

  agree_short : (o : Option Fact) (f : Option LinearForm) → Agree P o f → Agree P (ranged (fact_short o)) (form_short f)
  agree_short (Some (Number c)) f h x l = go (constant_fits (short_of c))
    where
      go : (b : Bool) → (if b then Some (Number (short_of c)) else None) ≡ Some x → form_short f ≡ Some (fact_form x)
      go true e = let q : Number (short_of c) ≡ x = cc in ap form_short (h (Number c) tt refl) ∙ ap (λ y. Some (fact_form y)) q
      go false e = absurd (cc)
  agree_short (Some (Offset r c)) f h x l = go (constant_fits c) refl
    where
      go : (b : Bool) → constant_fits c ≡ b → (if b then Some (Offset r c) else None) ≡ Some x → form_short f ≡ Some (fact_form x)
      go true i e =
          let q : Offset r c ≡ x = cc in
          ap form_short (h (Offset r c) (subst (IsOver P) (sym q) l) refl) ∙ in_limits (Offset r c) i ∙ ap (λ y. Some (fact_form y)) q
      go false i e = absurd (cc)
  agree_short None f h x l = λ e. absurd (cc)

  agree_alu : (op : AluOp) (o p : Option Fact) (f g : Option LinearForm) → Agree P o f → Agree P p g → Agree P (alu_fact op o p) (alu_form op f g)
  agree_alu Add o p f g h k = agree_ranged (fact_sum o p) (form_sum f g) (agree_sum o p f g h k)
  agree_alu Sub o p f g h k = agree_ranged (fact_difference o p) (form_difference f g) (agree_difference o p f g h k)
  agree_alu Addw o p f g h k = agree_short (fact_sum o p) (form_sum f g) (agree_sum o p f g h k)
  agree_alu Subw o p f g h k = agree_short (fact_difference o p) (form_difference f g) (agree_difference o p f g h k)
  agree_alu Mul o p f g h k = nothing (alu_form Mul f g)
  agree_alu Mulw o p f g h k = nothing (alu_form Mulw f g)
  agree_alu _ o p f g h k = nothing None

  agree_imm : (op : ImmOp) (o : Option Fact) (f : Option LinearForm) (z : ℤ) → Agree P o f → Agree P (imm_fact op o z) (imm_form op f z)
  agree_imm Addi o f z h = agree_alu Add o (Some (Number z)) f (Some (pure z)) h (agree_number z)
  agree_imm Addiw o f z h = agree_alu Addw o (Some (Number z)) f (Some (pure z)) h (agree_number z)
  agree_imm Slli o f z h = agree_ranged (fact_shifted o z) (form_shifted f z) (agree_shifted o f z h)
  agree_imm Slti o f z h = nothing None
  agree_imm Sltiu o f z h = nothing None
  agree_imm Xori o f z h = nothing None
  agree_imm Ori o f z h = nothing None
  agree_imm Andi o f z h = nothing None
  agree_imm Srli o f z h = nothing None
  agree_imm Srai o f z h = nothing None
  agree_imm Slliw o f z h = nothing (imm_form Slliw f z)
  agree_imm Srliw o f z h = nothing None
  agree_imm Sraiw o f z h = nothing None

  agree_upper : (op : UpperOp) (u : ℕ) (z : ℤ) → Agree P (upper_fact op u z) (upper_form op u z)
  agree_upper Lui u z = agree_ranged (Some (Number z)) (Some (pure z)) (agree_number z)
  agree_upper Auipc u z = agree_ranged (Some (Number (signed_of (pos u +ℤ z)))) (Some (pure (signed_of (pos u +ℤ z)))) (agree_number (signed_of (pos u +ℤ z)))

  agree_cell : (c d : Option ℕ) (V : ℕ → Option Fact) (F : ℕ → Option LinearForm) → IsUseOf c d → ((q : ℕ) → Agree P (V q) (F q)) → Agree P (cell_fact c V) (cell_form d F)
  agree_cell None d V F u all = nothing (cell_form d F)
  agree_cell (Some k) d V F u all = subst (λ c. Agree P (V (first_cell + k)) (cell_form c F)) (sym u) (all (first_cell + k))

  agree_register : (u : ℕ) (i : Instr) (c d : Option ℕ) (V : ℕ → Option Fact) (F : ℕ → Option LinearForm) → IsUseOf c d → ((q : ℕ) → Agree P (V q) (F q)) → Agree P (register_fact u i c V) (register_form u i d F)
  agree_register u (Alu op rd rs1 rs2) c d V F same all = agree_alu op _ _ _ _ (agree_read V F rs1 (all rs1)) (agree_read V F rs2 (all rs2))
  agree_register u (AluImm op rd rs1 imm) c d V F same all = agree_imm op _ _ imm (agree_read V F rs1 (all rs1))
  agree_register u (Upper op rd imm) c d V F same all = agree_upper op u imm
  agree_register u (Load op rd rs1 imm) c d V F same all = agree_cell c d V F same all
  agree_register u (Store op rs1 rs2 imm) c d V F same all = nothing None
  agree_register u (Branch op rs1 rs2 imm) c d V F same all = nothing None
  agree_register u (Jal rd imm) c d V F same all = nothing None
  agree_register u (Jalr rd rs1 imm) c d V F same all = nothing None
  agree_register u (Fence rd rs1 imm) c d V F same all = nothing None
  agree_register u Ecall c d V F same all = nothing None
  agree_register u Ebreak c d V F same all = nothing None

  agree_store : (op : StoreOp) (o : Option Fact) (f : Option LinearForm) → Agree P o f → Agree P (store_fact op o) (store_form op f)
  agree_store Sw o f h = agree_short o f h
  agree_store Sd o f h = h
  agree_store Sb o f h = h
  agree_store Sh o f h = h

  agree_stored : (i : Instr) (V : ℕ → Option Fact) (F : ℕ → Option LinearForm) → ((q : ℕ) → Agree P (V q) (F q)) → Agree P (stored_fact i V) (stored_form i F)
  agree_stored (Store op rs1 rs2 imm) V F all = agree_store op _ _ (agree_read V F rs2 (all rs2))
  agree_stored (Alu op rd rs1 rs2) V F all = nothing None
  agree_stored (AluImm op rd rs1 imm) V F all = nothing None
  agree_stored (Upper op rd imm) V F all = nothing None
  agree_stored (Load op rd rs1 imm) V F all = nothing None
  agree_stored (Branch op rs1 rs2 imm) V F all = nothing None
  agree_stored (Jal rd imm) V F all = nothing None
  agree_stored (Jalr rd rs1 imm) V F all = nothing None
  agree_stored (Fence rd rs1 imm) V F all = nothing None
  agree_stored Ecall V F all = nothing None
  agree_stored Ebreak V F all = nothing None

  -- the fact of a location after a word is its form's
  pub agree_past : (u : ℕ) (i : Option Instr) (c d : Option ℕ) (V : ℕ → Option Fact) (F : ℕ → Option LinearForm) → IsUseOf c d → ((q : ℕ) → Agree P (V q) (F q)) → (r : ℕ) → instr_writes i c r ≡ instr_writes i d r
      → Agree P (fact_past u i c V r) (if instr_writes i d r then written_form u i d r F else F r)
  agree_past u i c d V F same all r e = subst (λ w. Agree P (if w then written_fact u i c r V else V r) (if instr_writes i d r then written_form u i d r F else F r)) (sym e) (go (instr_writes i d r))
    where
      written : (i : Option Instr) → Agree P (written_fact u i c r V) (written_form u i d r F)
      written None = nothing None
      written (Some i) = by (nat_lt r first_cell)
        where
          by : (b : Bool) → Agree P (if b then register_fact u i c V else stored_fact i V) (if b then register_form u i d F else stored_form i F)
          by true = agree_register u i c d V F same all
          by false = agree_stored i V F all

      go : (w : Bool) → Agree P (if w then written_fact u i c r V else V r) (if w then written_form u i d r F else F r)
      go true = written i
      go false = all r

  use_same : (c : Option ℕ) → IsUseOf c c
  use_same None = tt
  use_same (Some k) = refl

  pub agree_after : (B : LoopCode) (u : ℕ) (V : ℕ → Option Fact) (F : ℕ → Option LinearForm) → ((q : ℕ) → Agree P (V q) (F q)) → (r : ℕ) → Agree P (fact_after B u V r) (form_after B u F r)
  agree_after B u V F all r = agree_past u (B.instr u) (B.cells.uses u) (B.cells.uses u) V F (use_same (B.cells.uses u)) all r refl

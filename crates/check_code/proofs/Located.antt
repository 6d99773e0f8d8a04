-- The forms at the words of a loop are over its own locations: registers, and the cells that it has.
use Rattle.std.proofs.Common.{◌≡◌, ◌≢◌, ℕ, zero, suc, ◌+◌, ◌-◌, ◌^◌, ◌<◌, ◌⊎◌, ◌↔◌, inl, inr, refl, sym, subst, ap, ◌∙◌, arith, ℤ, pos, negsuc, ◌+ℤ◌, ◌*ℤ◌, Option, Some, None, Bool, true, false, cond, List, [], ◌∷◌, length}
use Rattle.std.specs.Prelude.{◌==◌, ◌&&◌, nat_lt, nat_le, is_some}
use Rattle.std.specs.List.{All}
use Rattle.std.proofs.lemmas.Bool.{cases_eq}
use Rattle.std.proofs.lemmas.Bool.Decides.{nat_tests}
use Rattle.rv64_decode.specs.declared.instr.AluOp.{AluOp}
use Rattle.rv64_decode.specs.declared.instr.AluOp.TheVariants.{Add, Sub, Addw, Subw, Mul, Mulw}
use Rattle.rv64_decode.specs.declared.instr.ImmOp.{ImmOp}
use Rattle.rv64_decode.specs.declared.instr.ImmOp.TheVariants.{Addi, Slli, Addiw, Slliw}
use Rattle.rv64_decode.specs.declared.instr.UpperOp.{UpperOp}
use Rattle.rv64_decode.specs.declared.instr.UpperOp.TheVariants.{Lui, Auipc}
use Rattle.rv64_decode.specs.declared.instr.StoreOp.{StoreOp}
use Rattle.rv64_decode.specs.declared.instr.StoreOp.TheVariants.{Sw}
use Rattle.rv64_decode.specs.declared.instr.Instr.{Instr}
use Rattle.rv64_decode.specs.declared.instr.Instr.TheVariants.{Alu, AluImm, Upper, Load, Store}
use Rattle.linear_forms.specs.Forms.{EntryTerm, LinearForm, is_zero, unless_zero, with_term, merged, scaled_terms, is_limited, limited, multiple, pure, moving}
use Rattle.loop_data.specs.declared.shape.Level.{Level}
use Rattle.loop_data.specs.declared.verdict.Cell.{Cell}
use Rattle.loop_data.specs.Locations.{cell_at}
use Rattle.loop_data.specs.Nests.{Nest, In, Holds, IsNest}
use Rattle.loop_data.specs.Independent.{Role, Keeps, Moves, Private}
use Rattle.loop_data.specs.LoopCode.{LoopCode, writes, is_location, IsForwardIn}
use Rattle.loop_data.specs.FormRows.{form_read, form_sum, form_difference, form_multiple, form_shifted, form_product, form_limited, form_short, form_owed, is_pure, is_factor, alu_form, imm_form, upper_form, cell_form, register_form, store_form, stored_form, written_form, form_after, alu_duty, imm_duty, store_duty, duty_by, duty_from, duty}
use Rattle.loop_data.specs.Facts.{signed_of, short_of}
use Rattle.loop_data.specs.Equations.{entry_form, with_step, header_form, Meets, HeadsNone, AreForms}

-- the locations of the terms have lower numbers
abbrev pub are_over : ℕ → List EntryTerm → Bool
are_over n [] = true
are_over n (t ∷ ts) = nat_lt t.loc n && are_over n ts

-- a form, if there is one, has such terms
abbrev pub Over : ℕ → Option LinearForm → Type 0
Over n None = Unit {0}
Over n (Some f) = are_over n f.terms ≡ true

and_both : (t u : Bool) → t ≡ true → u ≡ true → (t && u) ≡ true
and_both t u h k = rw (h, k) refl

first_of : (t u : Bool) → (t && u) ≡ true → t ≡ true
first_of true u h = refl
first_of false u h = h

second_of : (t u : Bool) → (t && u) ≡ true → u ≡ true
second_of true u h = h
second_of false u h = absurd (cc)

either : (n : ℕ) (t : Bool) (o p : Option LinearForm) → Over n o → Over n p → Over n (cond t o p)
either n true o p h k = h
either n false o p h k = k

unless_over : (n : ℕ) (t : EntryTerm) (ts : List EntryTerm) → nat_lt t.loc n ≡ true → are_over n ts ≡ true → are_over n (unless_zero t ts)
    ≡ true
unless_over n t ts h k = by_test (is_zero t.by)
  where
    by_test : (b : Bool) → are_over n (cond b ts (t ∷ ts)) ≡ true
    by_test true = k
    by_test false = and_both (nat_lt t.loc n) (are_over n ts) h k

with_over : (n : ℕ) (t : EntryTerm) (us : List EntryTerm) → nat_lt t.loc n ≡ true → are_over n us ≡ true → are_over n (with_term t us) ≡
    true
with_over n t [] h k = unless_over n t [] h refl
with_over n t (u ∷ us) h k = by_tests (with_over n t us h (second_of (nat_lt u.loc n) (are_over n us) k)) (nat_lt t.loc u.loc)
    (t.loc == u.loc)
  where
    by_tests : are_over n (with_term t us) ≡ true → (a b : Bool)
        → are_over n (cond a (unless_zero t (u ∷ us))
        (cond b (unless_zero (record { loc = t.loc; by = t.by +ℤ u.by }) us) (u ∷ with_term t us))) ≡ true
    by_tests later true b = unless_over n t (u ∷ us) h k
    by_tests later false true = unless_over n (record { loc = t.loc; by = t.by +ℤ u.by }) us h
        (second_of (nat_lt u.loc n) (are_over n us) k)
    by_tests later false false = and_both (nat_lt u.loc n) (are_over n (with_term t us)) (first_of (nat_lt u.loc n) (are_over n us) k)
        later

merged_over : (n : ℕ) (ts us : List EntryTerm) → are_over n ts ≡ true → are_over n us ≡ true → are_over n (merged ts us) ≡ true
merged_over n [] us h k = k
merged_over n (t ∷ ts) us h k = with_over n t (merged ts us) (first_of (nat_lt t.loc n) (are_over n ts) h)
    (merged_over n ts us (second_of (nat_lt t.loc n) (are_over n ts) h) k)

scaled_over : (n : ℕ) (by : ℤ) (ts : List EntryTerm) → are_over n ts ≡ true → are_over n (scaled_terms by ts) ≡ true
scaled_over n by [] h = refl
scaled_over n by (t ∷ ts) h = unless_over n (record { loc = t.loc; by = by *ℤ t.by }) (scaled_terms by ts)
    (first_of (nat_lt t.loc n) (are_over n ts) h) (scaled_over n by ts (second_of (nat_lt t.loc n) (are_over n ts) h))

module _ (n : ℕ) where
  pub limited_over : (f : LinearForm) → are_over n f.terms ≡ true → Over n (limited f)
  limited_over f h = either n (is_limited f) (Some f) None h tt

  pub read_over : (F : ℕ → Option LinearForm) (r : ℕ) → ((q : ℕ) → Over n (F q)) → Over n (form_read F r)
  read_over F r h = either n (r == 0) (Some (pure (pos 0))) (F r) refl (h r)

  pub sum_over : (o p : Option LinearForm) → Over n o → Over n p → Over n (form_sum o p)
  sum_over (Some f) (Some g) h k = merged_over n f.terms g.terms h k
  sum_over (Some f) None h k = tt
  sum_over None p h k = tt

  pub difference_over : (o p : Option LinearForm) → Over n o → Over n p → Over n (form_difference o p)
  difference_over (Some f) (Some g) h k = merged_over n f.terms (scaled_terms (negsuc 0) g.terms) h (scaled_over n (negsuc 0) g.terms k)
  difference_over (Some f) None h k = tt
  difference_over None p h k = tt

  multiple_over : (by : ℤ) (o : Option LinearForm) → Over n o → Over n (form_multiple by o)
  multiple_over by (Some f) h = scaled_over n by f.terms h
  multiple_over by None h = tt

  shifted_over : (o : Option LinearForm) (z : ℤ) → Over n o → Over n (form_shifted o z)
  shifted_over o (pos k) h = either n (nat_le k 30) (form_multiple (pos (2 ^ k)) o) None (multiple_over (pos (2 ^ k)) o h) tt
  shifted_over o (negsuc k) h = tt

  product_over : (o p : Option LinearForm) → Over n o → Over n p → Over n (form_product o p)
  product_over (Some f) (Some g) h k =
      either n (is_factor g) (Some (multiple g.constant f)) (cond (is_factor f) (Some (multiple f.constant g)) None)
      (scaled_over n g.constant f.terms h)
      (either n (is_factor f) (Some (multiple f.constant g)) None (scaled_over n f.constant g.terms k) tt)
  product_over (Some f) None h k = tt
  product_over None p h k = tt

  pub kept_over : (o : Option LinearForm) → Over n o → Over n (form_limited o)
  kept_over (Some f) h = limited_over f h
  kept_over None h = tt

  short_over : (o : Option LinearForm) → Over n o → Over n (form_short o)
  short_over (Some f) h = either n (is_pure f) (Some (pure (short_of f.constant))) (limited f) refl (limited_over f h)
  short_over None h = tt

  owed_over : (o : Option LinearForm) → Over n o → Over n (form_owed o)
  owed_over (Some f) h = either n (is_pure f) None (limited f) tt (limited_over f h)
  owed_over None h = tt

  alu_over : (op : AluOp) (o p : Option LinearForm) → Over n o → Over n p → Over n (alu_form op o p)
  alu_over Add o p h k = kept_over (form_sum o p) (sum_over o p h k)
  alu_over Sub o p h k = kept_over (form_difference o p) (difference_over o p h k)
  alu_over Mul o p h k = kept_over (form_product o p) (product_over o p h k)
  alu_over Addw o p h k = short_over (form_sum o p) (sum_over o p h k)
  alu_over Subw o p h k = short_over (form_difference o p) (difference_over o p h k)
  alu_over Mulw o p h k = short_over (form_product o p) (product_over o p h k)
  alu_over op o p h k = tt

  imm_over : (op : ImmOp) (o : Option LinearForm) (z : ℤ) → Over n o → Over n (imm_form op o z)
  imm_over Addi o z h = kept_over (form_sum o (Some (pure z))) (sum_over o (Some (pure z)) h refl)
  imm_over Slli o z h = kept_over (form_shifted o z) (shifted_over o z h)
  imm_over Addiw o z h = short_over (form_sum o (Some (pure z))) (sum_over o (Some (pure z)) h refl)
  imm_over Slliw o z h = short_over (form_shifted o z) (shifted_over o z h)
  imm_over op o z h = tt

  upper_over : (op : UpperOp) (u : ℕ) (z : ℤ) → Over n (upper_form op u z)
  upper_over Lui u z = limited_over (pure z) refl
  upper_over Auipc u z = limited_over (pure (signed_of (pos u +ℤ z))) refl

  cell_over : (cell : Option ℕ) (F : ℕ → Option LinearForm) → ((q : ℕ) → Over n (F q)) → Over n (cell_form cell F)
  cell_over (Some k) F h = h (32 + k)
  cell_over None F h = tt

  register_over : (u : ℕ) (i : Instr) (cell : Option ℕ) (F : ℕ → Option LinearForm) → ((q : ℕ) → Over n (F q)) → Over n
      (register_form u i cell F)
  register_over u (Alu op rd rs1 rs2) cell F h = alu_over op (form_read F rs1) (form_read F rs2) (read_over F rs1 h) (read_over F rs2 h)
  register_over u (AluImm op rd rs1 imm) cell F h = imm_over op (form_read F rs1) imm (read_over F rs1 h)
  register_over u (Upper op rd imm) cell F h = upper_over op u imm
  register_over u (Load op rd rs1 imm) cell F h = cell_over cell F h
  register_over u i cell F h = tt

  store_over : (op : StoreOp) (o : Option LinearForm) → Over n o → Over n (store_form op o)
  store_over Sw o h = short_over o h
  store_over op o h = h

  stored_over : (i : Instr) (F : ℕ → Option LinearForm) → ((q : ℕ) → Over n (F q)) → Over n (stored_form i F)
  stored_over (Store op rs1 rs2 imm) F h = store_over op (form_read F rs2) (read_over F rs2 h)
  stored_over i F h = tt

  written_over : (u : ℕ) (o : Option Instr) (cell : Option ℕ) (r : ℕ) (F : ℕ → Option LinearForm) → ((q : ℕ) → Over n (F q)) → Over n
      (written_form u o cell r F)
  written_over u None cell r F h = tt
  written_over u (Some i) cell r F h = either n (nat_lt r 32) (register_form u i cell F) (stored_form i F) (register_over u i cell F h)
      (stored_over i F h)

  after_over : (B : LoopCode) (u : ℕ) (F : ℕ → Option LinearForm) (r : ℕ) → ((q : ℕ) → Over n (F q)) → Over n (form_after B u F r)
  after_over B u F r h = either n (writes B u r) (written_form u (B.instr u) (B.cells.uses u) r F) (F r)
      (written_over u (B.instr u) (B.cells.uses u) r F h) (h r)

  -- duties
  alu_owes : (op : AluOp) (o p : Option LinearForm) → Over n o → Over n p → Over n (alu_duty op o p)
  alu_owes Addw o p h k = owed_over (form_sum o p) (sum_over o p h k)
  alu_owes Subw o p h k = owed_over (form_difference o p) (difference_over o p h k)
  alu_owes Mulw o p h k = owed_over (form_product o p) (product_over o p h k)
  alu_owes op o p h k = tt

  imm_owes : (op : ImmOp) (o : Option LinearForm) (z : ℤ) → Over n o → Over n (imm_duty op o z)
  imm_owes Addiw o z h = owed_over (form_sum o (Some (pure z))) (sum_over o (Some (pure z)) h refl)
  imm_owes Slliw o z h = owed_over (form_shifted o z) (shifted_over o z h)
  imm_owes op o z h = tt

  store_owes : (op : StoreOp) (o : Option LinearForm) → Over n o → Over n (store_duty op o)
  store_owes Sw o h = owed_over o h
  store_owes op o h = tt

  duty_owes : (i : Instr) (cell : Option ℕ) (F : ℕ → Option LinearForm) → ((q : ℕ) → Over n (F q)) → Over n (duty_by i cell F)
  duty_owes (Alu op rd rs1 rs2) cell F h = either n (rd == 0) None (alu_duty op (form_read F rs1) (form_read F rs2)) tt
      (alu_owes op (form_read F rs1) (form_read F rs2) (read_over F rs1 h) (read_over F rs2 h))
  duty_owes (AluImm op rd rs1 imm) cell F h = either n (rd == 0) None (imm_duty op (form_read F rs1) imm) tt
      (imm_owes op (form_read F rs1) imm (read_over F rs1 h))
  duty_owes (Store op rs1 rs2 imm) (Some k) F h = store_owes op (form_read F rs2) (read_over F rs2 h)
  duty_owes (Store op rs1 rs2 imm) None F h = tt
  duty_owes i cell F h = tt

  from_owes : (o : Option Instr) (cell : Option ℕ) (F : ℕ → Option LinearForm) → ((q : ℕ) → Over n (F q)) → Over n (duty_from o cell F)
  from_owes None cell F h = tt
  from_owes (Some i) cell F h = duty_owes i cell F h

  pub duty_over : (B : LoopCode) (u : ℕ) (F : ℕ → Option LinearForm) → ((q : ℕ) → Over n (F q)) → Over n (duty B u F)
  duty_over B u F h = from_owes (B.instr u) (B.cells.uses u) F h

  step_over : (f : LinearForm) (depth : ℕ) (z : ℤ) → are_over n f.terms ≡ true → are_over n (with_step f depth z).terms ≡ true
  step_over f zero z h = h
  step_over f (suc zero) z h = h
  step_over f (suc (suc zero)) z h = h
  step_over f (suc (suc (suc k))) z h = h

  header_over : (depth : ℕ) (role : Role) (o : Option LinearForm) → Over n o → Over n (header_form depth role o)
  header_over depth Keeps o h = h
  header_over depth (Moves z) (Some f) h = step_over f depth z h
  header_over depth (Moves z) None h = tt
  header_over depth Private o h = tt

  -- what meets has such terms, since otherwise no edge leads there, and any form meets
  met_over : (P : LinearForm → Type 0) (o : Option LinearForm) → ((f : LinearForm) → (o ≡ Some f) ↔ P f) →
      ((f : LinearForm) → are_over n f.terms ≡ false → P f → P (pure (pos 0))) → Over n o
  met_over P None h k = tt
  met_over P (Some f) h k = by_test (are_over n f.terms) refl
    where
      by_test : (t : Bool) → are_over n f.terms ≡ t → are_over n f.terms ≡ true
      by_test true e = e
      by_test false e =
          let q : Some f ≡ Some (pure (pos 0)) = (h (pure (pos 0))).1 (k f e ((h f).0 refl)) in
          let r : f ≡ pure (pos 0) = cc in
          ap (λ (g : LinearForm). are_over n g.terms) r

-- the inner loop with this header, if there is one
inner_loop : (is : List Level) (v : ℕ) → ((l : Level) × In is l × (v ≡ l.header)) ⊎ ((l : Level) → In is l → v ≢ l.header)
inner_loop [] v = inr (λ l i. absurd i)
inner_loop (x ∷ xs) v = go (cases_eq v x.header) (inner_loop xs v)
  where
    go : (v ≡ x.header) ⊎ (v ≢ x.header) → ((l : Level) × In xs l × (v ≡ l.header)) ⊎ ((l : Level) → In xs l → v ≢ l.header) →
        ((l : Level) × In (x ∷ xs) l × (v ≡ l.header)) ⊎ ((l : Level) → In (x ∷ xs) l → v ≢ l.header)
    go (inl e) later = inl (x, inl refl, e)
    go (inr ne) (inl a) = inl (a.0, inr a.1, a.2)
    go (inr ne) (inr g) = inr none
      where
        none : (l : Level) → (x ≡ l) ⊎ In xs l → v ≢ l.header
        none l (inl e) q = ne (q ∙ sym (ap (λ (z : Level). z.header) e))
        none l (inr i) q = g l i q

-- entry values
entry_over : (B : LoopCode) (r : ℕ) → Over (32 + length B.cells.cells) (entry_form B r)
entry_over B r = either m (r == 0) (Some (pure (pos 0))) (cond (is_location B r) (Some (moving r (pos 0))) None) refl
    (by_test (is_location B r) refl)
  where
    m : ℕ
    m = 32 + length B.cells.cells

    within : (cs : List Cell) (k : ℕ) → is_some (cell_at cs k) ≡ true → k < length cs
    within [] k e = absurd (cc)
    within (c ∷ cs) zero e = omega arith
    within (c ∷ cs) (suc k) e = let h = within cs k e in omega (arith, h)

    lower : (a b : Bool) → (r == 0) ≡ a → nat_lt r 32 ≡ b → cond a false (cond b true (is_some (cell_at B.cells.cells (r - 32)))) ≡ true →
        nat_lt r m ≡ true
    lower true b p q e = absurd (cc)
    lower false true p q e = grind (arith, nat_tests)
    lower false false p q e = let h = within B.cells.cells (r - 32) e in grind (arith, nat_tests)

    by_test : (t : Bool) → is_location B r ≡ t → Over m (cond t (Some (moving r (pos 0))) None)
    by_test true e = and_both (nat_lt r m) true (lower (r == 0) (nat_lt r 32) refl refl e) refl
    by_test false e = tt

-- the forms at each word of the nest
module _ (N : Nest) (B : LoopCode) (roles : Level → ℕ → Role) (at : ℕ → ℕ → Option LinearForm) (nest : IsNest N)
    (forms : AreForms N B roles at) where
  abbrev pub m : ℕ
  m = 32 + length B.cells.cells

  abbrev pub rank : ℕ → ℕ
  rank = nest.shapes.ranked.rank

  meets_any : (v r : ℕ) (f : LinearForm) → ((u : ℕ) → IsForwardIn N N.root.body u v → (q : ℕ) → Over m (at u q)) → are_over m f.terms ≡
      false → Meets N B at v r f → Meets N B at v r (pure (pos 0))
  meets_any v r f below e meets u w =
      let x = meets u w in
      let k : Over m (Some f) = subst (Over m) x.after (after_over m B u (at u) r (below u w)) in
      absurd (both_ways (are_over m f.terms) k e)
    where
      both_ways : (t : Bool) → t ≡ true → t ≡ false → ⊥
      both_ways t a b = cc

  by_rank : (k v : ℕ) → rank v < k → Holds N.root v → (r : ℕ) → Over m (at v r)
  by_rank zero v lt h r = absurd (omega (arith, lt))
  by_rank (suc k) v lt h r =
      by (λ u w q. by_rank k u (let g : rank u < rank v = nest.shapes.ranked.is.up u v w.edge w.closes in omega (arith, g, lt))
      w.edge.from q) (cases_eq v N.root.header) (inner_loop N.inner v)
    where
      by : ((u : ℕ) → IsForwardIn N N.root.body u v → (q : ℕ) → Over m (at u q)) → (v ≡ N.root.header) ⊎ (v ≢ N.root.header) →
          ((l : Level) × In N.inner l × (v ≡ l.header)) ⊎ ((l : Level) → In N.inner l → v ≢ l.header) → Over m (at v r)
      by below (inl e) s =
          subst (λ z. Over m (at z r)) (sym e) (subst (Over m) (sym (forms.root r))
          (header_over m 0 (roles N.root r) (entry_form B r) (entry_over B r)))
      by below (inr ne) (inl s) =
          let l = s.0 in
          let there : (u : ℕ) → IsForwardIn N N.root.body u l.header → (q : ℕ) → Over m (at u q) = subst
          (λ z. (u : ℕ) → IsForwardIn N N.root.body u z → (q : ℕ) → Over m (at u q)) s.2 below in
          subst (λ z. Over m (at z r)) (sym s.2) (subst (Over m) (sym (forms.inner l s.1 r))
          (header_over m l.depth (roles l r) (forms.outside l r)
          (met_over m (Meets N B at l.header r) (forms.outside l r) (λ f. forms.entering l s.1 r f)
          (λ f e x. meets_any l.header r f there e x))))
      by below (inr ne) (inr none) = met_over m (Meets N B at v r) (at v r) (λ f. forms.met v r f h (heads_none ne none))
          (λ f e x. meets_any v r f below e x)
        where
          heads_none : v ≢ N.root.header → ((l : Level) → In N.inner l → v ≢ l.header) → HeadsNone N v
          heads_none ne none l (inl e) q = ne (q ∙ sym (ap (λ (z : Level). z.header) e))
          heads_none ne none l (inr i) q = none l i q

  pub forms_over : (v : ℕ) → Holds N.root v → (r : ℕ) → Over m (at v r)
  forms_over v h r = by_rank (suc (rank v)) v (omega arith) h r

-- as a property of each term
pub each_over : (n : ℕ) (ts : List EntryTerm) → are_over n ts ≡ true → All (λ (t : EntryTerm). t.loc < n) ts
each_over n [] h k d l = absurd (omega (arith, l))
each_over n (t ∷ ts) h zero d l = let e = first_of (nat_lt t.loc n) (are_over n ts) h in grind (arith, nat_tests)
each_over n (t ∷ ts) h (suc k) d l = each_over n ts (second_of (nat_lt t.loc n) (are_over n ts) h) k d (omega (arith, l))

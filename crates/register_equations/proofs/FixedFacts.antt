-- What the pass that knows no cells tells over registers that the root does not write, the equations say too.
use Rattle.std.proofs.Common.{◌≡◌, ◌≢◌, ℕ, zero, suc, ◌<◌, ◌≤◌, ◌⊎◌, inl, inr, ◌==◌, true, false, if◌then◌else◌, nat_lt, Option, Some, None, refl, ap, sym, ◌∙◌, subst, arith, pos}
use Rattle.std.proofs.lemmas.Bool.{cases_eq, cases_lt}
use Rattle.std.proofs.lemmas.Bool.Decides.{nat_tests}
use Rattle.rv64_decode.specs.declared.instr.Instr.{Instr}
use Rattle.linear_forms.specs.Forms.{LinearForm, stride, pure, moving}
use Rattle.loop_data.specs.declared.shape.Level.{Level}
use Rattle.loop_data.specs.Nests.{Nest, has, In, levels, Among, Holds, Edge, IsNest}
use Rattle.loop_data.specs.Locations.{CellMap, first_cell, no_cells, writes_register, writes_cell, instr_writes}
use Rattle.loop_data.specs.LoopCode.{LoopCode, writes, IsUnwritten, IsForwardIn, LiesIn}
use Rattle.loop_data.specs.Independent.{Role, Keeps}
use Rattle.loop_data.specs.Facts.{Fact, Number, Offset, fact_after}
use Rattle.loop_data.specs.FactPass.{AreFacts}
use Rattle.loop_data.specs.Equations.{entry_form, header_form, Arrives, AreForms}
use Rattle.loop_data.specs.FoundCells.{IsFixed}
use Rattle.loop_data.proofs.Tests.{is_ne, yes_no}
use Rattle.loop_data.proofs.NestVisits.{header_or}
use Rattle.loop_data.proofs.FactForms.{fact_form, IsOver, Agree, agree_past}
use Rattle.loop_data.proofs.FactWalks.{ArePassed, passing_of, are_passed}

low : (r : ℕ) → r < 32 → nat_lt r first_cell ≡ true
low r l = grind (arith, nat_tests)

high : (r : ℕ) → 32 ≤ r → nat_lt r first_cell ≡ false
high r l = grind (arith, nat_tests)

-- a register is written, or not, whatever the cells
register_writes : (i : Option Instr) (c d : Option ℕ) (r : ℕ) → r < 32 → instr_writes i c r ≡ instr_writes i d r
register_writes None c d r l = refl
register_writes (Some i) c d r l = ap (λ b. if b then writes_register i r else writes_cell i c r) (low r l) ∙ sym (ap (λ b. if b then writes_register i r else writes_cell i d r) (low r l))

never_zero : (i : Option Instr) (c : Option ℕ) → instr_writes i c 0 ≡ false
never_zero None c = refl
never_zero (Some i) c = refl

no_stride : (x : Fact) (k : ℕ) → stride (fact_form x) k ≡ pos 0
no_stride (Number z) zero = refl
no_stride (Number z) (suc zero) = refl
no_stride (Number z) (suc (suc zero)) = refl
no_stride (Number z) (suc (suc (suc k))) = refl
no_stride (Offset q z) zero = refl
no_stride (Offset q z) (suc zero) = refl
no_stride (Offset q z) (suc (suc zero)) = refl
no_stride (Offset q z) (suc (suc (suc k))) = refl

module _ (N : Nest) (nest : IsNest N) (instrs : ℕ → Option Instr) (C : CellMap) (V : ℕ → ℕ → Option Fact) (roles : Level → ℕ → Role) (at : ℕ → ℕ → Option LinearForm)
    (facts : AreFacts N (record { instr = instrs; cells = no_cells }) N.root V) (forms : AreForms N (record { instr = instrs; cells = C }) roles at)
    (keeps : (l : Level) → Among N l → (r : ℕ) → IsUnwritten (record { instr = instrs; cells = C }) l r → roles l r ≡ Keeps) where
  abbrev B : LoopCode
  B = record { instr = instrs; cells = C }

  abbrev D : LoopCode
  D = record { instr = instrs; cells = no_cells }

  abbrev P : ℕ → Type 0
  P q = IsFixed N B q

  -- what is claimed of a word
  record Seen (v : ℕ) : Type 0 where
    pub low : (r : ℕ) → r < 32 → Agree P (V v r) (at v r)
    pub high : (r : ℕ) → 32 ≤ r → V v r ≡ None

  all_of : (v : ℕ) → Seen v → (q : ℕ) → Agree P (V v q) (at v q)
  all_of v seen q = by (cases_lt q 32)
    where
      by : (q < 32) ⊎ (32 ≤ q) → Agree P (V v q) (at v q)
      by (inl l) = seen.low q l
      by (inr l) = λ x o e. let z = sym (seen.high q l) ∙ e in absurd (cc)

  unwritten_zero : (l : Level) → IsUnwritten B l 0
  unwritten_zero l u h = never_zero (instrs u) (C.uses u)

  at_header : Seen N.root.header
  at_header = record { low = below; high = beyond }
    where
      beyond : (r : ℕ) → 32 ≤ r → V N.root.header r ≡ None
      beyond r l = let a : (r == 0) ≡ false = is_ne r 0 (λ e. omega arith) in let b = high r l in facts.header r ∙ rw a (rw b refl)

      kept : (r : ℕ) (f : LinearForm) → IsUnwritten B N.root r → entry_form B r ≡ Some f → at N.root.header r ≡ Some f
      kept r f un e = forms.root r ∙ ap (λ k. header_form 0 k (entry_form B r)) (keeps N.root (inl refl) r un) ∙ e

      below : (r : ℕ) → r < 32 → Agree P (V N.root.header r) (at N.root.header r)
      below r l x o e = by (cases_eq r 0)
        where
          by : (r ≡ 0) ⊎ (r ≢ 0) → at N.root.header r ≡ Some (fact_form x)
          by (inl z) =
              let q : Some (Number (pos 0)) ≡ Some x = sym (facts.header 0) ∙ ap (λ n. V N.root.header n) (sym z) ∙ e in
              let y : Number (pos 0) ≡ x = cc in
              ap (λ n. at N.root.header n) z ∙ kept 0 (pure (pos 0)) (unwritten_zero N.root) refl ∙ ap (λ w. Some (fact_form w)) y
          by (inr ne) =
              let a = is_ne r 0 ne in
              let b = low r l in
              let h : Rattle.loop_data.specs.FactPass.header_fact D r ≡ Some (Offset r (pos 0)) = rw a (rw b refl) in
              let q : Some (Offset r (pos 0)) ≡ Some x = sym h ∙ sym (facts.header r) ∙ e in
              let y : Offset r (pos 0) ≡ x = cc in
              let f : entry_form B r ≡ Some (moving r (pos 0)) = rw a (rw b refl) in
              let w : IsOver P (Offset r (pos 0)) = subst (IsOver P) (sym y) o in
              kept r (moving r (pos 0)) w.1 f ∙ ap (λ w. Some (fact_form w)) y

  passed : ArePassed N N.root (passing_of D) V
  passed = are_passed N D N.root V nest (inl refl) facts

  -- what stands after a word
  arrives : (u v r : ℕ) (x : Fact) → Seen u → r < 32 → IsOver P x → fact_after D u (V u) r ≡ Some x → Arrives N B at u v r (fact_form x)
  arrives u v r x seen l o e =
      record {
        after = agree_past P u (instrs u) None (C.uses u) (V u) (at u) tt (all_of u seen) r (register_writes (instrs u) None (C.uses u) r l) x o e;
        carries = λ m i h g. no_stride x m.depth;
      }

  elsewhere : (v : ℕ) → Holds N.root v → v ≢ N.root.header → ((u : ℕ) → IsForwardIn N N.root.body u v → Seen u) → Seen v
  elsewhere v h ne before = record { low = below; high = beyond }
    where
      lies : (m : Level) → Among N m → v ≡ m.header → LiesIn N N.root m
      lies m i e = record { among = i; header = subst (λ u. has N.root.body u ≡ true) e h; other = λ q. ne (e ∙ ap (λ (z : Level). z.header) q) }

      inner_of : (m : Level) → Among N m → v ≡ m.header → In N.inner m
      inner_of m (inl q) e = absurd (ne (e ∙ ap (λ (z : Level). z.header) (sym q)))
      inner_of m (inr i) e = i

      edge_to : (u : ℕ) → IsForwardIn N N.root.body u v → Edge N N.root.body u v
      edge_to u f = f.edge

      -- along each edge that closes no loop
      after_all : (r : ℕ) (x : Fact) → V v r ≡ Some x → (u : ℕ) → IsForwardIn N N.root.body u v → fact_after D u (V u) r ≡ Some x
      after_all r x e u f = by (header_or (levels N) v)
        where
          by : ((m : Level) × In (levels N) m × (v ≡ m.header)) ⊎ ((m : Level) → In (levels N) m → v ≢ m.header) → fact_after D u (V u) r ≡ Some x
          by (inl m) =
              let out : has (m.0).body u ≡ false = Rattle.loop_data.proofs.Tests.not_true (has (m.0).body u) (λ hu. f.closes m.0 m.1 hu m.2) in
              (passed.inner m.0 (lies m.0 m.1 m.2) r x (subst (λ y. V y r ≡ Some x) m.2 e)).1 u (subst (Edge N N.root.body u) m.2 f.edge) out
          by (inr none) = passed.met v r x h none e u f.edge

      below : (r : ℕ) → r < 32 → Agree P (V v r) (at v r)
      below r l x o e = by (header_or (levels N) v)
        where
          each : (u : ℕ) → IsForwardIn N N.root.body u v → Arrives N B at u v r (fact_form x)
          each u f = arrives u v r x (before u f) l o (after_all r x e u f)

          by : ((m : Level) × In (levels N) m × (v ≡ m.header)) ⊎ ((m : Level) → In (levels N) m → v ≢ m.header) → at v r ≡ Some (fact_form x)
          by (inr none) = (forms.met v r (fact_form x) h none).1 each
          by (inl m) =
              let i = inner_of m.0 m.1 m.2 in
              let un : IsUnwritten B m.0 r = λ u hu. sym (register_writes (instrs u) None (C.uses u) r l) ∙ (passed.inner m.0 (lies m.0 m.1 m.2) r x (subst (λ y. V y r ≡ Some x) m.2 e)).0 u hu in
              let outside = (forms.entering m.0 i r (fact_form x)).1 (λ u f. subst (λ y. Arrives N B at u y r (fact_form x)) m.2 (each u (subst (IsForwardIn N N.root.body u) (sym m.2) f))) in
              ap (λ y. at y r) m.2 ∙ forms.inner m.0 i r ∙ ap (λ k. header_form (m.0).depth k (forms.outside m.0 r)) (keeps m.0 m.1 r un) ∙ outside

      entered : (u : ℕ) × IsForwardIn N N.root.body u v
      entered = let e = nest.shapes.entered v h ne in (e.from, record { edge = e.edge; closes = λ m i hu q. yes_no _ hu (e.outside m i q) })

      beyond : (r : ℕ) → 32 ≤ r → V v r ≡ None
      beyond r l = by (V v r) refl
        where
          by : (o : Option Fact) → V v r ≡ o → o ≡ None
          by None e = refl
          by (Some x) e =
              let a = after_all r x e entered.0 entered.1 in
              let w : writes D entered.0 r ≡ false = unwritten (instrs entered.0) in
              let k = sym (ap (λ b. if b then Rattle.loop_data.specs.Facts.written_fact entered.0 (instrs entered.0) None r (V entered.0) else V entered.0 r) w) ∙ a in
              let z = sym ((before entered.0 entered.1).high r l) ∙ k in
              absurd (cc)
            where
              unwritten : (i : Option Instr) → instr_writes i None r ≡ false
              unwritten None = refl
              unwritten (Some i) = ap (λ b. if b then writes_register i r else writes_cell i None r) (high r l) ∙ none i
                where
                  none : (i : Instr) → writes_cell i None r ≡ false
                  none (Rattle.rv64_decode.specs.declared.instr.Instr.TheVariants.Store op rs1 rs2 imm) = refl
                  none _ = refl

  seen_below : (n v : ℕ) → nest.shapes.ranked.rank v < n → Holds N.root v → Seen v
  seen_below zero v lt h = absurd (omega arith)
  seen_below (suc n) v lt h = by (cases_eq v N.root.header) (λ u f. seen_below n u (let k = nest.shapes.ranked.is.up u v f.edge f.closes in omega arith) f.edge.from)
    where
      by : (v ≡ N.root.header) ⊎ (v ≢ N.root.header) → ((u : ℕ) → IsForwardIn N N.root.body u v → Seen u) → Seen v
      by (inl e) before = subst Seen (sym e) at_header
      by (inr ne) before = elsewhere v h ne before

  -- a fact over such registers is the form there
  pub fixed_facts : (v : ℕ) → Holds N.root v → (r : ℕ) → Agree P (V v r) (at v r)
  fixed_facts v h = all_of v (seen_below (suc (nest.shapes.ranked.rank v)) v (omega arith) h)

-- Two solutions of the equations of a nest agree, word by word in the order along its edges.
use Rattle.std.proofs.Common.{◌≡◌, ◌≢◌, ℕ, zero, suc, ◌<◌, ◌⊎◌, inl, inr, List, [], ◌∷◌, Option, Some, None, refl, ap, sym, ◌∙◌, subst, arith}
use Rattle.std.proofs.lemmas.Bool.{cases_eq}
use mathlib.Core.Path.{fun_ext}
use Rattle.linear_forms.specs.Forms.{LinearForm}
use Rattle.loop_data.specs.declared.shape.Level.{Level}
use Rattle.loop_data.specs.Nests.{Nest, In, Holds, IsNest}
use Rattle.loop_data.specs.Independent.{Role}
use Rattle.loop_data.specs.LoopCode.{LoopCode, IsForwardIn}
use Rattle.loop_data.specs.FormRows.{form_after}
use Rattle.loop_data.specs.Equations.{header_form, Meets, HeadsNone, AreForms}
use Rattle.register_equations.specs.OneSolution.{OneSolutionLaw}

same_option : (o p : Option LinearForm) → ((f : LinearForm) → o ≡ Some f → p ≡ Some f) → ((f : LinearForm) → p ≡ Some f → o ≡ Some f) → o ≡ p
same_option None None a b = refl
same_option None (Some g) a b = b g refl
same_option (Some f) p a b = sym (a f refl)

-- the inner loop with this header, if there is one
pub inner_loop : (is : List Level) (v : ℕ) → ((l : Level) × In is l × (v ≡ l.header)) ⊎ ((l : Level) → In is l → v ≢ l.header)
inner_loop [] v = inr (λ l i. absurd i)
inner_loop (x ∷ xs) v = go (cases_eq v x.header) (inner_loop xs v)
  where
    go : (v ≡ x.header) ⊎ (v ≢ x.header) → ((l : Level) × In xs l × (v ≡ l.header)) ⊎ ((l : Level) → In xs l → v ≢ l.header) → ((l : Level) × In (x ∷ xs) l × (v ≡ l.header)) ⊎ ((l : Level) → In (x ∷ xs) l → v ≢ l.header)
    go (inl e) later = inl (x, inl refl, e)
    go (inr ne) (inl a) = inl (a.0, inr a.1, a.2)
    go (inr ne) (inr g) = inr none
      where
        none : (l : Level) → (x ≡ l) ⊎ In xs l → v ≢ l.header
        none l (inl e) q = ne (q ∙ sym (ap (λ (z : Level). z.header) e))
        none l (inr i) q = g l i q

module _ (N : Nest) (B : LoopCode) (roles : Level → ℕ → Role) (nest : IsNest N) where
  abbrev rank : ℕ → ℕ
  rank = nest.shapes.ranked.rank

  -- what meets at a word is the same where the forms at its sources are
  meets_too : (a b : ℕ → ℕ → Option LinearForm) (v r : ℕ) (f : LinearForm) → ((u : ℕ) → IsForwardIn N N.root.body u v → (q : ℕ) → a u q ≡ b u q) → Meets N B a v r f → Meets N B b v r f
  meets_too a b v r f same m u w =
      let x = m u w in
      let e : a u ≡ b u = fun_ext (same u w) in
      record { after = ap (λ (H : ℕ → Option LinearForm). form_after B u H r) (sym e) ∙ x.after; carries = x.carries }

  agree : (a b : ℕ → ℕ → Option LinearForm) → AreForms N B roles a → AreForms N B roles b → (m v : ℕ) → rank v < m → Holds N.root v → (r : ℕ) → a v r ≡ b v r
  agree a b fa fb zero v lt h r = absurd (omega arith)
  agree a b fa fb (suc m) v lt h r = by (λ u w q. agree a b fa fb m u (let k : rank u < rank v = nest.shapes.ranked.is.up u v w.edge w.closes in omega arith) w.edge.from q) (cases_eq v N.root.header) (inner_loop N.inner v)
    where
      by : ((u : ℕ) → IsForwardIn N N.root.body u v → (q : ℕ) → a u q ≡ b u q) → (v ≡ N.root.header) ⊎ (v ≢ N.root.header) → ((l : Level) × In N.inner l × (v ≡ l.header)) ⊎ ((l : Level) → In N.inner l → v ≢ l.header) → a v r ≡ b v r
      by same (inl e) s = subst (λ z. a z r ≡ b z r) (sym e) (fa.root r ∙ sym (fb.root r))
      by same (inr ne) (inl s) =
          let l = s.0 in
          let there : (u : ℕ) → IsForwardIn N N.root.body u l.header → (q : ℕ) → a u q ≡ b u q = subst (λ z. (u : ℕ) → IsForwardIn N N.root.body u z → (q : ℕ) → a u q ≡ b u q) s.2 same in
          let o : fa.outside l r ≡ fb.outside l r = same_option (fa.outside l r) (fb.outside l r)
          (λ f k. (fb.entering l s.1 r f).1 (meets_too a b l.header r f there ((fa.entering l s.1 r f).0 k)))
          (λ f k. (fa.entering l s.1 r f).1 (meets_too b a l.header r f (λ u w q. sym (there u w q)) ((fb.entering l s.1 r f).0 k))) in
          subst (λ z. a z r ≡ b z r) (sym s.2) (fa.inner l s.1 r ∙ ap (λ (x : Option LinearForm). header_form l.depth (roles l r) x) o ∙ sym (fb.inner l s.1 r))
      by same (inr ne) (inr none) =
          let heads : HeadsNone N v = heads_none ne none in
          same_option (a v r) (b v r)
          (λ f k. (fb.met v r f h heads).1 (meets_too a b v r f same ((fa.met v r f h heads).0 k)))
          (λ f k. (fa.met v r f h heads).1 (meets_too b a v r f (λ u w q. sym (same u w q)) ((fb.met v r f h heads).0 k)))
        where
          heads_none : v ≢ N.root.header → ((l : Level) → In N.inner l → v ≢ l.header) → HeadsNone N v
          heads_none ne none l (inl e) q = ne (q ∙ sym (ap (λ (z : Level). z.header) e))
          heads_none ne none l (inr i) q = none l i q

pub one_solution : OneSolutionLaw
one_solution N B roles a b nest fa fb v r h = agree N B roles nest a b fa fb (suc (nest.shapes.ranked.rank v)) v (omega arith) h r

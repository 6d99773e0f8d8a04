-- The equations of a nest have a solution: the forms computed along an order of its words.
use Rattle.std.proofs.Common.{◌≡◌, ◌≢◌, ℕ, zero, suc, ◌<◌, ◌⊎◌, ◌↔◌, inl, inr, ◌==◌, ◌&&◌, Bool, true, false, if◌then◌else◌, List, [], ◌∷◌, Option, Some, None, ℤ, pos, negsuc, refl, ap, sym, ◌∙◌, subst, arith}
use Rattle.std.proofs.lemmas.Bool.{cases_eq}
use mathlib.Core.Path.{fun_ext}
use Rattle.linear_forms.specs.Forms.{LinearForm, stride, is_zero}
use Rattle.loop_data.specs.declared.shape.Level.{Level}
use Rattle.loop_data.specs.Nests.{Nest, has, In, levels, Holds, IsNest}
use Rattle.loop_data.specs.LoopCode.{LoopCode, IsForwardIn}
use Rattle.loop_data.specs.Independent.{Role}
use Rattle.loop_data.specs.FormRows.{form_after}
use Rattle.loop_data.specs.Equations.{entry_form, header_form, Carries, Meets, HeadsNone, AreForms}
use Rattle.loop_data.proofs.Tests.{eq_of, is_eq, is_ne, and_true, true_and}
use Rattle.loop_data.proofs.Agreement.{meet, met, meet_same}
use Rattle.loop_data.proofs.FactsExist.{is_forward, forward, passes, rises, led}
use Rattle.register_equations.proofs.Joined.{cases_form}

-- whether two forms are the same
abbrev decided : {A : Type 0} {a b : A} → (a ≡ b) ⊎ (a ≢ b) → Bool
decided (inl e) = true
decided (inr ne) = false

cases_option : (o p : Option LinearForm) → (o ≡ p) ⊎ (o ≢ p)
cases_option None None = inl refl
cases_option None (Some g) = inr (λ e. absurd (cc))
cases_option (Some f) None = inr (λ e. absurd (cc))
cases_option (Some f) (Some g) = go (cases_form f g)
  where
    go : (f ≡ g) ⊎ (f ≢ g) → (Some f ≡ Some g) ⊎ (Some f ≢ Some g)
    go (inl e) = inl (ap (λ h. Some h) e)
    go (inr ne) = inr (λ e. ne (cc))

abbrev same_form : Option LinearForm → Option LinearForm → Bool
same_form o p = decided (cases_option o p)

form_is : (o p : Option LinearForm) → same_form o p ≡ true → o ≡ p
form_is o p = go (cases_option o p)
  where
    go : (x : (o ≡ p) ⊎ (o ≢ p)) → decided x ≡ true → o ≡ p
    go (inl e) t = e
    go (inr ne) t = absurd (cc)

form_self : (o : Option LinearForm) → same_form o o ≡ true
form_self o = go (cases_option o o)
  where
    go : (x : (o ≡ o) ⊎ (o ≢ o)) → decided x ≡ true
    go (inl e) = refl
    go (inr ne) = absurd (ne refl)

-- what arrives at v after the word at u: a form without strides of the loops that the edge leaves
abbrev stays_in : ℕ → ℕ → LinearForm → Level → Bool
stays_in u v f l = if has l.body u then (if has l.body v then true else is_zero (stride f l.depth)) else true

abbrev carried : List Level → ℕ → ℕ → LinearForm → Bool
carried [] u v f = true
carried (l ∷ ls) u v f = stays_in u v f l && carried ls u v f

abbrev arriving : List Level → ℕ → ℕ → Option LinearForm → Option LinearForm
arriving ls u v None = None
arriving ls u v (Some f) = if carried ls u v f then Some f else None

zero_is : (z : ℤ) → is_zero z ≡ true → z ≡ pos 0
zero_is (pos n) e = ap pos (eq_of n 0 e)
zero_is (negsuc n) e = absurd (cc)

is_zero_at : (z : ℤ) → z ≡ pos 0 → is_zero z ≡ true
is_zero_at z e = ap is_zero e

stays_forth : (u v : ℕ) (f : LinearForm) (l : Level) → stays_in u v f l ≡ true → Holds l u → has l.body v ≡ false → stride f l.depth ≡ pos 0
stays_forth u v f l e hu hv =
    zero_is (stride f l.depth)
    (sym (ap (λ b. if b then (if has l.body v then true else is_zero (stride f l.depth)) else true) hu ∙ ap (λ b. if b then true else is_zero (stride f l.depth)) hv) ∙ e)

stays_back : (u v : ℕ) (f : LinearForm) (l : Level) → (Holds l u → has l.body v ≡ false → stride f l.depth ≡ pos 0) → stays_in u v f l ≡ true
stays_back u v f l h = go (has l.body u) refl (has l.body v) refl
  where
    go : (a : Bool) → has l.body u ≡ a → (b : Bool) → has l.body v ≡ b → (if a then (if b then true else is_zero (stride f l.depth)) else true) ≡ true
    go false p b q = refl
    go true p true q = refl
    go true p false q = is_zero_at (stride f l.depth) (h p q)

carried_forth : (ls : List Level) (u v : ℕ) (f : LinearForm) → carried ls u v f ≡ true → (l : Level) → In ls l → Holds l u → has l.body v ≡ false → stride f l.depth ≡ pos 0
carried_forth [] u v f e l i hu hv = absurd i
carried_forth (m ∷ ms) u v f e l i hu hv =
    let a = and_true (stays_in u v f m) (carried ms u v f) e in go i (λ j. carried_forth ms u v f a.1 l j hu hv) a.0
  where
    go : (m ≡ l) ⊎ In ms l → (In ms l → stride f l.depth ≡ pos 0) → stays_in u v f m ≡ true → stride f l.depth ≡ pos 0
    go (inl q) later here = stays_forth u v f l (subst (λ (z : Level). stays_in u v f z ≡ true) q here) hu hv
    go (inr j) later here = later j

carried_back : (ls : List Level) (u v : ℕ) (f : LinearForm) → ((l : Level) → In ls l → Holds l u → has l.body v ≡ false → stride f l.depth ≡ pos 0) → carried ls u v f ≡ true
carried_back [] u v f h = refl
carried_back (m ∷ ms) u v f h =
    true_and (stays_in u v f m) (carried ms u v f) (stays_back u v f m (h m (inl refl))) (carried_back ms u v f (λ l i. h l (inr i)))

some_same : (f g : LinearForm) → Some f ≡ Some g → f ≡ g
some_same f g e = cc

arriving_is : (N : Nest) (u v : ℕ) (o : Option LinearForm) (f : LinearForm) → (arriving (levels N) u v o ≡ Some f) ↔ ((o ≡ Some f) × Carries N u v f)
arriving_is N u v None f = (λ e. absurd (cc), λ h. let e = h.0 in absurd (cc))
arriving_is N u v (Some g) f = (forth (carried (levels N) u v g) refl, back)
  where
    forth : (b : Bool) → carried (levels N) u v g ≡ b → (if b then Some g else None) ≡ Some f → (Some g ≡ Some f) × Carries N u v f
    forth true c e = (e, λ l i hu hv. carried_forth (levels N) u v f (subst (λ h. carried (levels N) u v h ≡ true) (some_same g f e) c) l i hu hv)
    forth false c e = absurd (cc)

    back : (Some g ≡ Some f) × Carries N u v f → (if carried (levels N) u v g then Some g else None) ≡ Some f
    back h =
        let c = carried_back (levels N) u v f h.1 in
        ap (λ b. if b then Some g else None) (subst (λ k. carried (levels N) u v k ≡ true) (sym (some_same g f h.0)) c) ∙ h.0

-- at the header of an inner loop, by what comes from outside
abbrev by_loop : List Level → (Level → ℕ → Role) → ℕ → ℕ → Option LinearForm → Option LinearForm
by_loop [] roles v r o = o
by_loop (l ∷ ls) roles v r o = if l.header == v then header_form l.depth (roles l r) o else by_loop ls roles v r o

by_none : (ls : List Level) (roles : Level → ℕ → Role) (v r : ℕ) (o : Option LinearForm) → ((l : Level) → In ls l → v ≢ l.header) → by_loop ls roles v r o ≡ o
by_none [] roles v r o h = refl
by_none (l ∷ ls) roles v r o h =
    ap (λ b. if b then header_form l.depth (roles l r) o else by_loop ls roles v r o) (is_ne l.header v (λ e. h l (inl refl) (sym e)))
    ∙ by_none ls roles v r o (λ m i. h m (inr i))

by_one : (ls : List Level) (roles : Level → ℕ → Role) (l : Level) (r : ℕ) (o : Option LinearForm) → ((m : Level) → In ls m → m.header ≡ l.header → m ≡ l) → In ls l
    → by_loop ls roles l.header r o ≡ header_form l.depth (roles l r) o
by_one [] roles l r o same i = absurd i
by_one (m ∷ ms) roles l r o same i = go (cases_eq m.header l.header) i (λ j. by_one ms roles l r o (λ k q. same k (inr q)) j)
  where
    go : (m.header ≡ l.header) ⊎ (m.header ≢ l.header) → (m ≡ l) ⊎ In ms l → (In ms l → by_loop ms roles l.header r o ≡ header_form l.depth (roles l r) o)
        → by_loop (m ∷ ms) roles l.header r o ≡ header_form l.depth (roles l r) o
    go (inl e) j later =
        ap (λ b. if b then header_form m.depth (roles m r) o else by_loop ms roles l.header r o) (is_eq m.header l.header e)
        ∙ ap (λ (z : Level). header_form z.depth (roles z r) o) (same m (inl refl) e)
    go (inr ne) (inl q) later = absurd (ne (ap (λ (z : Level). z.header) q))
    go (inr ne) (inr j) later =
        ap (λ b. if b then header_form m.depth (roles m r) o else by_loop ms roles l.header r o) (is_ne m.header l.header ne) ∙ later j

-- the forms of a word, by so many steps along the order
abbrev coming : Nest → LoopCode → (ℕ → ℕ → Option LinearForm) → ℕ → ℕ → ℕ → Option LinearForm
coming N B at v r u = arriving (levels N) u v (form_after B u (at u) r)

abbrev meeting : Nest → LoopCode → (ℕ → ℕ → Option LinearForm) → ℕ → ℕ → Option LinearForm
meeting N B at v r = meet same_form form_is form_self (is_forward N N.root v) (coming N B at v r) N.root.body

abbrev forms_by : Nest → LoopCode → (Level → ℕ → Role) → ℕ → ℕ → ℕ → Option LinearForm
forms_by N B roles zero v r = None
forms_by N B roles (suc n) v r =
    if v == N.root.header then header_form 0 (roles N.root r) (entry_form B r) else
    by_loop N.inner roles v r (meeting N B (forms_by N B roles n) v r)

module _ (N : Nest) (B : LoopCode) (roles : Level → ℕ → Role) (nest : IsNest N) where
  abbrev rank : ℕ → ℕ
  rank = nest.shapes.ranked.rank

  rises_here : (u v : ℕ) → is_forward N N.root v u ≡ true → rank u < rank v
  rises_here u v t = rises N B N.root nest (inl refl) u v (forward N B N.root nest (inl refl) u v t)

  -- more steps than the place in the order change nothing
  stable : (n m v : ℕ) → rank v < n → rank v < m → forms_by N B roles n v ≡ forms_by N B roles m v
  stable zero m v low high = absurd (omega arith)
  stable (suc n) zero v low high = absurd (omega arith)
  stable (suc n) (suc m) v low high = fun_ext (λ r.
      ap (λ (o : Option LinearForm). if v == N.root.header then header_form 0 (roles N.root r) (entry_form B r) else by_loop N.inner roles v r o)
      (meet_same same_form form_is form_self (is_forward N N.root v) (coming N B (forms_by N B roles n) v r) (coming N B (forms_by N B roles m) v r) N.root.body
      (λ u h t. ap (λ S. arriving (levels N) u v (form_after B u S r)) (stable n m u (let k = rises_here u v t in omega arith) (let k = rises_here u v t in omega arith)))))

  abbrev found : ℕ → ℕ → Option LinearForm
  found v = forms_by N B roles (suc (rank v)) v

  abbrev outside : Level → ℕ → Option LinearForm
  outside l r = meeting N B (forms_by N B roles (rank l.header)) l.header r

  -- what meets at a word is what arrives along all edges
  meets_at : (v r : ℕ) (f : LinearForm) → Holds N.root v → v ≢ N.root.header
      → (meeting N B (forms_by N B roles (rank v)) v r ≡ Some f) ↔ Meets N B found v r f
  meets_at v r f h ne = (forth, back)
    where
      source : (u : ℕ) × IsForwardIn N N.root.body u v
      source = led N B N.root nest (inl refl) v h ne

      law : (meeting N B (forms_by N B roles (rank v)) v r ≡ Some f)
          ↔ ((u : ℕ) → has N.root.body u ≡ true → is_forward N N.root v u ≡ true → coming N B (forms_by N B roles (rank v)) v r u ≡ Some f)
      law = met same_form form_is form_self (is_forward N N.root v) (coming N B (forms_by N B roles (rank v)) v r) N.root.body source.0 source.1.edge.from (passes N B N.root nest (inl refl) source.0 v source.1) f

      same : (u : ℕ) → IsForwardIn N N.root.body u v → forms_by N B roles (rank v) u ≡ found u
      same u g = stable (rank v) (suc (rank u)) u (rises N B N.root nest (inl refl) u v g) (omega arith)

      forth : meeting N B (forms_by N B roles (rank v)) v r ≡ Some f → Meets N B found v r f
      forth e u g =
          let a = (arriving_is N u v (form_after B u (forms_by N B roles (rank v) u) r) f).0 (law.0 e u g.edge.from (passes N B N.root nest (inl refl) u v g)) in
          record { after = subst (λ S. form_after B u S r ≡ Some f) (same u g) a.0; carries = a.1 }

      back : Meets N B found v r f → meeting N B (forms_by N B roles (rank v)) v r ≡ Some f
      back all = law.1 (λ u k t.
          let g = forward N B N.root nest (inl refl) u v t in
          let a = all u g in
          (arriving_is N u v (form_after B u (forms_by N B roles (rank v) u) r) f).1 (subst (λ S. form_after B u S r ≡ Some f) (sym (same u g)) a.after, a.carries))

  past_root : (v r : ℕ) → v ≢ N.root.header → found v r ≡ by_loop N.inner roles v r (meeting N B (forms_by N B roles (rank v)) v r)
  past_root v r ne = ap (λ b. if b then header_form 0 (roles N.root r) (entry_form B r) else by_loop N.inner roles v r (meeting N B (forms_by N B roles (rank v)) v r)) (is_ne v N.root.header ne)

  inside : (l : Level) → In N.inner l → Holds N.root l.header
  inside l i = nest.bodies.within l (inr i) l.header (nest.bodies.header l (inr i))

  only : (l : Level) → In N.inner l → (m : Level) → In N.inner m → m.header ≡ l.header → m ≡ l
  only l i m j e = nest.bodies.apart m l (inr j) (inr i)
      (subst (λ z. Holds l z) (sym e) (nest.bodies.header l (inr i))) (subst (λ z. Holds m z) e (nest.bodies.header m (inr j)))

  met_is : (v r : ℕ) (f : LinearForm) → Holds N.root v → HeadsNone N v → (found v r ≡ Some f) ↔ Meets N B found v r f
  met_is v r f h none =
      let ne = none N.root (inl refl) in
      let is = past_root v r ne ∙ by_none N.inner roles v r (meeting N B (forms_by N B roles (rank v)) v r) (λ l i. none l (inr i)) in
      let law = meets_at v r f h ne in
      (λ e. law.0 (sym is ∙ e), λ all. is ∙ law.1 all)

  pub forms_exist : (at : ℕ → ℕ → Option LinearForm) × AreForms N B roles at
  forms_exist = (
    found,
    record {
      outside = outside;
      root = λ r. ap (λ b. if b then header_form 0 (roles N.root r) (entry_form B r) else by_loop N.inner roles N.root.header r (meeting N B (forms_by N B roles (rank N.root.header)) N.root.header r)) (is_eq N.root.header N.root.header refl);
      inner = λ l i r. past_root l.header r (nest.bodies.inner_header l i) ∙ by_one N.inner roles l r (outside l r) (only l i) i;
      entering = λ l i r f. meets_at l.header r f (inside l i) (nest.bodies.inner_header l i);
      met = met_is;
    },
  )

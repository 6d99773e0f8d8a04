-- What the induction over a walk uses of a solution of the equations.
use Rattle.std.proofs.Common.{◌≡◌, ◌≢◌, ℕ, zero, suc, ◌⊎◌, inl, inr, List, [], ◌∷◌, Bool, true, false, ◌||◌, Option, Some, None, refl, ap, sym, ◌∙◌, subst, arith, if◌then◌else◌, ◌==◌, pos, ℤ, ◌+ℤ◌}
use Rattle.std.proofs.lemmas.Int.{ints}
use Rattle.linear_forms.specs.Forms.{LinearForm, moving, pure}
use Rattle.loop_data.specs.declared.shape.Level.{Level}
use Rattle.loop_data.specs.Nests.{Nest, has, In, Among, Edge, IsPass, IsNest}
use Rattle.loop_data.specs.Independent.{Role, Keeps, Moves, Private}
use Rattle.loop_data.specs.LoopCode.{LoopCode, writes, any_writes, is_location, IsUnwritten}
use Rattle.loop_data.specs.FormRows.{form_after}
use Rattle.loop_data.specs.Facts.{Fact}
use Rattle.loop_data.specs.Classes.{IsInduction, HasRole, HasInnerRole}
use Rattle.loop_data.specs.Equations.{entry_form, plus_constant, with_step, header_form, Carries, AreForms, IsConfirmed}
use Rattle.loop_data.proofs.Tests.{eq_of, yes_no}
use Rattle.loop_data.proofs.NestVisits.{entering_edge}
use Rattle.register_equations.specs.FormLaws.{AreSolved}

-- what words do to locations: which they write, and the form that a location has after a word
pub record Words : Type 0 where
  pub writes : ℕ → ℕ → Bool
  pub after : ℕ → (ℕ → Option LinearForm) → ℕ → Option LinearForm

abbrev pub words_of : LoopCode → Words
words_of B = record { writes = writes B; after = form_after B }

abbrev pub some_writes : Words → List ℕ → ℕ → Bool
some_writes W [] r = false
some_writes W (y ∷ ys) r = W.writes y r || some_writes W ys r

-- the steps of a loop's inductions, and 0 for what it does not write
abbrev pub Steps : Type 0
Steps = Level → ℕ → ℤ

abbrev pub step_of : Role → ℤ
step_of Keeps = pos 0
step_of (Moves step) = step
step_of Private = pos 0

-- the entry value of a location, which is 0 for x0
abbrev pub IsEntry : ℕ → LinearForm → Type 0
IsEntry r g = (g ≡ moving r (pos 0)) ⊎ ((r ≡ 0) × (g ≡ pure (pos 0)))

pub record Solution (N : Nest) (W : Words) (S : Steps) (at : ℕ → ℕ → Option LinearForm) : Type 0 where
  -- at the root's header
  pub root : (r : ℕ) (f : LinearForm) → at N.root.header r ≡ Some f → (g : LinearForm) × IsEntry r g × (f ≡ with_step g 0 (S N.root r))
  -- at an inner header: what comes from outside, with the step
  pub outside : Level → ℕ → Option LinearForm
  pub inner : (l : Level) → In N.inner l → (r : ℕ) (f : LinearForm) → at l.header r ≡ Some f → (g : LinearForm) × (outside l r ≡ Some g) × (f ≡ with_step g l.depth (S l r))
  pub entering : (l : Level) → In N.inner l → (r u : ℕ) (g : LinearForm) → outside l r ≡ Some g → Edge N N.root.body u l.header → has l.body u ≡ false → (W.after u (at u) r ≡ Some g) × Carries N u l.header g
  -- elsewhere
  pub met : (v r : ℕ) (f : LinearForm) → has N.root.body v ≡ true → ((l : Level) → Among N l → v ≢ l.header) → at v r ≡ Some f
      → (u : ℕ) → Edge N N.root.body u v → (W.after u (at u) r ≡ Some f) × Carries N u v f
  -- what is written in a loop and has a form at its header is an induction, and each write of it writes the header's form plus the step
  pub confirmed : (l : Level) → Among N l → (u r : ℕ) (f : LinearForm) → has l.body u ≡ true → W.writes u r ≡ true → at l.header r ≡ Some f → W.after u (at u) r ≡ Some (plus_constant f (S l r))
  pub always : (l : Level) → Among N l → (ys : List ℕ) → IsPass N l ys → (r : ℕ) (f : LinearForm) → at l.header r ≡ Some f → (S l r ≡ pos 0) ⊎ (some_writes W ys r ≡ true)

plus_nothing : (z : ℤ) → z +ℤ pos 0 ≡ z
plus_nothing z = omega (arith, ints)

no_step : (f : LinearForm) (d : ℕ) → with_step f d (pos 0) ≡ f
no_step f zero = ap (λ z. record f { first = z }) (plus_nothing f.first)
no_step f (suc zero) = ap (λ z. record f { second = z }) (plus_nothing f.second)
no_step f (suc (suc zero)) = ap (λ z. record f { third = z }) (plus_nothing f.third)
no_step f (suc (suc (suc d))) = refl

-- a form at a header, with its step
stepped_form : (d : ℕ) (c : Role) (o : Option LinearForm) (f : LinearForm) → header_form d c o ≡ Some f → (g : LinearForm) × (o ≡ Some g) × (f ≡ with_step g d (step_of c))
stepped_form d Keeps o f e = (f, e, sym (no_step f d))
stepped_form d (Moves step) (Some g) f e = let q : with_step g d step ≡ f = cc in (g, refl, sym q)
stepped_form d (Moves step) None f e = absurd (cc)
stepped_form d Private o f e = absurd (cc)

entry_is : (B : LoopCode) (r : ℕ) (g : LinearForm) → entry_form B r ≡ Some g → IsEntry r g
entry_is B r g = go (r == 0) (is_location B r) refl
  where
    go : (a b : Bool) → (r == 0) ≡ a → (if a then Some (pure (pos 0)) else if b then Some (moving r (pos 0)) else None) ≡ Some g → IsEntry r g
    go true b q e = let k : pure (pos 0) ≡ g = cc in inr (eq_of r 0 q, sym k)
    go false true q e = let k : moving r (pos 0) ≡ g = cc in inl (sym k)
    go false false q e = absurd (cc)

-- a private location has no form at a header
not_private : (d : ℕ) (o : Option LinearForm) (f : LinearForm) → header_form d Private o ≡ Some f → ⊥
not_private d o f e = absurd (cc)

some_is : (B : LoopCode) (ys : List ℕ) (r : ℕ) → any_writes B ys r ≡ some_writes (words_of B) ys r
some_is B [] r = refl
some_is B (y ∷ ys) r = ap (λ b. writes B y r || b) (some_is B ys r)

pub solution_of : (N : Nest) (B : LoopCode) (roles : Level → ℕ → Role) (at : ℕ → ℕ → Option LinearForm) → IsNest N → AreSolved N B roles at → Solution N (words_of B) (λ l r. step_of (roles l r)) at
solution_of N B roles at nest s =
    record {
      root = λ r f e. root r f e;
      outside = s.forms.outside;
      inner = λ l i r f e. stepped_form l.depth (roles l r) (s.forms.outside l r) f (sym (s.forms.inner l i r) ∙ e);
      entering = λ l i r u g e edge out. let a = (s.forms.entering l i r g).0 e u (entering_edge N l u nest (inr i) edge out) in (a.after, a.carries);
      met = λ v r f h none e u edge. let a = (s.forms.met v r f h none).0 e u (record { edge = edge; closes = λ l j k. none l j }) in (a.after, a.carries);
      confirmed = λ l i u r f h w e. confirmed l i u r f h w e (roles l r) refl;
      always = λ l i ys pass r f e. always l i ys pass r f e (roles l r) refl;
    }
  where
    root : (r : ℕ) (f : LinearForm) → at N.root.header r ≡ Some f → (g : LinearForm) × IsEntry r g × (f ≡ with_step g 0 (step_of (roles N.root r)))
    root r f e = let a = stepped_form 0 (roles N.root r) (entry_form B r) f (sym (s.forms.root r) ∙ e) in (a.0, entry_is B r a.0 a.1, a.2)

    -- the form at a header, by its loop
    header_is : (l : Level) → Among N l → (r : ℕ) → (d : ℕ) × (o : Option LinearForm) × (at l.header r ≡ header_form d (roles l r) o)
    header_is l (inl e) r = (0, entry_form B r, subst (λ (z : Level). at z.header r ≡ header_form 0 (roles z r) (entry_form B r)) e (s.forms.root r))
    header_is l (inr i) r = (l.depth, s.forms.outside l r, s.forms.inner l i r)

    confirmed : (l : Level) → Among N l → (u r : ℕ) (f : LinearForm) → has l.body u ≡ true → writes B u r ≡ true → at l.header r ≡ Some f → (c : Role) → roles l r ≡ c
        → form_after B u (at u) r ≡ Some (plus_constant f (step_of (roles l r)))
    confirmed l i u r f h w e Keeps q = absurd (yes_no _ w (s.keeps l i r q u h))
    confirmed l i u r f h w e (Moves step) q = (s.confirmed l i r).by u step f q h w e ∙ ap (λ c. Some (plus_constant f (step_of c))) (sym q)
    confirmed l i u r f h w e Private q = let a = header_is l i r in absurd (not_private a.0 a.1 f (ap (λ c. header_form a.0 c a.1) (sym q) ∙ sym a.2 ∙ e))

    always : (l : Level) → Among N l → (ys : List ℕ) → IsPass N l ys → (r : ℕ) (f : LinearForm) → at l.header r ≡ Some f → (c : Role) → roles l r ≡ c
        → (step_of (roles l r) ≡ pos 0) ⊎ (some_writes (words_of B) ys r ≡ true)
    always l i ys pass r f e Keeps q = inl (ap step_of q)
    always l i ys pass r f e (Moves step) q = inr (sym (some_is B ys r) ∙ s.moves l i r step q ys pass)
    always l i ys pass r f e Private q = inl (ap step_of q)

-- a pass with the word has its write
writes_on : (B : LoopCode) (ys : List ℕ) (u r : ℕ) → has ys u ≡ true → writes B u r ≡ true → any_writes B ys r ≡ true
writes_on B [] u r h w = absurd (cc)
writes_on B (y ∷ ys) u r h w = go (y == u) refl h (λ k. writes_on B ys u r k w)
  where
    go : (b : Bool) → (y == u) ≡ b → (if b then true else has ys u) ≡ true → (has ys u ≡ true → any_writes B ys r ≡ true) → (writes B y r || any_writes B ys r) ≡ true
    go true e h later = ap (λ b. b || any_writes B ys r) (ap (λ z. writes B z r) (eq_of y u e) ∙ w)
    go false e h later = by (writes B y r) (later h)
      where
        by : (b : Bool) → any_writes B ys r ≡ true → (b || any_writes B ys r) ≡ true
        by true k = refl
        by false k = k

-- the classes of the locations give such roles
pub roles_solve : (N : Nest) (B : LoopCode) (roles : Level → ℕ → Role) (at : ℕ → ℕ → Option LinearForm) → ((r : ℕ) → (V : ℕ → ℕ → Option Fact) × HasRole N B V r (roles N.root r)) → ((l : Level) → In N.inner l → (r : ℕ) → (V : ℕ → ℕ → Option Fact) × HasInnerRole N B V l r (roles l r))
    → AreForms N B roles at → ((l : Level) → Among N l → (r : ℕ) → IsConfirmed N B roles at l r) → AreSolved N B roles at
roles_solve N B roles at outer inner forms confirmed = record { keeps = keeps; moves = moves; forms = forms; confirmed = confirmed }
  where
    keeps : (l : Level) → Among N l → (r : ℕ) → roles l r ≡ Keeps → IsUnwritten B l r
    keeps l (inl e) r q = subst (λ z. IsUnwritten B z r) e (subst (HasRole N B (outer r).0 r) (ap (λ z. roles z r) e ∙ q) (outer r).1)
    keeps l (inr i) r q = subst (HasInnerRole N B (inner l i r).0 l r) q (inner l i r).1

    moves : (l : Level) → Among N l → (r : ℕ) (step : ℤ) → roles l r ≡ Moves step → (us : List ℕ) → IsPass N l us → any_writes B us r ≡ true
    moves l (inl e) r step q us pass =
        let k : IsInduction N B (outer r).0 N.root r step = subst (HasRole N B (outer r).0 r) (ap (λ z. roles z r) e ∙ q) (outer r).1 in
        writes_on B us k.word r (k.always us (subst (λ z. IsPass N z us) (sym e) pass)) k.does
    moves l (inr i) r step q us pass =
        let k : IsInduction N B (inner l i r).0 l r step = subst (HasInnerRole N B (inner l i r).0 l r) q (inner l i r).1 in
        writes_on B us k.word r (k.always us pass) k.does

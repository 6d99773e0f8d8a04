-- The law of the equations over a nest of loops, by one induction over the visits of a walk.
use Rattle.std.proofs.Common.{◌≡◌, ◌≢◌, ℕ, zero, suc, ◌<◌, ◌⊎◌, inl, inr, List, [], ◌∷◌, Bool, true, false, ◌||◌, Option, Some, None, refl, ap, sym, ◌∙◌, subst, arith, if◌then◌else◌, ◌==◌, pos, ℤ, ◌+ℤ◌, ◌*ℤ◌}
use Rattle.std.proofs.lemmas.Int.{ints}
use Rattle.linear_forms.specs.Forms.{Alike, LinearForm, stride, exact, moving, pure}
use Rattle.linear_forms.proofs.Sums.{alike_from, alike_trans, exact-pure}
use Rattle.loop_data.specs.declared.shape.Level.{Level}
use Rattle.loop_data.specs.Nests.{Nest, has, In, levels, Among, Edge, IsPassTo, IsPass, around, IsNest}
use Rattle.loop_data.specs.Passes.{pass, passed, pass_in, passes}
use Rattle.loop_data.specs.Equations.{plus_constant, with_step, Carries}
use Rattle.loop_data.proofs.Tests.{eq_of, ne_of, is_eq, is_ne, true_or_false, yes_no}
use Rattle.loop_data.proofs.Arounds.{time_at}
use Rattle.loop_data.proofs.NestVisits.{Inside, edge_of, inside_less, header_or}
use Rattle.register_equations.proofs.Solutions.{Words, some_writes, Steps, IsEntry, Solution}
use Rattle.register_equations.proofs.Times.{Flat, around_or, exact_same, exact_more, exact_plus, exact_step, stride_step_same, stride_step_other}

abbrev pub Values : Type 0
Values = ℕ → ℕ → ℤ

-- each location with a form at visit n has the form's value
abbrev pub HoldForms : Nest → (ℕ → ℕ → Option LinearForm) → (ℕ → ℕ) → Values → ℕ → Type 0
HoldForms N at pc value n = (r : ℕ) (f : LinearForm) → at (pc n) r ≡ Some f → Alike (value n r) (exact f (value 0) (passes N pc n))

-- what the word visited as number n does
pub record Does (N : Nest) (W : Words) (at : ℕ → ℕ → Option LinearForm) (pc : ℕ → ℕ) (value : Values) (n : ℕ) : Type 0 where
  pub right : HoldForms N at pc value n → (r : ℕ) (f : LinearForm) → W.after (pc n) (at (pc n)) r ≡ Some f → Alike (value (suc n) r) (exact f (value 0) (passes N pc n))
  pub kept : (r : ℕ) → W.writes (pc n) r ≡ false → value (suc n) r ≡ value n r

-- a word makes no stride of a depth out of forms without one
abbrev pub IsFlat : Words → (ℕ → ℕ → Option LinearForm) → Type 0
IsFlat W at = (u k : ℕ) → ((r : ℕ) (f : LinearForm) → at u r ≡ Some f → stride f k ≡ pos 0) → (r : ℕ) (f : LinearForm) → W.after u (at u) r ≡ Some f → stride f k ≡ pos 0

abbrev pub flag : Bool → ℤ
flag b = if b then pos 1 else pos 0

-- what is known of a form at the header of a loop
pub record Known (N : Nest) (l : Level) (s : ℤ) (f : LinearForm) : Type 0 where
  pub flat : Flat N l.header f
  pub step : stride f l.depth ≡ s

pub record Good (N : Nest) (W : Words) (S : Steps) (at : ℕ → ℕ → Option LinearForm) (pc : ℕ → ℕ) (value : Values) (n : ℕ) : Type 0 where
  pub way : (l : Level) → Among N l → has l.body (pc n) ≡ true → IsPassTo N l (passed l pc n) (pc n)
  pub holds : HoldForms N at pc value n
  pub flat : (r : ℕ) (f : LinearForm) → at (pc n) r ≡ Some f → Flat N (pc n) f
  pub known : (l : Level) → Among N l → has l.body (pc n) ≡ true → (r : ℕ) (f : LinearForm) → at l.header r ≡ Some f → Known N l (S l r) f
  pub frames : (l : Level) → Among N l → has l.body (pc n) ≡ true → (r : ℕ) (f : LinearForm) → at l.header r ≡ Some f
      → Alike (value n r) (exact f (value 0) (passes N pc n) +ℤ S l r *ℤ flag (some_writes W (passed l pc n) r))

-- a stride that the edge loses, or that is not there
pub gone : (N : Nest) (u v k : ℕ) (g : LinearForm) → k < 3 → Flat N u g → Carries N u v g → ((m : Level) → Among N m → m.depth ≡ k → has m.body u ≡ true → has m.body v ≡ false) → stride g k ≡ pos 0
gone N u v k g lt flat carries out = go (around_or N k u)
  where
    go : ((l : Level) × Among N l × (l.depth ≡ k) × (has l.body u ≡ true)) ⊎ ((l : Level) → Among N l → l.depth ≡ k → has l.body u ≡ false) → stride g k ≡ pos 0
    go (inl m) = subst (λ d. stride g d ≡ pos 0) m.2 (carries m.0 m.1 m.3 (out m.0 m.1 m.2 m.3))
    go (inr none) = flat k lt none

-- inside a loop, but at its header, its time stays
time_stays : (N : Nest) (pc : ℕ → ℕ) (n : ℕ) (l : Level) → IsNest N → Among N l → has l.body (pc n) ≡ true → has l.body (pc (suc n)) ≡ true → pc (suc n) ≢ l.header → passes N pc n l.depth ≡ passes N pc (suc n) l.depth
time_stays N pc n l nest i hu hv ne =
    time_at N l pc n nest i hu ∙ sym (ap (λ b. if b then (if has l.body (pc n) then suc (pass l pc n) else 0) else pass l pc n) (is_ne _ _ ne)) ∙ sym (time_at N l pc (suc n) nest i hv)

-- along an edge that closes no loop, the times at which the form has strides stay
carried : (N : Nest) (pc : ℕ → ℕ) (n : ℕ) (g : LinearForm) → IsNest N → Flat N (pc n) g → Carries N (pc n) (pc (suc n)) g
    → ((l : Level) → Among N l → has l.body (pc n) ≡ true → has l.body (pc (suc n)) ≡ true → pc (suc n) ≢ l.header)
    → (k : ℕ) → k < 3 → (stride g k ≡ pos 0) ⊎ (passes N pc n k ≡ passes N pc (suc n) k)
carried N pc n g nest flat carries ahead k lt = go (around_or N k (pc (suc n)))
  where
    u : ℕ
    u = pc n

    v : ℕ
    v = pc (suc n)

    here : (l : Level) → Among N l → l.depth ≡ k → has l.body v ≡ true → (has l.body u ≡ true) ⊎ (has l.body u ≡ false) → (stride g k ≡ pos 0) ⊎ (passes N pc n k ≡ passes N pc (suc n) k)
    here l i d hv (inl hu) = inr (subst (λ z. passes N pc n z ≡ passes N pc (suc n) z) d (time_stays N pc n l nest i hu hv (ahead l i hu hv)))
    here l i d hv (inr hu) = inl (gone N u v k g lt flat carries (λ m im dm mu. by m im dm mu (true_or_false (has m.body v))))
      where
        by : (m : Level) → Among N m → m.depth ≡ k → has m.body u ≡ true → (has m.body v ≡ true) ⊎ (has m.body v ≡ false) → has m.body v ≡ false
        by m im dm mu (inl mv) = absurd (yes_no _ mu (subst (λ (z : Level). has z.body u ≡ false) (nest.bodies.alone l m i im (d ∙ sym dm) v hv mv) hu))
        by m im dm mu (inr mv) = mv

    go : ((l : Level) × Among N l × (l.depth ≡ k) × (has l.body v ≡ true)) ⊎ ((l : Level) → Among N l → l.depth ≡ k → has l.body v ≡ false) → (stride g k ≡ pos 0) ⊎ (passes N pc n k ≡ passes N pc (suc n) k)
    go (inl l) = here l.0 l.1 l.2 l.3 (true_or_false (has (l.0).body u))
    go (inr none) = inl (gone N u v k g lt flat carries (λ m im dm mu. none m im dm))

-- inside a loop, a form at its header keeps its times, but for the loop's own where the edge closes it
framed : (N : Nest) (pc : ℕ → ℕ) (n : ℕ) (l : Level) (f : LinearForm) → IsNest N → Among N l → has l.body (pc n) ≡ true → has l.body (pc (suc n)) ≡ true → Flat N l.header f
    → (k : ℕ) → k < 3 → (pc (suc n) ≢ l.header) ⊎ (k ≢ l.depth) → (stride f k ≡ pos 0) ⊎ (passes N pc n k ≡ passes N pc (suc n) k)
framed N pc n l f nest i hu hv flat k lt ne = go (around_or N k l.header)
  where
    not_at : (m : Level) → Among N m → m.depth ≡ k → has m.body l.header ≡ true → (pc (suc n) ≢ l.header) ⊎ (k ≢ l.depth) → pc (suc n) ≢ m.header
    not_at m im d h (inl ne) e = ne (e ∙ sym (ap (λ (z : Level). z.header) (nest.bodies.apart l m i im h (subst (λ x. has l.body x ≡ true) e hv))))
    not_at m im d h (inr ne) e = ne (sym d ∙ sym (ap (λ (z : Level). z.depth) (nest.bodies.apart l m i im h (subst (λ x. has l.body x ≡ true) e hv))))

    go : ((m : Level) × Among N m × (m.depth ≡ k) × (has m.body l.header ≡ true)) ⊎ ((m : Level) → Among N m → m.depth ≡ k → has m.body l.header ≡ false) → (stride f k ≡ pos 0) ⊎ (passes N pc n k ≡ passes N pc (suc n) k)
    go (inl m) = inr (subst (λ z. passes N pc n z ≡ passes N pc (suc n) z) m.2
        (time_stays N pc n m.0 nest m.1 (nest.bodies.nested l m.0 i m.1 m.3 (pc n) hu) (nest.bodies.nested l m.0 i m.1 m.3 (pc (suc n)) hv) (not_at m.0 m.1 m.2 m.3 ne)))
    go (inr none) = inl (flat k lt none)

-- a form at the header, after one more word of the loop
frame_after : (N : Nest) (W : Words) (at : ℕ → ℕ → Option LinearForm) (pc : ℕ → ℕ) (value : Values) (n r : ℕ) (f : LinearForm) (s : ℤ) (ys : List ℕ) → Does N W at pc value n → HoldForms N at pc value n
    → (W.writes (pc n) r ≡ true → W.after (pc n) (at (pc n)) r ≡ Some (plus_constant f s))
    → Alike (value n r) (exact f (value 0) (passes N pc n) +ℤ s *ℤ flag (some_writes W ys r))
    → Alike (value (suc n) r) (exact f (value 0) (passes N pc n) +ℤ s *ℤ flag (some_writes W (pc n ∷ ys) r))
frame_after N W at pc value n r f s ys does holds confirmed before = go (W.writes (pc n) r) refl
  where
    go : (b : Bool) → W.writes (pc n) r ≡ b → Alike (value (suc n) r) (exact f (value 0) (passes N pc n) +ℤ s *ℤ flag (b || some_writes W ys r))
    go true e = alike_trans _ _ _ (does.right holds r (plus_constant f s) (confirmed e)) (alike_from _ _ (exact_plus f s (value 0) (passes N pc n) ∙ omega (arith, ints)))
    go false e = subst (λ x. Alike x (exact f (value 0) (passes N pc n) +ℤ s *ℤ flag (some_writes W ys r))) (sym (does.kept r e)) before

pub good_start : (N : Nest) (W : Words) (S : Steps) (at : ℕ → ℕ → Option LinearForm) (pc : ℕ → ℕ) (value : Values) → IsNest N → Solution N W S at → pc 0 ≡ N.root.header → value 0 0 ≡ pos 0
    → Good N W S at pc value 0
good_start N W S at pc value nest forms start none =
    record {
      way = λ l i h. start ∙ ap (λ (z : Level). z.header) (root_only l i h);
      holds = λ r f e. (at_root r f (moved e)).0;
      flat = λ r f e. subst (λ x. Flat N x f) (sym start) (at_root r f (moved e)).1;
      known = λ l i h r f e. subst (λ (z : Level). at z.header r ≡ Some f → Known N z (S z r) f) (root_only l i h) (known_root r f) e;
      frames = λ l i h r f e. subst (λ (z : Level). at z.header r ≡ Some f → Alike (value 0 r) (exact f (value 0) (passes N pc 0) +ℤ S z r *ℤ pos 0)) (root_only l i h)
          (λ e. alike_trans _ _ _ (at_root r f e).0 (alike_from _ _ (omega (arith, ints)))) e;
    }
  where
    root_only : (l : Level) → Among N l → has l.body (pc 0) ≡ true → N.root ≡ l
    root_only l i h =
        let h' : has l.body N.root.header ≡ true = subst (λ x. has l.body x ≡ true) start h in
        nest.bodies.apart N.root l (inl refl) i h' (nest.bodies.within l i l.header (nest.bodies.header l i))

    moved : {r : ℕ} {f : LinearForm} → at (pc 0) r ≡ Some f → at N.root.header r ≡ Some f
    moved {r = r} {f = f} e = subst (λ x. at x r ≡ Some f) start e

    zero_time : (k : ℕ) → passes N pc 0 k ≡ 0
    zero_time k = go (around (levels N) k (pc 0))
      where
        go : (o : Option Level) → pass_in o pc 0 ≡ 0
        go None = refl
        go (Some l) = refl

    -- an entry value has its location's value, and no stride
    entry_value : (r : ℕ) (g : LinearForm) → IsEntry r g → exact g (value 0) (passes N pc 0) ≡ value 0 r
    entry_value r g (inl q) = ap (λ f. exact f (value 0) (passes N pc 0)) q ∙ omega (arith, ints)
    entry_value r g (inr q) = ap (λ f. exact f (value 0) (passes N pc 0)) q.1 ∙ exact-pure (pos 0) (value 0) (passes N pc 0) ∙ sym (ap (value 0) q.0 ∙ none)

    entry_stride : (r : ℕ) (g : LinearForm) (k : ℕ) → IsEntry r g → stride g k ≡ pos 0
    entry_stride r g k (inl q) = ap (λ f. stride f k) q ∙ of_moving k
      where
        of_moving : (k : ℕ) → stride (moving r (pos 0)) k ≡ pos 0
        of_moving zero = refl
        of_moving (suc zero) = refl
        of_moving (suc (suc zero)) = refl
        of_moving (suc (suc (suc k))) = refl
    entry_stride r g k (inr q) = ap (λ f. stride f k) q.1 ∙ of_pure k
      where
        of_pure : (k : ℕ) → stride (pure (pos 0)) k ≡ pos 0
        of_pure zero = refl
        of_pure (suc zero) = refl
        of_pure (suc (suc zero)) = refl
        of_pure (suc (suc (suc k))) = refl

    at_root : (r : ℕ) (f : LinearForm) → at N.root.header r ≡ Some f → Alike (value 0 r) (exact f (value 0) (passes N pc 0)) × Flat N N.root.header f
    at_root r f e =
        let g = forms.root r f e in
        let z = S N.root r in
        let a : z *ℤ pos (passes N pc 0 0) ≡ z *ℤ pos 0 = ap (λ m. z *ℤ pos m) (zero_time 0) in
        let b = exact_step g.0 0 z (value 0) (passes N pc 0) (omega arith) in
        let c = entry_value r g.0 g.1 in
        let x : exact (with_step g.0 0 z) (value 0) (passes N pc 0) ≡ value 0 r = b ∙ omega (arith, ints) in
        (alike_from _ _ (sym (ap (λ f. exact f (value 0) (passes N pc 0)) g.2 ∙ x)), flat_at g.0 g.1 g.2)
      where
        flat_at : (g : LinearForm) → IsEntry r g → f ≡ with_step g 0 (S N.root r) → Flat N N.root.header f
        flat_at g i q zero lt alone = absurd (yes_no _ (nest.bodies.header N.root (inl refl)) (alone N.root (inl refl) nest.bodies.outermost))
        flat_at g i q (suc k) lt alone = ap (λ h. stride h (suc k)) q ∙ stride_step_other g 0 (suc k) (S N.root r) (λ e. absurd (omega arith)) ∙ entry_stride r g (suc k) i

    known_root : (r : ℕ) (f : LinearForm) → at N.root.header r ≡ Some f → Known N N.root (S N.root r) f
    known_root r f e =
        let g = forms.root r f e in
        let z = S N.root r in
        let c = entry_stride r g.0 0 g.1 in
        let x : stride g.0 0 +ℤ z ≡ z = ap (λ y. y +ℤ z) c ∙ omega (arith, ints) in
        record {
          flat = (at_root r f e).1;
          step = ap (λ f. stride f N.root.depth) g.2 ∙ ap (λ d. stride (with_step g.0 0 z) d) nest.bodies.outermost ∙ stride_step_same g.0 0 z (omega arith) ∙ x;
        }

pub good_step : (N : Nest) (W : Words) (S : Steps) (at : ℕ → ℕ → Option LinearForm) (pc : ℕ → ℕ) (value : Values) (n : ℕ) → IsNest N → Solution N W S at → IsFlat W at
    → Edge N N.root.body (pc n) (pc (suc n)) → Does N W at pc value n → Good N W S at pc value n → Good N W S at pc value (suc n)
good_step N W S at pc value n nest forms keeps_flat edge does g =
    record { way = way; holds = holds; flat = flat; known = known; frames = frames }
  where
    u : ℕ
    u = pc n

    v : ℕ
    v = pc (suc n)

    entry : ℕ → ℤ
    entry = value 0

    t : ℕ → ℕ
    t = passes N pc n

    t' : ℕ → ℕ
    t' = passes N pc (suc n)

    after_flat : (r : ℕ) (f : LinearForm) → W.after u (at u) r ≡ Some f → Flat N u f
    after_flat r f e k lt none = keeps_flat u k (λ q h i. g.flat q h i k lt none) r f e

    passed_back : (l : Level) → v ≡ l.header → passed l pc (suc n) ≡ []
    passed_back l e = ap (λ b. if b then [] else u ∷ passed l pc n) (is_eq _ _ e)

    passed_on : (l : Level) → v ≢ l.header → passed l pc (suc n) ≡ u ∷ passed l pc n
    passed_on l e = ap (λ b. if b then [] else u ∷ passed l pc n) (is_ne _ _ e)

    inner_of : (l : Level) → Among N l → has l.body u ≡ false → In N.inner l
    inner_of l (inl e) h = absurd (yes_no _ edge.from (subst (λ (z : Level). has z.body u ≡ false) (sym e) h))
    inner_of l (inr i) h = i

    -- a loop that is entered here
    entered : (l : Level) → Among N l → has l.body u ≡ false → has l.body v ≡ true → (r : ℕ) (f : LinearForm) → at l.header r ≡ Some f
        → Alike (value (suc n) r) (exact f entry t') × Known N l (S l r) f
    entered l i hu hv r f e = (
      alike_trans _ _ _ now (alike_from _ _ (exact_same h entry t t' stays ∙ sym (ap (λ z. exact z entry t') is ∙ exact_step h l.depth (S l r) entry t' lt ∙ ap (λ m. exact h entry t' +ℤ S l r *ℤ pos m) time ∙ omega (arith, ints)))),
      record { flat = flat_f; step = ap (λ z. stride z l.depth) is ∙ stride_step_same h l.depth (S l r) lt ∙ ap (λ z. z +ℤ S l r) none ∙ omega (arith, ints) },
    )
      where
        q : v ≡ l.header
        q = nest.bodies.enter l i u v edge hu hv

        lt : l.depth < 3
        lt = nest.bodies.depth l i

        inn : In N.inner l
        inn = inner_of l i hu

        h : LinearForm
        h = (forms.inner l inn r f e).0

        is : f ≡ with_step h l.depth (S l r)
        is = (forms.inner l inn r f e).2

        came : (W.after u (at u) r ≡ Some h) × Carries N u l.header h
        came = forms.entering l inn r u h (forms.inner l inn r f e).1 (subst (λ x. Edge N N.root.body u x) q edge) hu

        carries : Carries N u v h
        carries = subst (λ x. Carries N u x h) (sym q) came.1

        now : Alike (value (suc n) r) (exact h entry t)
        now = does.right g.holds r h came.0

        flat_h : Flat N u h
        flat_h = after_flat r h came.0

        ahead : (m : Level) → Among N m → has m.body u ≡ true → has m.body v ≡ true → v ≢ m.header
        ahead m im mu mv e =
            yes_no _ mu (subst (λ (z : Level). has z.body u ≡ false) (nest.bodies.apart l m i im (subst (λ x. has m.body x ≡ true) q mv) (subst (λ x. has l.body x ≡ true) e hv)) hu)

        stays : (k : ℕ) → k < 3 → (stride h k ≡ pos 0) ⊎ (t k ≡ t' k)
        stays = carried N pc n h nest flat_h carries ahead

        time : t' l.depth ≡ 0
        time = time_at N l pc (suc n) nest i hv ∙ ap (λ b. if b then (if has l.body u then suc (pass l pc n) else 0) else pass l pc n) (is_eq _ _ q) ∙ ap (λ b. if b then suc (pass l pc n) else 0) hu

        none : stride h l.depth ≡ pos 0
        none = gone N u v l.depth h lt flat_h carries (λ m im dm mu. by m im dm mu (true_or_false (has m.body v)))
          where
            by : (m : Level) → Among N m → m.depth ≡ l.depth → has m.body u ≡ true → (has m.body v ≡ true) ⊎ (has m.body v ≡ false) → has m.body v ≡ false
            by m im dm mu (inl mv) = absurd (yes_no _ mu (subst (λ (z : Level). has z.body u ≡ false) (nest.bodies.alone l m i im (sym dm) v hv mv) hu))
            by m im dm mu (inr mv) = mv

        flat_f : Flat N l.header f
        flat_f k ltk out = by (k == l.depth) refl
          where
            by : (b : Bool) → (k == l.depth) ≡ b → stride f k ≡ pos 0
            by true d = absurd (yes_no _ (nest.bodies.header l i) (out l i (sym (eq_of _ _ d))))
            by false d = ap (λ z. stride z k) is ∙ stride_step_other h l.depth k (S l r) (ne_of _ _ d)
                ∙ gone N u v k h ltk flat_h carries (λ m im dm mu. subst (λ x. has m.body x ≡ false) (sym q) (out m im dm))

    known : (l : Level) → Among N l → has l.body v ≡ true → (r : ℕ) (f : LinearForm) → at l.header r ≡ Some f → Known N l (S l r) f
    known l i hv r f e = by (true_or_false (has l.body u))
      where
        by : (has l.body u ≡ true) ⊎ (has l.body u ≡ false) → Known N l (S l r) f
        by (inl hu) = g.known l i hu r f e
        by (inr hu) = (entered l i hu hv r f e).1

    within : (l : Level) → has l.body u ≡ true → has l.body v ≡ true → Edge N l.body u v
    within l hu hv = record { from = hu; to = hv; leads = edge.leads }

    frames : (l : Level) → Among N l → has l.body v ≡ true → (r : ℕ) (f : LinearForm) → at l.header r ≡ Some f
        → Alike (value (suc n) r) (exact f entry t' +ℤ S l r *ℤ flag (some_writes W (passed l pc (suc n)) r))
    frames l i hv r f e = by (true_or_false (has l.body u)) (true_or_false (v == l.header))
      where
        at_rest : Alike (value (suc n) r) (exact f entry t') → v ≡ l.header → Alike (value (suc n) r) (exact f entry t' +ℤ S l r *ℤ flag (some_writes W (passed l pc (suc n)) r))
        at_rest a q = alike_trans _ _ _ a (alike_from _ _ (omega (arith, ints, ap (λ ys. S l r *ℤ flag (some_writes W ys r)) (passed_back l q))))

        closing : has l.body u ≡ true → v ≡ l.header → (S l r ≡ pos 0) ⊎ (some_writes W (u ∷ passed l pc n) r ≡ true)
            → Alike (value (suc n) r) (exact f entry t +ℤ S l r *ℤ flag (some_writes W (u ∷ passed l pc n) r)) → Alike (value (suc n) r) (exact f entry t')
        closing hu q all a = alike_trans _ _ _ a (alike_from _ _ (part all ∙ sym grown))
          where
            time : t' l.depth ≡ suc (t l.depth)
            time = time_at N l pc (suc n) nest i hv ∙ ap (λ b. if b then (if has l.body u then suc (pass l pc n) else 0) else pass l pc n) (is_eq _ _ q) ∙ ap (λ b. if b then suc (pass l pc n) else 0) hu ∙ ap suc (sym (time_at N l pc n nest i hu))

            k : Known N l (S l r) f
            k = g.known l i hu r f e

            grown : exact f entry t' ≡ exact f entry t +ℤ S l r
            grown = exact_more f entry t t' l.depth (S l r) (nest.bodies.depth l i) k.step time (λ d lt ne. framed N pc n l f nest i hu hv k.flat d lt (inr ne))

            part : (S l r ≡ pos 0) ⊎ (some_writes W (u ∷ passed l pc n) r ≡ true) → exact f entry t +ℤ S l r *ℤ flag (some_writes W (u ∷ passed l pc n) r) ≡ exact f entry t +ℤ S l r
            part (inl z) = ap (λ s. exact f entry t +ℤ s *ℤ flag (some_writes W (u ∷ passed l pc n) r)) z ∙ ap (λ x. exact f entry t +ℤ x) (zero_flag (some_writes W (u ∷ passed l pc n) r) ∙ sym z)
              where
                zero_flag : (b : Bool) → pos 0 *ℤ flag b ≡ pos 0
                zero_flag true = omega (arith, ints)
                zero_flag false = omega (arith, ints)
            part (inr z) = ap (λ b. exact f entry t +ℤ S l r *ℤ flag b) z ∙ omega (arith, ints)

        by : (has l.body u ≡ true) ⊎ (has l.body u ≡ false) → ((v == l.header) ≡ true) ⊎ ((v == l.header) ≡ false) → Alike (value (suc n) r) (exact f entry t' +ℤ S l r *ℤ flag (some_writes W (passed l pc (suc n)) r))
        by (inr hu) b = at_rest (entered l i hu hv r f e).0 (nest.bodies.enter l i u v edge hu hv)
        by (inl hu) (inl b) =
            let q = eq_of v l.header b in
            let a = frame_after N W at pc value n r f (S l r) (passed l pc n) does g.holds (λ w. forms.confirmed l i u r f hu w e) (g.frames l i hu r f e) in
            let whole : IsPass N l (u ∷ passed l pc n) = (subst (λ x. Edge N l.body u x) q (within l hu hv), g.way l i hu) in
            at_rest (closing hu q (forms.always l i (u ∷ passed l pc n) whole r f e) a) q
        by (inl hu) (inr b) =
            let ne = ne_of v l.header b in
            let a = frame_after N W at pc value n r f (S l r) (passed l pc n) does g.holds (λ w. forms.confirmed l i u r f hu w e) (g.frames l i hu r f e) in
            let k = g.known l i hu r f e in
            let x = exact_same f entry t t' (λ d lt. framed N pc n l f nest i hu hv k.flat d lt (inl ne)) in
            subst (λ ys. Alike (value (suc n) r) (exact f entry t' +ℤ S l r *ℤ flag (some_writes W ys r))) (sym (passed_on l ne))
            (subst (λ z. Alike (value (suc n) r) (z +ℤ S l r *ℤ flag (some_writes W (u ∷ passed l pc n) r))) x a)

    way : (l : Level) → Among N l → has l.body v ≡ true → IsPassTo N l (passed l pc (suc n)) v
    way l i hv = by (true_or_false (v == l.header)) (true_or_false (has l.body u))
      where
        by : ((v == l.header) ≡ true) ⊎ ((v == l.header) ≡ false) → (has l.body u ≡ true) ⊎ (has l.body u ≡ false) → IsPassTo N l (passed l pc (suc n)) v
        by (inl b) h = let q = eq_of v l.header b in subst (λ ys. IsPassTo N l ys v) (sym (passed_back l q)) q
        by (inr b) (inl hu) = let ne = ne_of v l.header b in subst (λ ys. IsPassTo N l ys v) (sym (passed_on l ne)) (within l hu hv, ne, g.way l i hu)
        by (inr b) (inr hu) = absurd (ne_of v l.header b (nest.bodies.enter l i u v edge hu hv))

    both : (r : ℕ) (f : LinearForm) → at v r ≡ Some f → Alike (value (suc n) r) (exact f entry t') × Flat N v f
    both r f e = by (header_or (levels N) v)
      where
        by : ((l : Level) × In (levels N) l × (v ≡ l.header)) ⊎ ((l : Level) → In (levels N) l → v ≢ l.header) → Alike (value (suc n) r) (exact f entry t') × Flat N v f
        by (inl l) =
            let q = l.2 in
            let hv : has (l.0).body v ≡ true = subst (λ x. has (l.0).body x ≡ true) (sym q) (nest.bodies.header l.0 l.1) in
            let e' : at (l.0).header r ≡ Some f = subst (λ x. at x r ≡ Some f) q e in
            let a = frames l.0 l.1 hv r f e' in
            let z = ap (λ ys. S l.0 r *ℤ flag (some_writes W ys r)) (passed_back l.0 q) in (
              alike_trans _ _ _ a (alike_from _ _ (ap (λ x. exact f entry t' +ℤ x) z ∙ omega (arith, ints))),
              subst (λ x. Flat N x f) (sym q) (known l.0 l.1 hv r f e').flat,
            )
        by (inr none) =
            let c = forms.met v r f edge.to none e u edge in
            let fl = after_flat r f c.0 in (
              alike_trans _ _ _ (does.right g.holds r f c.0) (alike_from _ _ (exact_same f entry t t' (carried N pc n f nest fl c.1 (λ m im mu mv. none m im)))),
              (λ k lt out. gone N u v k f lt fl c.1 (λ m im dm mu. out m im dm)),
            )

    holds : HoldForms N at pc value (suc n)
    holds r f e = (both r f e).0

    flat : (r : ℕ) (f : LinearForm) → at v r ≡ Some f → Flat N v f
    flat r f e = (both r f e).1

-- the law up to a visit: what the words before it do is right, so its forms hold
pub good_at : (N : Nest) (W : Words) (S : Steps) (at : ℕ → ℕ → Option LinearForm) (pc : ℕ → ℕ) (value : Values) (n : ℕ) → IsNest N → Solution N W S at → IsFlat W at
    → Inside N pc n → value 0 0 ≡ pos 0 → ((m : ℕ) → m < n → Does N W at pc value m) → Good N W S at pc value n
good_at N W S at pc value zero nest forms flat inside none does = good_start N W S at pc value nest forms inside.start none
good_at N W S at pc value (suc n) nest forms flat inside none does =
    good_step N W S at pc value n nest forms flat (edge_of N pc n inside) (does n (omega arith))
    (good_at N W S at pc value n nest forms flat (inside_less N pc n inside) none (λ m lt. does m (omega arith)))

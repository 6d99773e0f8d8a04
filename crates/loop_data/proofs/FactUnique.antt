-- The facts at the words of a loop are the only ones that its equations have.
use Rattle.std.proofs.Common.{◌≡◌, ◌≢◌, ℕ, zero, suc, ◌<◌, ◌⊎◌, ◌↔◌, inl, inr, ◌==◌, ◌||◌, ◌&&◌, Bool, true, false, if◌then◌else◌, List, [], ◌∷◌, Option, Some, None, refl, ap, sym, ◌∙◌, subst, arith}
use Rattle.std.proofs.lemmas.Bool.{cases_eq}
use mathlib.Core.Path.{fun_ext}
use Rattle.loop_data.specs.declared.shape.Level.{Level}
use Rattle.loop_data.specs.Nests.{Nest, has, In, levels, Among, Holds, IsNest}
use Rattle.loop_data.specs.LoopCode.{LoopCode, writes, any_writes, IsWritten, IsForwardIn, LiesIn}
use Rattle.loop_data.specs.Facts.{Fact, fact_after}
use Rattle.loop_data.specs.FactPass.{IsKeptAt, AreFacts}
use Rattle.loop_data.specs.ValueStates.{lost_by}
use Rattle.loop_data.proofs.Tests.{eq_of, true_or_false, and_true}

pub some_writes_it : (B : LoopCode) (us : List ℕ) (r : ℕ) → any_writes B us r ≡ true → (u : ℕ) × (has us u ≡ true) × (writes B u r ≡ true)
some_writes_it B [] r e = absurd (cc)
some_writes_it B (x ∷ xs) r e = go (writes B x r) refl e (some_writes_it B xs r)
  where
    later : (u : ℕ) → has xs u ≡ true → has (x ∷ xs) u ≡ true
    later u h = by (x == u)
      where
        by : (b : Bool) → (if b then true else has xs u) ≡ true
        by true = refl
        by false = h

    here : has (x ∷ xs) x ≡ true
    here = ap (λ b. if b then true else has xs x) (Rattle.loop_data.proofs.Tests.is_eq x x refl)

    go : (b : Bool) → writes B x r ≡ b → (b || any_writes B xs r) ≡ true → (any_writes B xs r ≡ true → (u : ℕ) × (has xs u ≡ true) × (writes B u r ≡ true)) → (u : ℕ) × (has (x ∷ xs) u ≡ true) × (writes B u r ≡ true)
    go true w f rest = (x, here, w)
    go false w f rest = let s = rest f in (s.0, later s.0 s.1, s.2)

pub none_writes_it : (B : LoopCode) (us : List ℕ) (r u : ℕ) → any_writes B us r ≡ false → has us u ≡ true → writes B u r ≡ false
none_writes_it B [] r u e h = absurd (cc)
none_writes_it B (x ∷ xs) r u e h = go (writes B x r) refl e (x == u) refl h (none_writes_it B xs r u)
  where
    go : (b : Bool) → writes B x r ≡ b → (b || any_writes B xs r) ≡ false → (c : Bool) → (x == u) ≡ c → (if c then true else has xs u) ≡ true → (any_writes B xs r ≡ false → has xs u ≡ true → writes B u r ≡ false) → writes B u r ≡ false
    go true w f c g h later = absurd (cc)
    go false w f true g h later = subst (λ y. writes B y r ≡ false) (eq_of x u g) w
    go false w f false g h later = later f h

pub lost_somewhere : (B : LoopCode) (ls : List Level) (v r : ℕ) → lost_by B ls v r ≡ true → (m : Level) × In ls m × (v ≡ m.header) × (any_writes B m.body r ≡ true)
lost_somewhere B [] v r e = absurd (cc)
lost_somewhere B (x ∷ xs) v r e = go ((x.header == v) && any_writes B x.body r) refl e (lost_somewhere B xs v r)
  where
    go : (b : Bool) → ((x.header == v) && any_writes B x.body r) ≡ b → (b || lost_by B xs v r) ≡ true → (lost_by B xs v r ≡ true → (m : Level) × In xs m × (v ≡ m.header) × (any_writes B m.body r ≡ true)) → (m : Level) × In (x ∷ xs) m × (v ≡ m.header) × (any_writes B m.body r ≡ true)
    go true f g rest = let a = and_true (x.header == v) (any_writes B x.body r) f in (x, inl refl, sym (eq_of x.header v a.0), a.1)
    go false f g rest = let s = rest g in (s.0, inr s.1, s.2, s.3)

pub lost_nowhere : (B : LoopCode) (ls : List Level) (v r : ℕ) → lost_by B ls v r ≡ false → (m : Level) → In ls m → v ≡ m.header → any_writes B m.body r ≡ false
lost_nowhere B [] v r e m i h = absurd i
lost_nowhere B (x ∷ xs) v r e m i h = go (x.header == v) refl (any_writes B x.body r) refl e i (λ f j. lost_nowhere B xs v r f m j h)
  where
    go : (a : Bool) → (x.header == v) ≡ a → (b : Bool) → any_writes B x.body r ≡ b → ((a && b) || lost_by B xs v r) ≡ false → (x ≡ m) ⊎ In xs m → (lost_by B xs v r ≡ false → In xs m → any_writes B m.body r ≡ false) → any_writes B m.body r ≡ false
    go true f true g e i later = absurd (cc)
    go true f false g e (inl q) later = subst (λ (z : Level). any_writes B z.body r ≡ false) q g
    go true f false g e (inr j) later = later e j
    go false f b g e (inl q) later = absurd (Rattle.loop_data.proofs.Tests.ne_of x.header v f (ap (λ (z : Level). z.header) q ∙ sym h))
    go false f b g e (inr j) later = later e j

-- two options that are the same thing wherever one is something
pub same_option : {A : Type 0} (o p : Option A) → ((x : A) → (o ≡ Some x) ↔ (p ≡ Some x)) → o ≡ p
same_option None None f = refl
same_option None (Some y) f = (f y).1 refl
same_option (Some x) p f = sym ((f x).0 refl)

module _ (N : Nest) (B : LoopCode) (l : Level) (nest : IsNest N) (among : Among N l) (V W : ℕ → ℕ → Option Fact) (first : AreFacts N B l V) (second : AreFacts N B l W) where
  lies : (v : ℕ) (m : Level) → Among N m → Holds l v → v ≢ l.header → v ≡ m.header → LiesIn N l m
  lies v m i h ne e = record { among = i; header = subst (λ u. has l.body u ≡ true) e h; other = λ q. ne (e ∙ ap (λ (z : Level). z.header) q) }

  same_at : (v r : ℕ) → Holds l v → ((u : ℕ) → IsForwardIn N l.body u v → V u ≡ W u) → V v r ≡ W v r
  same_at v r h before = by (cases_eq v l.header)
    where
      other : v ≢ l.header → (b : Bool) → lost_by B (levels N) v r ≡ b → V v r ≡ W v r
      other ne true f =
          let s = lost_somewhere B (levels N) v r f in
          let w = some_writes_it B (s.0).body r s.3 in
          let i = lies v s.0 s.1 h ne s.2 in
          let written : IsWritten B s.0 r = record { word = w.0; inside = w.1; does = w.2 } in
          ap (λ u. V u r) s.2 ∙ first.lost s.0 i r written ∙ sym (ap (λ u. W u r) s.2 ∙ second.lost s.0 i r written)
      other ne false f = same_option (V v r) (W v r) (λ x. (λ e. (second.met v r x h ne kept).1 (λ u g. subst (λ S. fact_after B u S r ≡ Some x) (before u g) ((first.met v r x h ne kept).0 e u g)), λ e. (first.met v r x h ne kept).1 (λ u g. subst (λ S. fact_after B u S r ≡ Some x) (sym (before u g)) ((second.met v r x h ne kept).0 e u g))))
        where
          kept : IsKeptAt N B l v r
          kept m i e u hu = none_writes_it B m.body r u (lost_nowhere B (levels N) v r f m i.among e) hu

      by : (v ≡ l.header) ⊎ (v ≢ l.header) → V v r ≡ W v r
      by (inl e) = ap (λ u. V u r) e ∙ first.header r ∙ sym (ap (λ u. W u r) e ∙ second.header r)
      by (inr ne) = other ne (lost_by B (levels N) v r) refl

  same_below : (n v : ℕ) → nest.shapes.ranked.rank v < n → Holds l v → V v ≡ W v
  same_below zero v lt h = absurd (omega arith)
  same_below (suc n) v lt h = fun_ext (λ r. same_at v r h (λ u f. same_below n u (let k = rises u f in omega arith) f.edge.from))
    where
      rises : (u : ℕ) → IsForwardIn N l.body u v → nest.shapes.ranked.rank u < nest.shapes.ranked.rank v
      rises u f = nest.shapes.ranked.is.up u v (record { from = nest.bodies.within l among u f.edge.from; to = nest.bodies.within l among v f.edge.to; leads = f.edge.leads }) f.closes

  pub one_pass : (v : ℕ) → Holds l v → (r : ℕ) → V v r ≡ W v r
  one_pass v h r = ap (λ S. S r) (same_below (suc (nest.shapes.ranked.rank v)) v (omega arith) h)

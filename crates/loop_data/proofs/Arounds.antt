-- The loop of a depth round a word, and its pass.
use Rattle.std.proofs.Common.{◌≡◌, ℕ, ◌⊎◌, inl, inr, List, [], ◌∷◌, Bool, true, false, Option, Some, None, refl, ap, ◌∙◌, subst, if◌then◌else◌, ◌==◌}
use Rattle.loop_data.specs.declared.shape.Level.{Level}
use Rattle.loop_data.specs.Nests.{Nest, has, In, levels, Among, around, IsNest}
use Rattle.loop_data.specs.Passes.{pass, pass_in, passes}
use Rattle.loop_data.proofs.Tests.{eq_of, ne_of}

pub around_is : (ls : List Level) (k x : ℕ) (l : Level) → around ls k x ≡ Some l → In ls l × (l.depth ≡ k) × (has l.body x ≡ true)
around_is [] k x l e = absurd (cc)
around_is (m ∷ ms) k x l e = go (m.depth == k) (has m.body x) refl refl e (around_is ms k x l)
  where
    up : In ms l × (l.depth ≡ k) × (has l.body x ≡ true) → In (m ∷ ms) l × (l.depth ≡ k) × (has l.body x ≡ true)
    up r = (inr r.0, r.1, r.2)

    go : (a b : Bool) → (m.depth == k) ≡ a → has m.body x ≡ b → (if a then (if b then Some m else around ms k x) else around ms k x) ≡ Some l
        → (around ms k x ≡ Some l → In ms l × (l.depth ≡ k) × (has l.body x ≡ true)) → In (m ∷ ms) l × (l.depth ≡ k) × (has l.body x ≡ true)
    go true true f g e later =
        let i : m ≡ l = cc in
        (inl i, subst (λ (z : Level). z.depth ≡ k) i (eq_of _ _ f), subst (λ (z : Level). has z.body x ≡ true) i g)
    go true false f g e later = up (later e)
    go false b f g e later = up (later e)

pub around_none : (ls : List Level) (k x : ℕ) → around ls k x ≡ None → (l : Level) → In ls l → l.depth ≡ k → has l.body x ≡ false
around_none [] k x e l i d = absurd i
around_none (m ∷ ms) k x e l i d = go (m.depth == k) (has m.body x) refl refl e i (λ e j. around_none ms k x e l j d)
  where
    here : m ≡ l → (m.depth == k) ≡ false → ⊥
    here q f = ne_of _ _ f (ap (λ (z : Level). z.depth) q ∙ d)

    go : (a b : Bool) → (m.depth == k) ≡ a → has m.body x ≡ b → (if a then (if b then Some m else around ms k x) else around ms k x) ≡ None → ((m ≡ l) ⊎ In ms l)
        → (around ms k x ≡ None → In ms l → has l.body x ≡ false) → has l.body x ≡ false
    go true true f g e i later = absurd (cc)
    go true false f g e (inl q) later = subst (λ (z : Level). has z.body x ≡ false) q g
    go true false f g e (inr j) later = later e j
    go false b f g e (inl q) later = absurd (here q f)
    go false b f g e (inr j) later = later e j

pub around_found : (N : Nest) (l : Level) (x : ℕ) → IsNest N → Among N l → has l.body x ≡ true → around (levels N) l.depth x ≡ Some l
around_found N l x nest i h = go (around (levels N) l.depth x) refl
  where
    go : (o : Option Level) → around (levels N) l.depth x ≡ o → o ≡ Some l
    go None e = let k = around_none (levels N) l.depth x e l i refl in absurd (cc)
    go (Some m) e = let r = around_is (levels N) l.depth x m e in ap Some (nest.bodies.alone m l r.0 i r.1 x r.2 h)

pub time_at : (N : Nest) (l : Level) (pc : ℕ → ℕ) (n : ℕ) → IsNest N → Among N l → has l.body (pc n) ≡ true → passes N pc n l.depth ≡ pass l pc n
time_at N l pc n nest i h = ap (λ o. pass_in o pc n) (around_found N l (pc n) nest i h)

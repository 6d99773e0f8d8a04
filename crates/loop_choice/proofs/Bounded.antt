-- The passes of the inner loops stay within the trips' numbers.
use Rattle.std.proofs.Common.{◌≡◌, ℕ, suc, ◌<◌, ◌≤◌, ◌⊎◌, inl, inr, [], ◌∷◌, Bool, true, false, refl, ap, sym, ◌∙◌, subst, arith, if◌then◌else◌, ◌==◌}
use Rattle.loop_data.specs.declared.shape.Level.{Level}
use Rattle.loop_data.specs.Nests.{Nest, has, In, Among, Edge, IsPassTo, IsPass, IsNest}
use Rattle.loop_data.specs.Passes.{pass, passed}
use Rattle.loop_data.proofs.Tests.{eq_of, ne_of, true_or_false, yes_no}

-- an inner loop leaves at the pass that its trip names, where it comes to the exit branch
abbrev pub Leaves : Nest → (Level → ℕ) → (ℕ → ℕ) → ℕ → Type 0
Leaves N last pc n = (l : Level) → In N.inner l → pc n ≡ l.exit → has l.body (pc n) ≡ true → pass l pc n ≡ last l → has l.body (pc (suc n)) ≡ false

-- the passes so far
pub record Bounded (N : Nest) (last : Level → ℕ) (pc : (ℕ → ℕ)) (n : ℕ) : Type 0 where
  pub passes : (l : Level) → In N.inner l → has l.body (pc n) ≡ true → pass l pc n ≤ last l
  pub stayed : (l : Level) → In N.inner l → has l.body (pc n) ≡ true → has (passed l pc n) l.exit ≡ true → pass l pc n < last l

pub bounded_start : (N : Nest) (last : Level → ℕ) (pc : (ℕ → ℕ)) → Bounded N last pc 0
bounded_start N last pc = record { passes = λ l i h. omega arith; stayed = λ l i h e. absurd (cc) }

pub bounded_step : (N : Nest) (last : Level → ℕ) (pc : (ℕ → ℕ)) (n : ℕ) → IsNest N → Edge N N.root.body (pc n) (pc (suc n))
    → ((l : Level) → Among N l → has l.body (pc n) ≡ true → IsPassTo N l (passed l pc n) (pc n)) → Leaves N last pc n → Bounded N last pc n → Bounded N last pc (suc n)
bounded_step N last pc n nest edge ways leaves b =
    record { passes = λ l i hv. (both l i hv).0; stayed = λ l i hv. (both l i hv).1 }
  where
    u : ℕ
    u = pc n

    v : ℕ
    v = pc (suc n)

    -- where the exit branch has been passed in this pass, it was not the last
    before : (l : Level) → In N.inner l → has l.body u ≡ true → has l.body v ≡ true → has (u ∷ passed l pc n) l.exit ≡ true → pass l pc n < last l
    before l i hu hv = go (u == l.exit) refl
      where
        go : (c : Bool) → (u == l.exit) ≡ c → (if c then true else has (passed l pc n) l.exit) ≡ true → pass l pc n < last l
        go true e h =
            let le = b.passes l i hu in
            by (true_or_false (pass l pc n == last l)) le
          where
            by : ((pass l pc n == last l) ≡ true) ⊎ ((pass l pc n == last l) ≡ false) → pass l pc n ≤ last l → pass l pc n < last l
            by (inl q) le = absurd (yes_no _ hv (leaves l i (eq_of _ _ e) hu (eq_of _ _ q)))
            by (inr q) le = let ne = ne_of _ _ q in omega arith
        go false e h = b.stayed l i hu h

    both : (l : Level) → In N.inner l → has l.body v ≡ true → (pass l pc (suc n) ≤ last l) × (has (passed l pc (suc n)) l.exit ≡ true → pass l pc (suc n) < last l)
    both l i hv = go (true_or_false (v == l.header)) (true_or_false (has l.body u))
      where
        go : ((v == l.header) ≡ true) ⊎ ((v == l.header) ≡ false) → (has l.body u ≡ true) ⊎ (has l.body u ≡ false) → (pass l pc (suc n) ≤ last l) × (has (passed l pc (suc n)) l.exit ≡ true → pass l pc (suc n) < last l)
        go (inl e) (inl hu) =
            let q = eq_of v l.header e in
            let whole : IsPass N l (u ∷ passed l pc n) = (record { from = hu; to = nest.bodies.header l (inr i); leads = subst (λ x. N.leads u x ≡ true) q edge.leads }, ways l (inr i) hu) in
            let lt = before l i hu hv (nest.shapes.exits_lie l (inr i) (u ∷ passed l pc n) whole) in
            let p : pass l pc (suc n) ≡ suc (pass l pc n) = ap (λ c. if c then (if has l.body u then suc (pass l pc n) else 0) else pass l pc n) e ∙ ap (λ c. if c then suc (pass l pc n) else 0) hu in
            let s : passed l pc (suc n) ≡ [] = ap (λ c. if c then [] else u ∷ passed l pc n) e in
            (omega arith, λ h. absurd (yes_no _ h (ap (λ ys. has ys l.exit) s)))
        go (inl e) (inr hu) =
            let p : pass l pc (suc n) ≡ 0 = ap (λ c. if c then (if has l.body u then suc (pass l pc n) else 0) else pass l pc n) e ∙ ap (λ c. if c then suc (pass l pc n) else 0) hu in
            let s : passed l pc (suc n) ≡ [] = ap (λ c. if c then [] else u ∷ passed l pc n) e in
            (omega arith, λ h. absurd (yes_no _ h (ap (λ ys. has ys l.exit) s)))
        go (inr e) (inl hu) =
            let p : pass l pc (suc n) ≡ pass l pc n = ap (λ c. if c then (if has l.body u then suc (pass l pc n) else 0) else pass l pc n) e in
            let s : passed l pc (suc n) ≡ u ∷ passed l pc n = ap (λ c. if c then [] else u ∷ passed l pc n) e in
            let le = b.passes l i hu in
            (omega arith, λ h. let k = before l i hu hv (sym (ap (λ ys. has ys l.exit) s) ∙ h) in omega arith)
        go (inr e) (inr hu) = absurd (ne_of v l.header e (nest.bodies.enter l (inr i) u v edge hu hv))

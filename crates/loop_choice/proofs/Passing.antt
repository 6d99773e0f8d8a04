-- The words of a pass lead from the loop's header to the word that is visited.
use Rattle.std.proofs.Common.{◌≡◌, ℕ, zero, suc, ◌⊎◌, inl, inr, [], ◌∷◌, true, false, if◌then◌else◌, ◌==◌, refl, ap, sym, ◌∙◌, subst}
use Rattle.loop_data.specs.declared.shape.Level.{Level}
use Rattle.loop_data.specs.Nests.{Nest, has, Among, Edge, IsPassTo, IsNest}
use Rattle.loop_data.specs.Passes.{passed}
use Rattle.loop_data.proofs.NestVisits.{Inside, edge_of, inside_less}
use Rattle.loop_data.proofs.Tests.{eq_of, ne_of, true_or_false}

pub ways_at : (N : Nest) (pc : ℕ → ℕ) (n : ℕ) → IsNest N → Inside N pc n → (l : Level) → Among N l → has l.body (pc n) ≡ true → IsPassTo N l (passed l pc n) (pc n)
ways_at N pc zero nest inside l i h =
    let h' : has l.body N.root.header ≡ true = subst (λ x. has l.body x ≡ true) inside.start h in
    let e = nest.bodies.apart N.root l (inl refl) i h' (nest.bodies.within l i l.header (nest.bodies.header l i)) in
    inside.start ∙ ap (λ (z : Level). z.header) e
ways_at N pc (suc n) nest inside l i h = by (true_or_false (pc (suc n) == l.header)) (true_or_false (has l.body (pc n))) (ways_at N pc n nest (inside_less N pc n inside) l i)
  where
    edge : Edge N N.root.body (pc n) (pc (suc n))
    edge = edge_of N pc n inside

    by : ((pc (suc n) == l.header) ≡ true) ⊎ ((pc (suc n) == l.header) ≡ false) → (has l.body (pc n) ≡ true) ⊎ (has l.body (pc n) ≡ false)
        → (has l.body (pc n) ≡ true → IsPassTo N l (passed l pc n) (pc n)) → IsPassTo N l (passed l pc (suc n)) (pc (suc n))
    by (inl b) hu before =
        let q = eq_of (pc (suc n)) l.header b in
        subst (λ ys. IsPassTo N l ys (pc (suc n))) (sym (ap (λ b. if b then [] else pc n ∷ passed l pc n) b)) q
    by (inr b) (inl hu) before =
        let ne = ne_of (pc (suc n)) l.header b in
        subst (λ ys. IsPassTo N l ys (pc (suc n))) (sym (ap (λ b. if b then [] else pc n ∷ passed l pc n) b)) (record { from = hu; to = h; leads = edge.leads }, ne, before hu)
    by (inr b) (inr hu) before = absurd (ne_of (pc (suc n)) l.header b (nest.bodies.enter l i (pc n) (pc (suc n)) edge hu h))

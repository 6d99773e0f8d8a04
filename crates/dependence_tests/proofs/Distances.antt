-- Words that differ by a small number modulo 2 ^ 64.
use Rattle.std.proofs.Common.{◌≡◌, ℕ, ◌<◌, ◌-◌, ◌^◌, Bool, true, false, Some, refl, ap, arith, if◌then◌else◌, int_lt, ℤ, pos, negsuc, ◌+ℤ◌, ◌-ℤ◌, ◌*ℤ◌, ◌≤ℤ◌, ◌<ℤ◌}
use Rattle.std.proofs.lemmas.Int.{ints}
use Rattle.linear_forms.specs.Forms.{Alike, weight, exact, word_of, value, between, constant_fits}
use Rattle.loop_data.specs.declared.accesses.Access.{Access}
use Rattle.dependence_tests.specs.Terms.{IsKnown}

between_is : (low high z : ℤ) → between low high z ≡ true → (low ≤ℤ z) × (z <ℤ high)
between_is low high z = go (int_lt z low) refl
  where
    go : (b : Bool) → int_lt z low ≡ b → (if b then false else int_lt z high) ≡ true → (low ≤ℤ z) × (z <ℤ high)
    go true e f = absurd (cc)
    go false e f = (grind (arith, ints), grind (arith, ints))

difference_is : (x y : ℕ) (a b u v p q c : ℤ) → x < 2 ^ 31 → y < 2 ^ 31 → pos x ≡ a +ℤ u +ℤ pos 0 +ℤ p *ℤ pos (2 ^ 64) → pos y ≡ b +ℤ v +ℤ pos 0 +ℤ q *ℤ pos (2 ^ 64) → u ≡ v → c ≡ b -ℤ a
    → negsuc (2 ^ 31 - 1) ≤ℤ a → a <ℤ pos (2 ^ 31) → negsuc (2 ^ 31 - 1) ≤ℤ b → b <ℤ pos (2 ^ 31) → pos y -ℤ pos x ≡ c
difference_is x y a b u v p q c lx ly ex ey e f a0 a1 b0 b1 = omega (arith, ints)

no_shift : (s t u : ℤ) → s *ℤ pos 0 +ℤ (t *ℤ pos 0 +ℤ u *ℤ pos 0) ≡ pos 0
no_shift s t u = omega (arith, ints)

pub known : ((z : ℤ) → Alike (pos (word_of z)) z) → (a b : Access) (c : ℤ) (entry : ℕ → ℤ) → IsKnown a b (Some c) → constant_fits a.form.constant ≡ true → constant_fits b.form.constant ≡ true
    → value a.form entry (λ k. 0) < 2 ^ 31 → value b.form entry (λ k. 0) < 2 ^ 31 → pos (value b.form entry (λ k. 0)) -ℤ pos (value a.form entry (λ k. 0)) ≡ c
known alike a b c entry k fa fb la lb =
    let x = alike (exact a.form entry (λ k. 0)) in
    let y = alike (exact b.form entry (λ k. 0)) in
    let p = between_is _ _ _ fa in
    let q = between_is _ _ _ fb in
    let ex = x.is in
    let ey = y.is in
    difference_is (value a.form entry (λ k. 0)) (value b.form entry (λ k. 0)) a.form.constant b.form.constant (weight entry a.form.terms) (weight entry b.form.terms) x.turns y.turns c la lb
    (let n = no_shift a.form.first a.form.second a.form.third in omega (arith, ints))
    (let n = no_shift b.form.first b.form.second b.form.third in omega (arith, ints))
    (ap (weight entry) k.0) k.1 p.0 p.1 q.0 q.1

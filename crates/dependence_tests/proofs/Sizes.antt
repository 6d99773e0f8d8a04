-- Products of strides with differences of turn numbers, and integers that a number divides.
use Rattle.std.proofs.Common.{◌≡◌, ℕ, zero, suc, ◌+◌, ◌-◌, ◌*◌, ◌/◌, ◌%◌, ◌<◌, ◌≤◌, ◌⊎◌, inl, inr, refl, ap, ◌∙◌, arith, pos, negsuc, ℤ, ◌+ℤ◌, ◌-ℤ◌, ◌*ℤ◌}
use Rattle.std.proofs.lemmas.Int.{ints, unsigned_abs-mul}
use Rattle.std.proofs.lemmas.Nat.Gcd.{mod-eq-zero_of_dvd}
use Rattle.std.proofs.Math.Nat.{mul-le-mul_left}
use Rattle.std.specs.Int.{◌∣◌}
use Rattle.std.specs.Int.RustNames.{unsigned_abs}
use borrow.Author.Differences.{up, down, sum_is_lem, product_is}
use Rattle.dependence_tests.specs.PairTests.{remainder}

pub times_plus : (a b c : ℤ) → a *ℤ (b +ℤ c) ≡ a *ℤ b +ℤ a *ℤ c
times_plus a b c =
    let p = ap (λ x. up a * x) (sum_is_lem b c) in
    let q = ap (λ x. down a * x) (sum_is_lem b c) in
    omega (arith, ints)

pub times_times : (a b c : ℤ) → (a *ℤ b) *ℤ c ≡ a *ℤ (b *ℤ c)
times_times a b c =
    let p = product_is a b in
    let q = product_is b c in
    let r = ap (λ x. x * up c) p.0 in
    let s = ap (λ x. x * down c) p.1 in
    let t = ap (λ x. x * down c) p.0 in
    let u = ap (λ x. x * up c) p.1 in
    let v = ap (λ x. up a * x) q.0 in
    let w = ap (λ x. down a * x) q.1 in
    let x = ap (λ x. up a * x) q.1 in
    let y = ap (λ x. down a * x) q.0 in
    omega (arith, ints)

pub times_minus : (s a b : ℤ) → s *ℤ (b -ℤ a) ≡ s *ℤ b -ℤ s *ℤ a
times_minus s a b =
    let e = times_plus s (b -ℤ a) a in
    let f : (b -ℤ a) +ℤ a ≡ b = omega (arith, ints) in
    let g = ap (λ x. s *ℤ x) f in
    omega (arith, ints)

-- a product with a number that is not 0 is at least the stride in size, and it is at most the stride times a bound
pub size_least : (m d : ℤ) → 1 ≤ unsigned_abs d → unsigned_abs m ≤ unsigned_abs (m *ℤ d)
size_least m d h =
    let e = unsigned_abs-mul m d in
    let q : unsigned_abs m * 1 ≤ unsigned_abs m * unsigned_abs d = mul-le-mul_left (unsigned_abs m) h in
    omega arith

pub size_most : (m d : ℤ) (n : ℕ) → unsigned_abs d ≤ n → unsigned_abs (m *ℤ d) ≤ unsigned_abs m * n
size_most m d n h =
    let e = unsigned_abs-mul m d in
    let q : unsigned_abs m * unsigned_abs d ≤ unsigned_abs m * n = mul-le-mul_left (unsigned_abs m) h in
    omega arith

-- the integer is a multiple of the number
pub record IsMultiple (g : ℕ) (z : ℤ) : Type 0 where
  pub times : ℤ
  pub is : z ≡ pos g *ℤ times

pub multiple_of : (g : ℕ) (z : ℤ) → 0 < g → g ∣ unsigned_abs z → IsMultiple g z
multiple_of g (pos n) h d =
    let e = mod-eq-zero_of_dvd g d in
    let r : g * (n / g) + n % g ≡ n = omega arith in
    record { times = pos (n / g); is = omega (arith, ints) }
multiple_of g (negsuc n) h d =
    let e = mod-eq-zero_of_dvd g d in
    let r : g * (suc n / g) + suc n % g ≡ suc n = omega arith in
    let m = times_minus (pos g) (pos (suc n / g)) (pos 0) in
    record { times = pos 0 -ℤ pos (suc n / g); is = omega (arith, ints) }

pub multiple_times : (g : ℕ) (m d : ℤ) → IsMultiple g m → IsMultiple g (m *ℤ d)
multiple_times g m d p =
    record { times = p.times *ℤ d; is = ap (λ x. x *ℤ d) p.is ∙ times_times (pos g) p.times d }

pub multiple_sum : (g : ℕ) (a b : ℤ) → IsMultiple g a → IsMultiple g b → IsMultiple g (a +ℤ b)
multiple_sum g a b p q =
    let e = p.is in
    let f = q.is in
    let h = times_plus (pos g) p.times q.times in
    record { times = p.times +ℤ q.times; is = omega (arith, ints) }

-- a multiple that is not 0 is at least the number in size
pub multiple_size : (g : ℕ) (z : ℤ) → IsMultiple g z → (z ≡ pos 0) ⊎ (g ≤ unsigned_abs z)
multiple_size g z d = go d.times d.is
  where
    go : (q : ℤ) → z ≡ pos g *ℤ q → (z ≡ pos 0) ⊎ (g ≤ unsigned_abs z)
    go (pos zero) e = inl (omega (arith, ints))
    go (pos (suc n)) e = let h = size_least (pos g) (pos (suc n)) (omega (arith, ints)) in inr (rw e h)
    go (negsuc n) e = let h = size_least (pos g) (negsuc n) (omega (arith, ints)) in inr (rw e h)

-- an integer is its remainder and a multiple
pub remainder_is : (c : ℤ) (g : ℕ) → 0 < g → (k : ℤ) × (c ≡ pos (remainder c g) +ℤ pos g *ℤ k) × (remainder c g < g)
remainder_is (pos a) g h = (pos (a / g), (omega (arith, ints)), omega arith)
remainder_is (negsuc a) g h =
    (negsuc (a / g), (let r : g * (a / g) + a % g ≡ a = omega arith in omega (arith, ints)), omega arith)

-- an integer whose remainder is a width away from 0 and from the number, and so each that differs by a multiple
pub residue_apart : (c z : ℤ) (g w : ℕ) → 0 < g → w ≤ remainder c g → w ≤ g - remainder c g → IsMultiple g z → w ≤ unsigned_abs (c +ℤ z)
residue_apart c z g w h lo hi d = by (multiple_size g (pos g *ℤ (r.0 +ℤ d.times)) (record { times = r.0 +ℤ d.times; is = refl }))
  where
    r : (k : ℤ) × (c ≡ pos (remainder c g) +ℤ pos g *ℤ k) × (remainder c g < g)
    r = remainder_is c g h

    by : (pos g *ℤ (r.0 +ℤ d.times) ≡ pos 0) ⊎ (g ≤ unsigned_abs (pos g *ℤ (r.0 +ℤ d.times))) → w ≤ unsigned_abs (c +ℤ z)
    by (inl n) =
        let a = r.1 in let b = r.2 in let e = d.is in let f = times_plus (pos g) r.0 d.times in omega (arith, ints)
    by (inr n) =
        let a = r.1 in let b = r.2 in let e = d.is in let f = times_plus (pos g) r.0 d.times in omega (arith, ints)

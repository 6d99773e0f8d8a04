-- The four tests keep accesses of different turns a width away from each other.
use Rattle.std.proofs.Common.{◌≡◌, ◌≢◌, ℕ, ◌+◌, ◌-◌, ◌*◌, ◌<◌, ◌≤◌, ◌⊎◌, inl, inr, Bool, true, false, ◌||◌, [], ◌∷◌, refl, sym, ◌∙◌, arith, pos, ℤ, ◌+ℤ◌, ◌-ℤ◌, ◌*ℤ◌}
use Rattle.std.proofs.lemmas.Int.{ints}
use Rattle.std.proofs.lemmas.Bool.Decides.{nat_tests}
use Rattle.std.specs.Int.RustNames.{unsigned_abs}
use Rattle.dependence_tests.specs.Terms.{DividesAll}
use Rattle.dependence_tests.specs.PairTests.{are_blocks, are_lanes, are_residues, are_apart, remainder}
use Rattle.dependence_tests.proofs.Sizes.{times_minus, size_least, size_most, IsMultiple, multiple_of, multiple_times, multiple_sum, multiple_size, residue_apart}

-- three strides times the passes of their loops
abbrev pub shift : ℤ → ℤ → ℤ → ℕ → ℕ → ℕ → ℤ
shift s t u k l m = s *ℤ pos k +ℤ (t *ℤ pos l +ℤ u *ℤ pos m)

-- one stride's part of the difference of two shifts
part_most : (s : ℤ) (k j n : ℕ) → k ≤ n → j ≤ n → unsigned_abs (s *ℤ pos j -ℤ s *ℤ pos k) ≤ unsigned_abs s * n
part_most s k j n p q =
    let e = times_minus s (pos k) (pos j) in
    let f = size_most s (pos j -ℤ pos k) n (omega (arith, ints)) in
    omega (arith, ints)

part_multiple : (g : ℕ) (s : ℤ) (k j : ℕ) → IsMultiple g s → IsMultiple g (s *ℤ pos j -ℤ s *ℤ pos k)
part_multiple g s k j d =
    let m = multiple_times g s (pos j -ℤ pos k) d in
    record { times = m.times; is = sym (times_minus s (pos k) (pos j)) ∙ m.is }

shift_most : (s t u : ℤ) (k l m i j h a b c : ℕ) → k ≤ a → l ≤ b → m ≤ c → i ≤ a → j ≤ b → h ≤ c
    → unsigned_abs (shift s t u i j h -ℤ shift s t u k l m) ≤ unsigned_abs s * a + (unsigned_abs t * b + unsigned_abs u * c)
shift_most s t u k l m i j h a b c p q r x y z =
    let d = part_most s k i a p x in
    let e = part_most t l j b q y in
    let f = part_most u m h c r z in
    omega (arith, ints)

shift_multiple : (g : ℕ) (s t u : ℤ) (k l m i j h : ℕ) → 0 < g → DividesAll g (unsigned_abs s ∷ unsigned_abs t ∷ unsigned_abs u ∷ [])
    → IsMultiple g (shift s t u i j h -ℤ shift s t u k l m)
shift_multiple g s t u k l m i j h n d =
    let a = part_multiple g s k i (multiple_of g s n d.0) in
    let b = part_multiple g t l j (multiple_of g t n d.1.0) in
    let c = part_multiple g u m h (multiple_of g u n d.1.1.0) in
    let e = multiple_sum g _ _ a (multiple_sum g _ _ b c) in
    let f = e.is in
    record { times = e.times; is = omega (arith, ints) }

blocks_apart : (c md x : ℤ) (m s w : ℕ) → unsigned_abs c + s + w ≤ m → m ≤ unsigned_abs md → unsigned_abs x ≤ s → w ≤ unsigned_abs (c +ℤ (md +ℤ x))
blocks_apart c md x m s w a b d = omega (arith, ints)

far_apart : (c md x : ℤ) (k s w : ℕ) → k + s + w ≤ unsigned_abs c → unsigned_abs md ≤ k → unsigned_abs x ≤ s → w ≤ unsigned_abs (c +ℤ (md +ℤ x))
far_apart c md x k s w a b d = omega (arith, ints)

lanes_apart : (c md x : ℤ) (m k g w : ℕ) → unsigned_abs c + w ≤ m → k + unsigned_abs c + w ≤ g → m ≤ unsigned_abs md → unsigned_abs md ≤ k
    → (x ≡ pos 0) ⊎ (g ≤ unsigned_abs x) → w ≤ unsigned_abs (c +ℤ (md +ℤ x))
lanes_apart c md x m k g w a b d e (inl z) = omega (arith, ints)
lanes_apart c md x m k g w a b d e (inr z) = omega (arith, ints)

-- what a test says of the strides r, s, t, u, the passes up to a, b, c, the divisors g and h, and the difference z
abbrev pub tested : ℤ → ℤ → ℤ → ℤ → ℕ → ℕ → ℕ → ℕ → ℕ → ℕ → ℕ → ℤ → Bool
tested r s t u p a b c g h w z =
    let span = unsigned_abs s * a + (unsigned_abs t * b + unsigned_abs u * c) in
    (are_blocks (unsigned_abs r) (unsigned_abs z) span w || are_lanes (unsigned_abs r) (unsigned_abs r * p) (unsigned_abs z) w g)
    || (are_residues z w h || are_apart (unsigned_abs r * p) (unsigned_abs z) span w)

pub record Divisors (r s t u : ℤ) (g h : ℕ) : Type 0 where
  pub inner : DividesAll g (unsigned_abs s ∷ unsigned_abs t ∷ unsigned_abs u ∷ [])
  pub all : DividesAll h (unsigned_abs r ∷ unsigned_abs s ∷ unsigned_abs t ∷ unsigned_abs u ∷ [])

pub record Passes (a b c k l m : ℕ) : Type 0 where
  pub first : k ≤ a
  pub second : l ≤ b
  pub third : m ≤ c

pub test_apart : (r s t u : ℤ) (p a b c g h w : ℕ) (z : ℤ) (i j k l m k' l' m' : ℕ) → Divisors r s t u g h → tested r s t u p a b c g h w z ≡ true
    → i ≤ p → j ≤ p → i ≢ j → Passes a b c k l m → Passes a b c k' l' m'
    → w ≤ unsigned_abs (z +ℤ (r *ℤ (pos j -ℤ pos i) +ℤ (shift s t u k' l' m' -ℤ shift s t u k l m)))
test_apart r s t u p a b c g h w z i j k l m k' l' m' d e li lj ne q v =
    go (are_blocks (unsigned_abs r) (unsigned_abs z) span w) (are_lanes (unsigned_abs r) (unsigned_abs r * p) (unsigned_abs z) w g)
    (are_residues z w h) (are_apart (unsigned_abs r * p) (unsigned_abs z) span w) refl refl refl refl e
  where
    span : ℕ
    span = unsigned_abs s * a + (unsigned_abs t * b + unsigned_abs u * c)

    md : ℤ
    md = r *ℤ (pos j -ℤ pos i)

    x : ℤ
    x = shift s t u k' l' m' -ℤ shift s t u k l m

    least : unsigned_abs r ≤ unsigned_abs md
    least = size_least r (pos j -ℤ pos i) (omega (arith, ints))

    most : unsigned_abs md ≤ unsigned_abs r * p
    most = size_most r (pos j -ℤ pos i) p (omega (arith, ints))

    within : unsigned_abs x ≤ span
    within = shift_most s t u k l m k' l' m' a b c q.first q.second q.third v.first v.second v.third

    go : (f1 f2 f3 f4 : Bool) → are_blocks (unsigned_abs r) (unsigned_abs z) span w ≡ f1 → are_lanes (unsigned_abs r) (unsigned_abs r * p) (unsigned_abs z) w g ≡ f2
        → are_residues z w h ≡ f3 → are_apart (unsigned_abs r * p) (unsigned_abs z) span w ≡ f4 → ((f1 || f2) || (f3 || f4)) ≡ true → w ≤ unsigned_abs (z +ℤ (md +ℤ x))
    go true f2 f3 f4 e1 e2 e3 e4 y =
        let o : unsigned_abs z + span + w ≤ unsigned_abs r = grind (arith, nat_tests) in
        blocks_apart z md x (unsigned_abs r) span w o least within
    go false true f3 f4 e1 e2 e3 e4 y =
        let n : 0 < g = grind (arith, nat_tests) in
        let o : unsigned_abs z + w ≤ unsigned_abs r = grind (arith, nat_tests) in
        let f : unsigned_abs r * p + unsigned_abs z + w ≤ g = grind (arith, nat_tests) in
        lanes_apart z md x (unsigned_abs r) (unsigned_abs r * p) g w o f least most
        (multiple_size g x (shift_multiple g s t u k l m k' l' m' n d.inner))
    go false false true f4 e1 e2 e3 e4 y =
        let n : 0 < h = grind (arith, nat_tests) in
        let o : w ≤ remainder z h = grind (arith, nat_tests) in
        let f : w ≤ h - remainder z h = grind (arith, nat_tests) in
        residue_apart z (md +ℤ x) h w n o f
        (multiple_sum h md x (multiple_times h r (pos j -ℤ pos i) (multiple_of h r n d.all.0)) (shift_multiple h s t u k l m k' l' m' n d.all.1))
    go false false false true e1 e2 e3 e4 y =
        let o : unsigned_abs r * p + span + w ≤ unsigned_abs z = grind (arith, nat_tests) in
        far_apart z md x (unsigned_abs r * p) span w o most within
    go false false false false e1 e2 e3 e4 y = absurd (cc)

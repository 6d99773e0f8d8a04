-- How far strides take a form.
use Rattle.std.proofs.Common.{◌≡◌, ℕ, suc, ◌-◌, ◌*◌, ◌^◌, ◌<◌, ◌≤◌, List, [], ◌∷◌, true, refl, ap, sym, ◌∙◌, subst, arith, ℤ, pos, negsuc, ◌+ℤ◌, ◌≤ℤ◌, slice_index}
use Rattle.std.proofs.lemmas.Int.{ints}
use Rattle.std.specs.List.{All}
use Rattle.linear_forms.specs.Forms.{LinearForm, is_small, IsBounded}
use Rattle.linear_forms.specs.Extremes.{least, most, lowest_shift, highest_shift}
use Rattle.linear_forms.proofs.Ranges.{small_is}
use Rattle.alias_checks.specs.Areas.{Range}
use Rattle.alias_checks.specs.AccessTests.{AreShifts}
use Rattle.alias_checks.proofs.Products.{times_most}

pub record IsFall (z : ℤ) : Type 0 where
  pub low : negsuc (2 ^ 61 - 1) ≤ℤ z
  pub high : z ≤ℤ pos 0

pub record IsRise (z : ℤ) : Type 0 where
  pub low : pos 0 ≤ℤ z
  pub high : z ≤ℤ pos (2 ^ 61)

falls : (z : ℤ) (n : ℕ) → is_small z ≡ true → n < 2 ^ 31 → IsFall (least z n)
falls (pos m) n e h = record { low = omega (arith, ints); high = omega (arith, ints) }
falls (negsuc m) n e h =
    let s = (small_is (negsuc m) e).0 in
    let k : suc m ≤ 2 ^ 30 = omega (arith, ints) in
    let l : n ≤ 2 ^ 31 = omega arith in
    let p = times_most (suc m) n (2 ^ 30) (2 ^ 31) k l in
    record { low = omega (arith, ints); high = omega (arith, ints) }

rises : (z : ℤ) (n : ℕ) → is_small z ≡ true → n < 2 ^ 31 → IsRise (most z n)
rises (negsuc m) n e h = record { low = omega (arith, ints); high = omega (arith, ints) }
rises (pos m) n e h =
    let s = (small_is (pos m) e).1 in
    let k : m ≤ 2 ^ 30 = omega (arith, ints) in
    let l : n ≤ 2 ^ 31 = omega arith in
    let p = times_most m n (2 ^ 30) (2 ^ 31) k l in
    record { low = omega (arith, ints); high = omega (arith, ints) }

three_falls : (a b c : ℤ) → IsFall a → IsFall b → IsFall c → (negsuc (3 * 2 ^ 61 - 1) ≤ℤ (a +ℤ (b +ℤ c))) × ((a +ℤ (b +ℤ c)) ≤ℤ pos 0)
three_falls a b c p q r = (omega (arith, ints), omega (arith, ints))

three_rises : (a b c : ℤ) → IsRise a → IsRise b → IsRise c → (pos 0 ≤ℤ (a +ℤ (b +ℤ c))) × ((a +ℤ (b +ℤ c)) ≤ℤ pos (3 * 2 ^ 61))
three_rises a b c p q r = (omega (arith, ints), omega (arith, ints))

pub shifts_of : (f : LinearForm) (last : ℕ → ℕ) → IsBounded f → last 0 < 2 ^ 31 → last 1 < 2 ^ 31 → last 2 < 2 ^ 31
    → AreShifts f last (lowest_shift f last, highest_shift f last)
shifts_of f last b h k l =
    record {
      low = refl;
      high = refl;
      falls = three_falls _ _ _ (falls f.first (last 0) b.first h) (falls f.second (last 1) b.second k) (falls f.third (last 2) b.third l);
      rises = three_rises _ _ _ (rises f.first (last 0) b.first h) (rises f.second (last 1) b.second k) (rises f.third (last 2) b.third l);
    }

pub are_shifts : (f : LinearForm) (last : ℕ → ℕ) (xs : List ℕ) (r : Range) → IsBounded f → xs ≡ last 0 ∷ last 1 ∷ last 2 ∷ [] → All (λ n. n < 2 ^ 31) xs
    → r ≡ (lowest_shift f (slice_index xs), highest_shift f (slice_index xs)) → AreShifts f last r
are_shifts f last xs r b e a q =
    let small : All (λ n. n < 2 ^ 31) (last 0 ∷ last 1 ∷ last 2 ∷ []) = subst (All (λ n. n < 2 ^ 31)) e a in
    let is : r ≡ (lowest_shift f last, highest_shift f last) =
    q ∙ ap (λ (ys : List ℕ). (lowest_shift f (slice_index ys), highest_shift f (slice_index ys))) e in
    subst (AreShifts f last) (sym is)
    (shifts_of f last b (small 0 0 (omega arith)) (small 1 0 (omega arith)) (small 2 0 (omega arith)))

-- The words that sums and products of words are.
use Rattle.std.proofs.Common.{◌≡◌, ℕ, zero, suc, ◌+◌, ◌*◌, ◌%◌, ◌^◌, ◌<◌, ◌≤◌, List, [], ◌∷◌, length, drop, slice_index_or, refl, sym, subst, arith, pos, negsuc, ℤ, ◌+ℤ◌, ◌*ℤ◌, FitsSigned, w64, of_z}
use Rattle.std.proofs.lemmas.Int.{ints}
use Rattle.linear_forms.specs.declared.location.Loc.{Loc}
use Rattle.linear_forms.specs.declared.location.Loc.TheVariants.{Reg, Cell}
use Rattle.linear_forms.specs.Forms.{Alike, weight, word_of}
use Rattle.linear_forms.specs.Locations.{number_of, terms_of, IsLocation, AreLocations}
use Rattle.linear_forms.proofs.Sums.{alike_from, alike_trans, alike_add, alike_times, alike_mod, word_is, word_alike}
use Rattle.linear_forms.proofs.Built.{location_at}

-- the bits of a signed number of 64 bits
pub bits_alike : (z : ℤ) → FitsSigned w64 z → Alike (pos (of_z w64 z)) z
bits_alike (pos n) f = record { turns = pos 0; is = omega (arith, ints) }
bits_alike (negsuc n) f = record { turns = pos 1; is = omega (arith, ints) }

pub alike_word : (n : ℕ) (z : ℤ) → n ≡ word_of z → Alike (pos n) z
alike_word n z e = subst (λ m. Alike (pos m) z) (sym e) (word_alike z)

pub product_word : (z : ℤ) (n : ℕ) → FitsSigned w64 z → of_z w64 z * n % 2 ^ 64 ≡ word_of (z *ℤ pos n)
product_word z n f =
    let a = alike_times (pos n) _ _ (bits_alike z f) in
    let b : pos (of_z w64 z * n) ≡ pos n *ℤ pos (of_z w64 z) = omega (arith, ints) in
    let c : pos n *ℤ z ≡ z *ℤ pos n = omega (arith, ints) in
    word_is (of_z w64 z * n % 2 ^ 64) (z *ℤ pos n) (omega arith)
    (alike_trans _ _ _ (alike_mod (of_z w64 z * n)) (alike_trans _ _ _ (alike_from _ _ b) (alike_trans _ _ _ a (alike_from _ _ c))))

pub sum_alike : (a b : ℕ) (x y : ℤ) → Alike (pos a) x → Alike (pos b) y → Alike (pos ((a + b) % 2 ^ 64)) (x +ℤ y)
sum_alike a b x y p q =
    let e : pos (a + b) ≡ pos a +ℤ pos b = omega (arith, ints) in
    alike_trans _ _ _ (alike_mod (a + b)) (alike_trans _ _ _ (alike_from _ _ e) (alike_add _ _ _ _ p q))

pub number_below : (l : Loc) → IsLocation l → number_of l < 48
number_below (Reg r) h = omega arith
number_below (Cell k) h = omega arith

pub number_at : (ts : List (Loc × ℤ)) (i : ℕ) (d : Loc × ℤ) → AreLocations ts → i < length ts → number_of (slice_index_or ts i d).0 < 48
number_at ts i d a h = number_below _ (location_at ts i d a h)

-- what is summed up and what is left are the whole
abbrev pub IsWeighed : ℕ → (ℕ → ℤ) → List (Loc × ℤ) → ℕ → Type 0
IsWeighed sum entry ts i = Alike (pos sum +ℤ weight entry (terms_of (drop i ts))) (weight entry (terms_of ts))

pub nothing_weighed : (entry : ℕ → ℤ) (ts : List (Loc × ℤ)) → IsWeighed 0 entry ts 0
nothing_weighed entry ts = alike_from _ _ (omega (arith, ints))

drop_weight : (entry : ℕ → ℤ) (ts : List (Loc × ℤ)) (i : ℕ) (d : Loc × ℤ) → i < length ts
    → weight entry (terms_of (drop i ts)) ≡ (slice_index_or ts i d).1 *ℤ entry (number_of (slice_index_or ts i d).0) +ℤ weight entry (terms_of (drop (suc i) ts))
drop_weight entry [] i d h = absurd (omega arith)
drop_weight entry (t ∷ ts) zero d h = refl
drop_weight entry (t ∷ ts) (suc i) d h = drop_weight entry ts i d (omega arith)

pub weighed_more : (sum m : ℕ) (entry : ℕ → ℤ) (ts : List (Loc × ℤ)) (i : ℕ) (d : Loc × ℤ) → i < length ts
    → Alike (pos m) ((slice_index_or ts i d).1 *ℤ entry (number_of (slice_index_or ts i d).0)) → IsWeighed sum entry ts i → IsWeighed ((sum + m) % 2 ^ 64) entry ts (suc i)
weighed_more sum m entry ts i d h a w =
    let e = drop_weight entry ts i d h in
    let b = sum_alike sum m _ _ (alike_from (pos sum) (pos sum) refl) a in
    let rest = weight entry (terms_of (drop (suc i) ts)) in
    let c = alike_add _ _ _ _ b (alike_from rest rest refl) in
    alike_trans _ _ _ c (alike_trans _ _ _ (alike_from _ _ (omega (arith, ints))) w)

pub weighed_all : (sum : ℕ) (entry : ℕ → ℤ) (ts : List (Loc × ℤ)) (i : ℕ) → length ts ≤ i → sum < 2 ^ 64 → IsWeighed sum entry ts i → sum ≡ word_of (weight entry (terms_of ts))
weighed_all sum entry ts i h l w =
    word_is sum _ l (alike_trans _ _ _ (alike_from _ _ (let e = done ts i h in omega (arith, ints))) w)
  where
    done : (us : List (Loc × ℤ)) (j : ℕ) → length us ≤ j → weight entry (terms_of (drop j us)) ≡ pos 0
    done [] zero h = refl
    done [] (suc j) h = refl
    done (u ∷ us) zero h = absurd (omega arith)
    done (u ∷ us) (suc j) h = done us j (omega arith)

-- Sums of words as integers.
use Rattle.std.proofs.Common.{◌≡◌, ℕ, ◌+◌, ◌*◌, ◌%◌, ◌^◌, ◌<◌, ap, ◌∙◌, arith, ℤ, pos, negsuc, ◌+ℤ◌, ◌*ℤ◌, List, [], ◌∷◌, true}
use Rattle.std.proofs.lemmas.Int.{ints}
use Rattle.std.proofs.lemmas.Bool.Decides.{nat_tests}
use Rattle.linear_forms.specs.Forms.{EntryTerm, Alike, weight, word_of, is_small}
use Rattle.linear_forms.proofs.Sums.{alike_from, alike_trans, alike_times, alike_mod, word_is}
use Rattle.linear_forms.proofs.Values.{sum_alike}
use Rattle.check_numbers.specs.Parts.{bits}
use Rattle.check_numbers.specs.Sums.{sum_from, value_of, IsShort, AreShort}

pub bits_alike : (z : ℤ) → IsShort z → Alike (pos (bits z)) z
bits_alike (pos n) h = let a = h.1 in record { turns = pos 0; is = omega (arith, ints) }
bits_alike (negsuc n) h = let a = h.0 in record { turns = pos 1; is = omega (arith, ints) }

pub bits_below : (z : ℤ) → IsShort z → bits z < 2 ^ 64
bits_below (pos n) h = let a = h.1 in omega (arith, ints)
bits_below (negsuc n) h = let a = h.0 in omega (arith, ints)

pub product_alike : (z : ℤ) (n : ℕ) → IsShort z → Alike (pos (n * bits z % 2 ^ 64)) (z *ℤ pos n)
product_alike z n h =
    let a = alike_times (pos n) _ _ (bits_alike z h) in
    let b : pos (n * bits z) ≡ pos n *ℤ pos (bits z) = omega (arith, ints) in
    let c : pos n *ℤ z ≡ z *ℤ pos n = omega (arith, ints) in
    alike_trans _ _ _ (alike_mod (n * bits z)) (alike_trans _ _ _ (alike_from _ _ b) (alike_trans _ _ _ a (alike_from _ _ c)))

none_more : (z : ℤ) → z ≡ z +ℤ pos 0
none_more z = omega (arith, ints)

regroup : (a b c : ℤ) → (a +ℤ b) +ℤ c ≡ a +ℤ (b +ℤ c)
regroup a b c = omega (arith, ints)

reduced : (n : ℕ) → n % 2 ^ 64 < 2 ^ 64
reduced n = omega arith

-- from a word that is the same as an integer
pub sum_is : (e : ℕ → ℕ) (ts : List EntryTerm) (n : ℕ) (z : ℤ) → AreShort ts → n < 2 ^ 64 → Alike (pos n) z → sum_from e ts n ≡ word_of (z +ℤ weight (λ loc. pos (e loc)) ts)
sum_is e [] n z h l a = word_is n (z +ℤ pos 0) l (alike_trans _ _ _ a (alike_from _ _ (none_more z)))
sum_is e (t ∷ ts) n z h l a =
    let m = e t.loc * bits t.by % 2 ^ 64 in
    let y = t.by *ℤ pos (e t.loc) in
    sum_is e ts ((n + m) % 2 ^ 64) (z +ℤ y) h.1 (reduced (n + m)) (sum_alike n m z y a (product_alike t.by (e t.loc) h.0))
    ∙ ap word_of (regroup z y (weight (λ loc. pos (e loc)) ts))

pub value_is : (e : ℕ → ℕ) (c : ℤ) (ts : List EntryTerm) → IsShort c → AreShort ts → value_of e c ts ≡ word_of (c +ℤ weight (λ loc. pos (e loc)) ts)
value_is e c ts short h = sum_is e ts (bits c) c h (bits_below c short) (bits_alike c short)

pub small_short : (z : ℤ) → is_small z ≡ true → IsShort z
small_short (pos n) h = (grind (arith, ints, nat_tests), grind (arith, ints, nat_tests))
small_short (negsuc n) h = (grind (arith, ints, nat_tests), grind (arith, ints, nat_tests))

-- Addresses in order, start words, and the number of reached words.
use Rattle.std.proofs.Common.{◌≡◌, ◌↔◌, ◌⊎◌, inl, inr, ℕ, ◌+◌, ◌<◌, ◌≤◌, true, nat_eq, List, [], ◌∷◌, ◌++◌, length, take, get_or, Contains, refl, sym, subst, arith}
use Rattle.std.specs.Cmp.{nat_eq_equiv}
use Rattle.std.specs.List.{IsDistinct, dedup, list_any}
use Rattle.std.specs.List.Sorted.{IsPermutation, IsSorted, IsStrictlyIncreasing}
use Rattle.std.specs.Ordering.{nat_cmp}
use Rattle.std.proofs.lemmas.List.{take_more, take_all}
use Rattle.std.proofs.lemmas.List.Elements.{All-contains, Contains-push_cases, Contains-append_left, Contains-push}
use Rattle.std.proofs.lemmas.List.Kept.{Contains-dedup_nat, Contains-from_dedup}
use Rattle.std.proofs.lemmas.List.Sorted.{IsNonDecreasingBy-from_sort, IsPermutation-sym, Contains-permutation}
use Rattle.std.proofs.lemmas.Map.Keys.{IsDistinct-IsPermutation, IsStrictlyIncreasing-from_distinct, IsStrictlyIncreasing-dedup, any_passes_from_place}
use Rattle.std.proofs.lemmas.Map.Made.{length-le_from_is_member}
use Rattle.std.proofs.lemmas.Map.Views.{exact_unsigned_eq}
use Rattle.std.proofs.lemmas.Option.{slice_get_read}
use Rattle.indexmap.proofs.CallerLemmas.{Contains-list_any}
use Rattle.elf_image.specs.declared.image.Elf.{Elf}
use Rattle.loop_data.specs.Graphs.{IsCall, IsStart}
use Rattle.loop_data.specs.Reaching.{Reached}
use Rattle.flow_recovery.specs.Reaching.{AreAllReached}
use Rattle.flow_recovery.specs.Refusals.{ReachesAtLeast}

-- numbers that differ, sorted
pub increasing : (xs ys : List ℕ) → IsDistinct nat_eq xs → IsPermutation xs ys → IsSorted nat_cmp ys → IsStrictlyIncreasing ys
increasing xs ys apart moved sorted =
    IsStrictlyIncreasing-from_distinct ys (IsNonDecreasingBy-from_sort (λ x. x) ys sorted) (IsDistinct-IsPermutation nat_eq nat_eq_equiv.symm xs ys moved apart)

pub same_members : (xs ys : List ℕ) → IsPermutation xs ys → (a : ℕ) → Contains ys a ↔ Contains xs a
same_members xs ys moved a = (Contains-permutation ys xs a (IsPermutation-sym xs ys moved), Contains-permutation xs ys a moved)

-- numbers that are sorted and then kept once
pub once_members : (xs ys zs : List ℕ) → IsPermutation xs ys → zs ≡ dedup nat_eq ys → (a : ℕ) → Contains zs a ↔ Contains xs a
once_members xs ys zs moved is a =
    let same = same_members xs ys moved a in
    (λ m. same.0 (Contains-from_dedup nat_eq ys a (subst (λ l. Contains l a) is m)), λ m. subst (λ l. Contains l a) (sym is) (Contains-dedup_nat ys a (same.1 m)))

pub once_increasing : (ys zs : List ℕ) → IsSorted nat_cmp ys → zs ≡ dedup nat_eq ys → IsStrictlyIncreasing zs
once_increasing ys zs sorted is = subst IsStrictlyIncreasing (sym is) (IsStrictlyIncreasing-dedup ys sorted)

-- the entry, or what one of these words calls
abbrev pub StartsFrom : Elf → List ℕ → ℕ → Type 0
StartsFrom elf words a = (a ≡ elf.entry) ⊎ ((from : ℕ) × Contains words from × IsCall elf from a)

-- one more word
pub StartsFrom-push : (elf : Elf) (words : List ℕ) (at a : ℕ) → (StartsFrom elf words a ⊎ IsCall elf at a) ↔ StartsFrom elf (words ++ at ∷ []) a
StartsFrom-push elf words at a = (forth, back)
  where
    forth : StartsFrom elf words a ⊎ IsCall elf at a → StartsFrom elf (words ++ at ∷ []) a
    forth (inl (inl e)) = inl e
    forth (inl (inr (from, m, call))) = inr (from, Contains-append_left words (at ∷ []) from m, call)
    forth (inr call) = inr (at, Contains-push words at, call)

    which : (from : ℕ) → IsCall elf from a → Contains words from ⊎ (at ≡ from) → StartsFrom elf words a ⊎ IsCall elf at a
    which from call (inl m) = inl (inr (from, m, call))
    which from call (inr e) = inr (subst (λ x. IsCall elf x a) (sym e) call)

    back : StartsFrom elf (words ++ at ∷ []) a → StartsFrom elf words a ⊎ IsCall elf at a
    back (inl e) = inl (inl e)
    back (inr (from, m, call)) = which from call (Contains-push_cases words at from m)

pub StartsFrom-turn : (elf : Elf) (words old new : List ℕ) (i : ℕ) → i < length words
    → ((a : ℕ) → Contains old a ↔ StartsFrom elf (take i words) a)
    → ((a : ℕ) → Contains new a ↔ (Contains old a ⊎ IsCall elf (get_or words i 0) a))
    → (a : ℕ) → Contains new a ↔ StartsFrom elf (take (i + 1) words) a
StartsFrom-turn elf words old new i h told now a =
    let at = get_or words i 0 in
    let push = StartsFrom-push elf (take i words) at a in
    let more : take (i + 1) words ≡ take i words ++ at ∷ [] = take_more words i 0 h in
    let before = told a in
    let here = now a in (
      λ m. subst (λ l. StartsFrom elf l a) (sym more) (push.0 (elim (here.0 m) [ inl p ↦ inl (before.0 p) | inr c ↦ inr c ])),
      λ s. here.1 (elim (push.1 (subst (λ l. StartsFrom elf l a) more s)) [ inl p ↦ inl (before.1 p) | inr c ↦ inr c ]),
    )

pub StartsFrom-none : (elf : Elf) (a : ℕ) → Contains (elf.entry ∷ []) a ↔ StartsFrom elf [] a
StartsFrom-none elf a = (λ m. inl (by (Contains-push_cases [] elf.entry a m)), back)
  where
    by : Contains [] a ⊎ (elf.entry ≡ a) → a ≡ elf.entry
    by (inl m) = absurd (let l = m.1 in omega arith)
    by (inr e) = sym e

    back : StartsFrom elf [] a → Contains (elf.entry ∷ []) a
    back (inl e) = subst (Contains (elf.entry ∷ [])) (sym e) (Contains-push [] elf.entry)
    back (inr (from, m, call)) = absurd (let l = m.1 in omega arith)

-- all reached words are looked at
pub StartsFrom-all : (elf : Elf) (words : List ℕ) (n a : ℕ) → AreAllReached elf words → length words ≤ n → StartsFrom elf (take n words) a ↔ IsStart elf a
StartsFrom-all elf words n a all past = (forth, back)
  where
    forth : StartsFrom elf (take n words) a → IsStart elf a
    forth (inl e) = inl e
    forth (inr (from, m, call)) = inr (from, call)

    back : IsStart elf a → StartsFrom elf (take n words) a
    back (inl e) = inl e
    back (inr (from, call)) = inr (from, subst (λ l. Contains l from) (sym (take_all n words past)) (all.every from call.reached), call)

member : (xs : List ℕ) (a : ℕ) → Contains xs a → list_any (nat_eq a) xs ≡ true
member xs a (k, h, e) = any_passes_from_place (nat_eq a) xs k a (slice_get_read xs (length xs) k a refl h (sym e)) (nat_eq_equiv.refl a)

-- no more words are reached than are found
pub reaches_no_more : (elf : Elf) (found : List ℕ) (n : ℕ) → AreAllReached elf found → length found < n → ¬ ReachesAtLeast elf n
reaches_no_more elf found n all few (xs, size, apart, reached) =
    let fits = length-le_from_is_member nat_eq_equiv xs found apart
    (λ q m. member found q (all.every q (All-contains (Reached elf) xs q reached (Contains-list_any nat_eq exact_unsigned_eq xs q m)))) in
    omega arith

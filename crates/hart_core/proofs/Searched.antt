-- What a binary search finds among entries by their headers.
use Rattle.std.proofs.Common.{◌≡◌, ◌≢◌, ℕ, zero, suc, ◌+◌, ◌<◌, ◌≤◌, ◌==◌, ◌⊎◌, inl, inr, if◌then◌else◌, true, false, List, [], ◌∷◌, length, map, get_or, Some, None, Ok, Err, refl, ap, sym, ◌∙◌, arith}
use Rattle.std.specs.List.Sorted.{IsStrictlyIncreasing, IsSearchInRange, IsBinarySearchResult, IsNonDecreasingBy}
use Rattle.std.specs.Ordering.{nat_cmp, ordering_index}
use Rattle.std.proofs.lemmas.Bool.{cases_lt}
use Rattle.std.proofs.lemmas.Bool.Decides.{nat_tests}
use Rattle.std.proofs.lemmas.Cmp.{ranked}
use Rattle.std.proofs.lemmas.List.{get_or-map, length-map}
use Rattle.std.proofs.lemmas.List.Sorted.{IsNonDecreasingBy-from_default}
use Rattle.std.proofs.lemmas.List.Kept.{AllPairs-from_increasing}
use Rattle.image_writer.specs.declared.image.Entry.{Entry}
use Rattle.hart_core.specs.declared.entries.Found.{Found}
use Rattle.hart_core.specs.Entering.{headers_of, found_from}

is_eq : (a b : ℕ) → a ≡ b → (a == b) ≡ true
is_eq a b e = grind (arith, nat_tests)

is_ne : (a b : ℕ) → a ≢ b → (a == b) ≡ false
is_ne a b e = grind (arith, nat_tests)

rises : (xs : List ℕ) → IsStrictlyIncreasing xs → (i j : ℕ) → i ≤ j → j < length xs → get_or xs i 0 ≤ get_or xs j 0
rises xs up i j le l = by (cases_lt i j)
  where
    by : (i < j) ⊎ (j ≤ i) → get_or xs i 0 ≤ get_or xs j 0
    by (inl lt) = let p = AllPairs-from_increasing xs up i j 0 lt l in omega arith
    by (inr ge) = let e : i ≡ j = omega arith in rw e (omega arith)

no_entry : Entry
no_entry = record { header = 0; stub = 0 }

header : Entry → ℕ
header e = e.header

header_is : (xs : List Entry) (k : ℕ) → k < length xs → get_or (headers_of xs) k 0 ≡ (get_or xs k no_entry).header
header_is xs k l = get_or-map (λ (e : Entry). e.header) xs k no_entry 0 l

-- the entry at a place, whose header is the address
found_at : (xs : List Entry) (x i from : ℕ) (d : Entry) → IsStrictlyIncreasing (headers_of xs) → i < length xs
    → get_or (headers_of xs) i 0 ≡ x → found_from from xs x ≡ Some (record { number = from + i; stub = (get_or xs i d).stub })
found_at [] x i from d up l e = absurd (omega arith)
found_at (u ∷ us) x zero from d up l e =
    let z : from ≡ from + 0 = omega arith in
    ap (λ b. if b then Some (record { number = from; stub = u.stub }) else found_from (suc from) us x) (is_eq u.header x e)
    ∙ ap (λ (n : ℕ). Some (record { number = n; stub = u.stub })) z
found_at (u ∷ us) x (suc i) from d up l e =
    let n = length-map us (λ (v : Entry). v.header) in
    let p = AllPairs-from_increasing (headers_of (u ∷ us)) up 0 (suc i) 0 (omega arith) (omega arith) in
    let s : suc from + i ≡ from + suc i = omega arith in
    ap (λ b. if b then Some (record { number = from; stub = u.stub }) else found_from (suc from) us x) (is_ne u.header x (λ q. omega arith))
    ∙ found_at us x i (suc from) d (λ k m. AllPairs-from_increasing (headers_of (u ∷ us)) up (suc k) (suc (k + 1)) 0 (omega arith) (omega arith)) (omega arith) e
    ∙ ap (λ (k : ℕ). Some (record { number = k; stub = (get_or us i d).stub })) s

pub entry_found : (xs : List Entry) (x i : ℕ) (d : Entry) → IsStrictlyIncreasing (headers_of xs) → IsSearchInRange (Ok i) (length xs)
    → IsBinarySearchResult (λ (v : Entry). nat_cmp v.header x) xs (Ok i)
    → found_from 0 xs x ≡ Some (record { number = i; stub = (get_or xs i d).stub })
entry_found xs x i d up l h =
    let z : 0 + i ≡ i = omega arith in
    found_at xs x i 0 d up l (header_is xs i l ∙ ranked _ x _ (sym (h no_entry)))
    ∙ ap (λ (k : ℕ). Some (record { number = k; stub = (get_or xs i d).stub })) z

none_from : (xs : List Entry) (x from : ℕ) → ((k : ℕ) → k < length xs → get_or (headers_of xs) k 0 ≢ x) → found_from from xs x ≡ None
none_from [] x from none = refl
none_from (u ∷ us) x from none =
    ap (λ b. if b then Some (record { number = from; stub = u.stub }) else found_from (suc from) us x) (is_ne u.header x (none 0 (omega arith)))
    ∙ none_from us x (suc from) (λ k l. none (suc k) (omega arith))

pub no_entry_found : (xs : List Entry) (x i : ℕ) → IsStrictlyIncreasing (headers_of xs) → IsSearchInRange (Err i) (length xs)
    → IsBinarySearchResult (λ (v : Entry). nat_cmp v.header x) xs (Err i) → found_from 0 xs x ≡ None
no_entry_found xs x i up l h = none_from xs x 0 (λ k lt e. by k lt e (cases_lt k i))
  where
    n : length (headers_of xs) ≡ length xs
    n = length-map xs (λ (e : Entry). e.header)

    higher : (a b : ℕ) → a ≤ b → ordering_index (nat_cmp a x) ≤ ordering_index (nat_cmp b x)
    higher a b le = grind (arith, nat_tests)

    keys : (a b : ℕ) → a ≤ b → b < length xs → (get_or xs a no_entry).header ≤ (get_or xs b no_entry).header
    keys a b le lt =
        let m = n in
        let r = rises (headers_of xs) up a b le (omega arith) in
        let p = header_is xs a (omega arith) in
        let q = header_is xs b lt in
        omega arith

    rise : IsNonDecreasingBy (λ (v : Entry). ordering_index (nat_cmp v.header x)) xs
    rise = IsNonDecreasingBy-from_default (λ (v : Entry). ordering_index (nat_cmp v.header x)) xs no_entry
        (λ a b le lt. higher (get_or xs a no_entry).header (get_or xs b no_entry).header (keys a b le lt))

    by : (k : ℕ) → k < length xs → get_or (headers_of xs) k 0 ≡ x → (k < i) ⊎ (i ≤ k) → ⊥
    by k lt e (inl low) =
        let p = header_is xs k lt in
        let r : (get_or xs k no_entry).header < x = ranked _ x _ (sym ((h rise).0 k no_entry (omega arith) low)) in
        absurd (omega arith)
    by k lt e (inr high) =
        let p = header_is xs k lt in
        let r : x < (get_or xs k no_entry).header = ranked _ x _ (sym ((h rise).1 k no_entry high (omega arith))) in
        absurd (omega arith)

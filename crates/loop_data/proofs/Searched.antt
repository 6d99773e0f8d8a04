-- What a binary search finds among numbers that rise, and among words by their addresses.
use Rattle.std.proofs.Common.{◌≡◌, ℕ, zero, suc, ◌+◌, ◌<◌, ◌≤◌, ◌⊎◌, inl, inr, if◌then◌else◌, List, [], ◌∷◌, length, map, get_or, Some, None, Ok, Err, refl, ap, sym, ◌∙◌, arith}
use Rattle.std.specs.List.{Contains}
use Rattle.std.specs.List.Sorted.{IsStrictlyIncreasing, IsSearchInRange, IsBinarySearchResult, IsNonDecreasingBy}
use Rattle.std.specs.Ordering.{nat_cmp, ordering_index}
use Rattle.std.proofs.lemmas.Bool.{cases_lt}
use Rattle.std.proofs.lemmas.Bool.Decides.{nat_tests}
use Rattle.std.proofs.lemmas.Cmp.{ranked}
use Rattle.std.proofs.lemmas.List.{get_or_default, get_or-map, length-map}
use Rattle.std.proofs.lemmas.List.Sorted.{searched, IsNonDecreasingBy-from_default}
use Rattle.loop_data.specs.declared.graph.Word.{Word}
use Rattle.loop_data.specs.Paths.{addresses_of}
use Rattle.loop_data.specs.Lookups.{use_of}
use Rattle.std.proofs.lemmas.List.Kept.{AllPairs-from_increasing}
use Rattle.loop_data.proofs.Tests.{is_eq, is_ne}
use Rattle.loop_data.proofs.Lists.{rises}

-- a number that lies between its neighbours is none of them
pub not_among : (xs : List ℕ) (i x : ℕ) → ((k : ℕ) → k < i → get_or xs k 0 < x) → ((k : ℕ) → i ≤ k → k < length xs → x < get_or xs k 0) → Contains xs x → ⊥
not_among xs i x low high c = below c.0 (get_or_default xs c.0 0 x c.1 ∙ c.2) (λ l. low c.0 l) (λ l. high c.0 l c.1) (cases_lt c.0 i)
  where
    below : (k : ℕ) → get_or xs k 0 ≡ x → (k < i → get_or xs k 0 < x) → (i ≤ k → x < get_or xs k 0) → (k < i) ⊎ (i ≤ k) → ⊥
    below k e f g (inl l) = let p = f l in absurd (omega arith)
    below k e f g (inr l) = let p = g l in absurd (omega arith)

pub none_found : (xs : List ℕ) (x i : ℕ) → IsStrictlyIncreasing xs → IsBinarySearchResult (λ y. nat_cmp y x) xs (Err i) → Contains xs x → ⊥
none_found xs x i up h = let s = searched xs x (Err i) h (rises xs up) in not_among xs i x s.1 s.2

module _ {X : Type 0} (key : X → ℕ) (d : X) where
  key_is : (xs : List X) (k : ℕ) → k < length xs → get_or (map key xs) k 0 ≡ key (get_or xs k d)
  key_is xs k l = get_or-map key xs k d 0 l

  pub found_by_key : (xs : List X) (x i : ℕ) → IsSearchInRange (Ok i) (length xs) → IsBinarySearchResult (λ v. nat_cmp (key v) x) xs (Ok i) → (i < length xs) × (get_or (map key xs) i 0 ≡ x)
  found_by_key xs x i l h = (l, key_is xs i l ∙ ranked _ x _ (sym (h d)))

  pub none_by_key : (xs : List X) (x i : ℕ) → IsStrictlyIncreasing (map key xs) → IsSearchInRange (Err i) (length xs) → IsBinarySearchResult (λ v. nat_cmp (key v) x) xs (Err i) → Contains (map key xs) x → ⊥
  none_by_key xs x i up l h = not_among (map key xs) i x low high
    where
      n : length (map key xs) ≡ length xs
      n = length-map xs key

      higher : (a b : ℕ) → a ≤ b → ordering_index (nat_cmp a x) ≤ ordering_index (nat_cmp b x)
      higher a b le = grind (arith, nat_tests)

      keys : (a b : ℕ) → a ≤ b → b < length xs → key (get_or xs a d) ≤ key (get_or xs b d)
      keys a b le lt =
          let m = n in
          let r = rises (map key xs) up a b le (omega arith) in
          let p = key_is xs a (omega arith) in
          let q = key_is xs b lt in
          omega arith

      rise : IsNonDecreasingBy (λ v. ordering_index (nat_cmp (key v) x)) xs
      rise = IsNonDecreasingBy-from_default (λ v. ordering_index (nat_cmp (key v) x)) xs d (λ a b le lt. higher (key (get_or xs a d)) (key (get_or xs b d)) (keys a b le lt))

      low : (k : ℕ) → k < i → get_or (map key xs) k 0 < x
      low k lt = let m = n in let p = key_is xs k (omega arith) in let r : key (get_or xs k d) < x = ranked _ x _ (sym ((h rise).0 k d (omega arith) lt)) in omega arith

      high : (k : ℕ) → i ≤ k → k < length (map key xs) → x < get_or (map key xs) k 0
      high k le lt = let m = n in let p = key_is xs k (omega arith) in let r : x < key (get_or xs k d) = ranked _ x _ (sym ((h rise).1 k d le (omega arith))) in omega arith

no_word : Word
no_word = record { at = 0; bits = 0; steps = record { items = [] } }

pub word_found : (ws : List Word) (x i : ℕ) → IsSearchInRange (Ok i) (length ws) → IsBinarySearchResult (λ (w : Word). nat_cmp w.at x) ws (Ok i) → (i < length ws) × (get_or (addresses_of ws) i 0 ≡ x)
word_found = found_by_key (λ (w : Word). w.at) no_word

pub no_word_found : (ws : List Word) (x i : ℕ) → IsStrictlyIncreasing (addresses_of ws) → IsSearchInRange (Err i) (length ws) → IsBinarySearchResult (λ (w : Word). nat_cmp w.at x) ws (Err i) → Contains (addresses_of ws) x → ⊥
no_word_found = none_by_key (λ (w : Word). w.at) no_word

abbrev address : ℕ × ℕ → ℕ
address u = u.0

-- the use at a place
pub use_found : (us : List (ℕ × ℕ)) (x i : ℕ) (d : ℕ × ℕ) → IsStrictlyIncreasing (map (λ (u : ℕ × ℕ). u.0) us) → i < length us → get_or (map (λ (u : ℕ × ℕ). u.0) us) i 0 ≡ x → use_of us x ≡ Some (get_or us i d).1
use_found [] x i d up l e = absurd (omega arith)
use_found (u ∷ us) x zero d up l e = ap (λ b. if b then Some u.1 else use_of us x) (is_eq u.0 x e)
use_found (u ∷ us) x (suc i) d up l e =
    let p = AllPairs-from_increasing (map (λ (u : ℕ × ℕ). u.0) (u ∷ us)) up 0 (suc i) 0 (omega arith) (let n = length-map us (λ (u : ℕ × ℕ). u.0) in omega arith) in
    ap (λ b. if b then Some u.1 else use_of us x) (is_ne u.0 x (λ q. omega arith)) ∙ use_found us x i d (λ k m. AllPairs-from_increasing (map (λ (u : ℕ × ℕ). u.0) (u ∷ us)) up (suc k) (suc (k + 1)) 0 (omega arith) (omega arith)) (omega arith) e

pub no_use : (us : List (ℕ × ℕ)) (x : ℕ) → (Contains (map (λ (u : ℕ × ℕ). u.0) us) x → ⊥) → use_of us x ≡ None
no_use [] x none = refl
no_use (u ∷ us) x none =
    ap (λ b. if b then Some u.1 else use_of us x) (is_ne u.0 x (λ q. none (0, (omega arith), q))) ∙ no_use us x (λ c. none (suc c.0, (let l = c.1 in omega arith), c.2))

-- Elements of lists by their place, and lists that rise.
use Rattle.std.proofs.Common.{ℕ, zero, suc, ◌≡◌, ◌≢◌, ◌-◌, ◌<◌, ◌≤◌, ◌⊎◌, inl, inr, List, [], ◌∷◌, ◌++◌, length, set, take, get_or, Some, refl, sym, ap, subst, ◌∙◌, arith}
use Rattle.std.specs.List.{slice_get, Contains}
use Rattle.std.proofs.lemmas.Bool.{cases_eq, cases_lt}
use Rattle.std.proofs.lemmas.Option.{none-some, same_Some, slice_get_within, slice_get-get_or, get_or_from_slice_get}
use Rattle.std.proofs.lemmas.List.{length_push, take_at, get_or_push, get_or_append_left, get_or_default}
use Rattle.std.proofs.lemmas.List.Elements.{Contains-push_cases, Contains-append_left, Contains-get_or}
use Rattle.strong_components.specs.Search.{Rises, IsLast, IsCut}

pub get_push_same : {X : Type 0} (xs : List X) (y : X) → slice_get (xs ++ y ∷ []) (length xs) ≡ Some y
get_push_same [] y = refl
get_push_same (x ∷ xs) y = get_push_same xs y

pub get_push_old : {X : Type 0} (xs : List X) (y v : X) (i : ℕ) → slice_get xs i ≡ Some v → slice_get (xs ++ y ∷ []) i ≡ Some v
get_push_old [] y v i e = absurd (none-some v e)
get_push_old (x ∷ xs) y v zero e = e
get_push_old (x ∷ xs) y v (suc i) e = get_push_old xs y v i e

pub get_push_cases : {X : Type 0} (xs : List X) (y v : X) (i : ℕ) → slice_get (xs ++ y ∷ []) i ≡ Some v → (slice_get xs i ≡ Some v) ⊎ ((i ≡ length xs) × (y ≡ v))
get_push_cases [] y v zero e = inr (refl, same_Some y v e)
get_push_cases [] y v (suc i) e = absurd (none-some v e)
get_push_cases (x ∷ xs) y v zero e = inl e
get_push_cases (x ∷ xs) y v (suc i) e = elim (get_push_cases xs y v i e) [ inl h ↦ inl h | inr h ↦ inr (ap suc h.0, h.1) ]

pub get_set_same : {X : Type 0} (xs : List X) (i : ℕ) (y : X) → i < length xs → slice_get (set xs i y) i ≡ Some y
get_set_same [] i y h = absurd (omega arith)
get_set_same (x ∷ xs) zero y h = refl
get_set_same (x ∷ xs) (suc i) y h = get_set_same xs i y (omega arith)

pub get_set_other : {X : Type 0} (xs : List X) (i j : ℕ) (y : X) → j ≢ i → slice_get (set xs i y) j ≡ slice_get xs j
get_set_other [] i j y h = refl
get_set_other (x ∷ xs) zero zero y h = absurd (h refl)
get_set_other (x ∷ xs) zero (suc j) y h = refl
get_set_other (x ∷ xs) (suc i) zero y h = refl
get_set_other (x ∷ xs) (suc i) (suc j) y h = get_set_other xs i j y (λ e. h (ap suc e))

pub get_set_cases : {X : Type 0} (xs : List X) (i j : ℕ) (y v : X) → i < length xs → slice_get (set xs i y) j ≡ Some v → ((j ≡ i) × (y ≡ v)) ⊎ ((j ≡ i → ⊥) × (slice_get xs j ≡ Some v))
get_set_cases xs i j y v h e =
    elim (cases_eq j i) [
      | inl s ↦ let at : slice_get (set xs i y) i ≡ Some v = rw s at e in inl (s, same_Some y v (sym (get_set_same xs i y h) ∙ at))
      | inr n ↦ inr (n, sym (get_set_other xs i j y n) ∙ e)
    ]

pub get_take : {X : Type 0} (n : ℕ) (xs : List X) (i : ℕ) (v : X) → i < n → slice_get xs i ≡ Some v → slice_get (take n xs) i ≡ Some v
get_take n [] i v h e = absurd (none-some v e)
get_take zero (x ∷ xs) i v h e = absurd (omega arith)
get_take (suc n) (x ∷ xs) zero v h e = e
get_take (suc n) (x ∷ xs) (suc i) v h e = get_take n xs i v (omega arith) e

pub get_take_some : {X : Type 0} (n : ℕ) (xs : List X) (i : ℕ) (v : X) → slice_get (take n xs) i ≡ Some v → (i < n) × (slice_get xs i ≡ Some v)
get_take_some zero xs i v e = absurd (none-some v e)
get_take_some (suc n) [] i v e = absurd (none-some v e)
get_take_some (suc n) (x ∷ xs) zero v e = (omega arith, e)
get_take_some (suc n) (x ∷ xs) (suc i) v e = let h = get_take_some n xs i v e in (omega arith, h.1)

-- an element has a place
pub contains_from_get : (xs : List ℕ) (i x : ℕ) → slice_get xs i ≡ Some x → Contains xs x
contains_from_get xs i x e = (i, slice_get_within xs i x e, get_or_from_slice_get xs i x x e)

-- a list with a last element ends in it
pub last_split : (xs : List ℕ) (x : ℕ) → IsLast xs x → (front : List ℕ) × (xs ≡ front ++ x ∷ [])
last_split [] x e = absurd (none-some x e)
last_split (y ∷ []) x e = ([], ap (λ z. z ∷ []) (same_Some y x e))
last_split (y ∷ z ∷ zs) x e =
    let n : length (z ∷ zs) - 1 ≡ length zs = omega arith in
    let m : length (y ∷ z ∷ zs) - 1 ≡ suc (length zs) = omega arith in
    let at : slice_get (y ∷ z ∷ zs) (suc (length zs)) ≡ Some x = rw m at e in
    let inner : IsLast (z ∷ zs) x = rw n at in
    let rest = last_split (z ∷ zs) x inner in
    (y ∷ rest.0, (let e = rest.1 in cc))

-- lists with the same elements at the same places are the same
pub same_from_get : {X : Type 0} (xs ys : List X) → ((i : ℕ) → slice_get xs i ≡ slice_get ys i) → xs ≡ ys
same_from_get [] [] h = refl
same_from_get [] (y ∷ ys) h = absurd (none-some y (h 0))
same_from_get (x ∷ xs) [] h = absurd (none-some x (sym (h 0)))
same_from_get (x ∷ xs) (y ∷ ys) h = let head = same_Some x y (h 0) in let rest = same_from_get xs ys (λ i. h (suc i)) in cc

pub Rises_push : (xs : List ℕ) (y : ℕ) → Rises xs → ((x : ℕ) → Contains xs x → x < y) → Rises (xs ++ y ∷ [])
Rises_push xs y rises above i j h l =
    let n = length_push xs y in
    let at_i = get_or_append_left xs (y ∷ []) 0 i (omega arith) in
    elim (cases_lt j (length xs)) [
      | inl in_front ↦ let at_j = get_or_append_left xs (y ∷ []) 0 j in_front in let r = rises i j h in_front in omega arith
      | inr past ↦ let at_j = get_or_push xs y 0 j (omega arith) in let r = above _ (Contains-get_or xs i 0 (omega arith)) in omega arith
    ]

pub Rises_pop : (xs : List ℕ) (y : ℕ) → Rises (xs ++ y ∷ []) → Rises xs × ((x : ℕ) → Contains xs x → x < y)
Rises_pop xs y rises =
    let n = length_push xs y in (
      λ i j h l.
          let at_i = get_or_append_left xs (y ∷ []) 0 i (omega arith) in
          let at_j = get_or_append_left xs (y ∷ []) 0 j l in
          let r = rises i j h (omega arith) in omega arith,
      λ x has.
          let at_k = get_or_append_left xs (y ∷ []) 0 has.0 has.1 in
          let is = get_or_default xs has.0 x 0 has.1 in
          let at_y = get_or_push xs y 0 (length xs) refl in
          let r = rises has.0 (length xs) has.1 (omega arith) in
          let s = has.2 in omega arith,
    )

-- of the numbers of a list, at least those up to a limit are left
pub record IsCutAbove (old new : List ℕ) (limit : ℕ) : Type 0 where
  pub rises : Rises new
  pub old_ones : (b : ℕ) → Contains new b → Contains old b
  pub kept : (b : ℕ) → Contains old b → b ≤ limit → Contains new b
  pub no_more : length new ≤ length old

pub cut_none : (xs : List ℕ) (limit : ℕ) → Rises xs → IsCutAbove xs xs limit
cut_none xs limit rises =
    record { rises = rises; old_ones = λ b has. has; kept = λ b has _. has; no_more = omega arith }

-- without its last element a list is what stands before it
pub take_front : (xs : List ℕ) (x n : ℕ) (ys : List ℕ) → IsLast xs x → n ≡ length xs → ys ≡ take (n - 1) xs → xs ≡ ys ++ x ∷ []
take_front xs x count ys is_last all is =
    let split = last_split xs x is_last in
    let n = length_push split.0 x in
    let m : length xs ≡ length (split.0 ++ x ∷ []) = ap length split.1 in
    let k : count - 1 ≡ length split.0 = omega arith in
    let cut : take (length split.0) (split.0 ++ x ∷ []) ≡ split.0 = take_at split.0 (x ∷ []) (length split.0) refl in
    let same : ys ≡ split.0 = is ∙ ap (λ i. take i xs) k ∙ ap (take (length split.0)) split.1 ∙ cut in
    split.1 ∙ ap (λ l. l ++ x ∷ []) (sym same)

-- the last number is dropped, which is above the limit
pub cut_more : (old new newer : List ℕ) (last limit count : ℕ) → IsCutAbove old new limit → IsLast new last → count ≡ length new → newer ≡ take (count - 1) new → limit < last → IsCutAbove old newer limit
cut_more old new newer last limit count cut is_last all is above =
    let split : new ≡ newer ++ last ∷ [] = take_front new last count newer is_last all is in
    let n = length_push newer last in
    let m : length new ≡ length (newer ++ last ∷ []) = ap length split in
    let rises : Rises (newer ++ last ∷ []) = subst Rises split cut.rises in
    record {
      rises = (Rises_pop newer last rises).0;
      old_ones = λ b has. cut.old_ones b (subst (λ l. Contains l b) (sym split) (Contains-append_left newer (last ∷ []) b has));
      kept = λ b has low.
          let moved : Contains (newer ++ last ∷ []) b = subst (λ l. Contains l b) split (cut.kept b has low) in
          elim (Contains-push_cases newer last b moved) [ inl h ↦ h | inr e ↦ absurd (omega arith) ];
      no_more = let k = cut.no_more in omega arith;
    }

-- the last number is within the limit, and so are all
pub cut_end : (old new : List ℕ) (last limit : ℕ) → IsCutAbove old new limit → IsLast new last → last ≤ limit → IsCut old new limit
cut_end old new last limit cut is_last low =
    let split = last_split new last is_last in
    let rises : Rises (split.0 ++ last ∷ []) = subst Rises split.1 cut.rises in
    let below = (Rises_pop split.0 last rises).1 in
    record {
      rises = cut.rises;
      old_ones = cut.old_ones;
      not_above = λ b has.
          let moved : Contains (split.0 ++ last ∷ []) b = subst (λ l. Contains l b) split.1 has in
          elim (Contains-push_cases split.0 last b moved) [ inl h ↦ (let r = below b h in omega arith) | inr e ↦ omega arith ];
      kept = cut.kept;
      no_more = cut.no_more;
    }

-- no number is left
pub cut_all : (old : List ℕ) (limit : ℕ) → IsCutAbove old [] limit → IsCut old [] limit
cut_all old limit cut =
    record {
      rises = cut.rises;
      old_ones = cut.old_ones;
      not_above = λ b has. absurd (omega (arith, has.1));
      kept = cut.kept;
      no_more = cut.no_more;
    }

-- the last of a list that rises is its greatest
pub last_greatest : (xs : List ℕ) (x y : ℕ) → Rises xs → IsLast xs x → Contains xs y → y ≤ x
last_greatest xs x y rises is_last has =
    let split = last_split xs x is_last in
    let moved : Rises (split.0 ++ x ∷ []) = subst Rises split.1 rises in
    let there : Contains (split.0 ++ x ∷ []) y = subst (λ l. Contains l y) split.1 has in
    elim (Contains-push_cases split.0 x y there) [ inl h ↦ (let r = (Rises_pop split.0 x moved).1 y h in omega arith) | inr e ↦ omega arith ]

-- the greatest of a list that rises is its last
pub greatest_last : (xs : List ℕ) (x : ℕ) → Rises xs → Contains xs x → ((y : ℕ) → Contains xs y → y ≤ x) → IsLast xs x
greatest_last xs x rises has most =
    let k = has.0 in let in_list = has.1 in
    let here : slice_get xs k ≡ Some x = slice_get-get_or xs k x in_list ∙ ap Some has.2 in
    elim (cases_lt k (length xs - 1)) [
      | inl low ↦
          absurd (
          let r = rises k (length xs - 1) low (omega arith) in
          let m = most _ (Contains-get_or xs (length xs - 1) 0 (omega arith)) in
          let is : get_or xs k 0 ≡ x = get_or_from_slice_get xs k x 0 here in
          omega arith)
      | inr high ↦ (let e : k ≡ length xs - 1 = omega arith in subst (λ i. slice_get xs i ≡ Some x) e here)
    ]

-- Rows with a number more, and the words that lead to each word.
use Rattle.std.proofs.Common.{◌≡◌, ◌≢◌, ℕ, ◌+◌, ◌<◌, ◌≤◌, ◌⊎◌, ◌↔◌, inl, inr, Bool, true, false, List, [], ◌∷◌, ◌++◌, length, get_or, set, take, drop, replicate, refl, ap, sym, ◌∙◌, subst, arith}
use Rattle.std.specs.List.{Contains}
use Rattle.std.specs.List.Sorted.{IsStrictlyIncreasing}
use Rattle.std.proofs.lemmas.Bool.{cases_eq, cases_lt, false≢true}
use Rattle.std.proofs.lemmas.List.{get_or-set_same, get_or-set_other, length-set, take_more, get_or_default, get_or-map, length-map, length-replicate, get_or-replicate, drop_all, append-nil, take_all}
use Rattle.std.proofs.lemmas.List.Elements.{Contains-push_cases, Contains-push, Contains-append_left, Contains-get_or}
use Rattle.std.proofs.lemmas.List.Kept.{AllPairs-from_increasing}
use Rattle.loop_data.specs.declared.graph.Word.{Word}
use Rattle.loop_data.specs.declared.graph.Graph.{Graph}
use Rattle.loop_data.specs.Paths.{addresses, IsInOrder, Leads}
use Rattle.loop_shapes.specs.Places.{HasPredecessors, AreFlags, Marked, count_of, at}
use Rattle.loop_data.proofs.Lists.{to_in, from_in, In}
use Rattle.loop_data.specs.Flows.{Added, row_at}

-- the places of two equal numbers among numbers that rise
pub same_place : (xs : List ℕ) → IsStrictlyIncreasing xs → (i j : ℕ) → i < length xs → j < length xs → get_or xs i 0 ≡ get_or xs j 0 → i ≡ j
same_place xs up i j li lj e = below (cases_lt i j)
  where
    lt : (i j : ℕ) → i < j → j < length xs → get_or xs i 0 < get_or xs j 0
    lt i j l m = AllPairs-from_increasing xs up i j 0 l m

    below : (i < j) ⊎ (j ≤ i) → i ≡ j
    below (inl l) = let p = lt i j l lj in absurd (omega arith)
    below (inr l) = above (cases_lt j i)
      where
        above : (j < i) ⊎ (i ≤ j) → i ≡ j
        above (inl m) = let p = lt j i m li in absurd (omega arith)
        above (inr m) = omega arith

pub alone : (y x : ℕ) → Contains (y ∷ []) x → y ≡ x
alone y x c = by (to_in (y ∷ []) x c)
  where
    by : In (y ∷ []) x → y ≡ x
    by (inl e) = e
    by (inr i) = absurd i

pub none_in : {A : Type 0} (x : ℕ) → Contains {X = ℕ} [] x → A
none_in x c = let l = c.1 in absurd (omega arith)

-- the row of an address gets the number
pub added_at : (xs : List ℕ) → IsStrictlyIncreasing xs → (rows : List (List ℕ)) → length rows ≡ length xs → (to from y : ℕ) → to < length xs → get_or xs to 0 ≡ y → (new : List (List ℕ)) → new ≡ set rows to (get_or rows to [] ++ from ∷ []) → Added xs from (Contains (y ∷ [])) rows new
added_at xs up rows same to from y l is new n = subst (Added xs from (Contains (y ∷ [])) rows) (sym n) (record { count = length-set rows to _; kept = kept; each = each; every = every })
  where
    fits : to < length rows
    fits = omega arith

    kept : (j k : ℕ) → Contains (row_at rows j) k → Contains (row_at (set rows to (get_or rows to [] ++ from ∷ [])) j) k
    kept j k c = by (cases_eq j to)
      where
        by : (j ≡ to) ⊎ (j ≢ to) → Contains (row_at (set rows to (get_or rows to [] ++ from ∷ [])) j) k
        by (inl e) = subst (λ (q : ℕ). Contains (row_at (set rows to (get_or rows to [] ++ from ∷ [])) q) k) (sym e) (rw (get_or-set_same rows to (get_or rows to [] ++ from ∷ []) [] fits) (Contains-append_left (row_at rows to) (from ∷ []) k (subst (λ (q : ℕ). Contains (row_at rows q) k) e c)))
        by (inr ne) = rw (get_or-set_other rows to j (get_or rows to [] ++ from ∷ []) [] ne) c

    each : (j k : ℕ) → Contains (row_at (set rows to (get_or rows to [] ++ from ∷ [])) j) k → Contains (row_at rows j) k ⊎ ((k ≡ from) × (j < length xs) × Contains (y ∷ []) (get_or xs j 0))
    each j k c = by (cases_eq j to)
      where
        pushed : j ≡ to → Contains (row_at rows j) k ⊎ (from ≡ k) → Contains (row_at rows j) k ⊎ ((k ≡ from) × (j < length xs) × Contains (y ∷ []) (get_or xs j 0))
        pushed e (inl d) = inl d
        pushed e (inr f) = inr (sym f, omega arith, from_in (y ∷ []) (get_or xs j 0) (inl (sym is ∙ ap (λ q. get_or xs q 0) (sym e))))

        by : (j ≡ to) ⊎ (j ≢ to) → Contains (row_at rows j) k ⊎ ((k ≡ from) × (j < length xs) × Contains (y ∷ []) (get_or xs j 0))
        by (inl e) = pushed e (Contains-push_cases (row_at rows j) from k (subst (λ (q : ℕ). Contains (row_at rows q ++ from ∷ []) k) (sym e) (rw (get_or-set_same rows to (get_or rows to [] ++ from ∷ []) [] fits) at (subst (λ (q : ℕ). Contains (row_at (set rows to (get_or rows to [] ++ from ∷ [])) q) k) e c))))
        by (inr ne) = inl (rw (get_or-set_other rows to j (get_or rows to [] ++ from ∷ []) [] ne) at c)

    every : (j : ℕ) → j < length xs → Contains (y ∷ []) (get_or xs j 0) → Contains (row_at (set rows to (get_or rows to [] ++ from ∷ [])) j) from
    every j m c =
        let e : j ≡ to = same_place xs up j to m l (sym (alone y (get_or xs j 0) c) ∙ sym is) in
        subst (λ (q : ℕ). Contains (row_at (set rows to (get_or rows to [] ++ from ∷ [])) q) from) (sym e) (rw (get_or-set_same rows to (get_or rows to [] ++ from ∷ []) [] fits) (Contains-push (row_at rows to) from))

-- an address of no word has no row
pub added_nowhere : (xs : List ℕ) (rows : List (List ℕ)) (from y : ℕ) → (Contains xs y → ⊥) → Added xs from (Contains (y ∷ [])) rows rows
added_nowhere xs rows from y absent = record { count = refl; kept = λ j k c. c; each = λ j k c. inl c; every = λ j l c. absurd (absent (subst (Contains xs) (sym (alone y (get_or xs j 0) c)) (Contains-get_or xs j 0 l))) }

pub added_more : (xs ys : List ℕ) (from i : ℕ) (old mid new : List (List ℕ)) → i < length ys → Added xs from (Contains (take i ys)) old mid → Added xs from (Contains (get_or ys i 0 ∷ [])) mid new → Added xs from (Contains (take (i + 1) ys)) old new
added_more xs ys from i old mid new l a b = rw (take_more ys i 0 l) (record { count = b.count ∙ a.count; kept = λ j k c. b.kept j k (a.kept j k c); each = each; every = every })
  where
    each : (j k : ℕ) → Contains (row_at new j) k → Contains (row_at old j) k ⊎ ((k ≡ from) × (j < length xs) × Contains (take i ys ++ get_or ys i 0 ∷ []) (get_or xs j 0))
    each j k c = by (b.each j k c)
      where
        first : Contains (row_at old j) k ⊎ ((k ≡ from) × (j < length xs) × Contains (take i ys) (get_or xs j 0)) → Contains (row_at old j) k ⊎ ((k ≡ from) × (j < length xs) × Contains (take i ys ++ get_or ys i 0 ∷ []) (get_or xs j 0))
        first (inl d) = inl d
        first (inr d) = inr (d.0, d.1, Contains-append_left (take i ys) (get_or ys i 0 ∷ []) (get_or xs j 0) d.2)

        by : Contains (row_at mid j) k ⊎ ((k ≡ from) × (j < length xs) × Contains (get_or ys i 0 ∷ []) (get_or xs j 0)) → Contains (row_at old j) k ⊎ ((k ≡ from) × (j < length xs) × Contains (take i ys ++ get_or ys i 0 ∷ []) (get_or xs j 0))
        by (inl d) = first (a.each j k d)
        by (inr d) = inr (d.0, d.1, subst (Contains (take i ys ++ get_or ys i 0 ∷ [])) (alone (get_or ys i 0) (get_or xs j 0) d.2) (Contains-push (take i ys) (get_or ys i 0)))

    every : (j : ℕ) → j < length xs → Contains (take i ys ++ get_or ys i 0 ∷ []) (get_or xs j 0) → Contains (row_at new j) from
    every j m c = by (Contains-push_cases (take i ys) (get_or ys i 0) (get_or xs j 0) c)
      where
        by : Contains (take i ys) (get_or xs j 0) ⊎ (get_or ys i 0 ≡ get_or xs j 0) → Contains (row_at new j) from
        by (inl d) = b.kept j from (a.every j m d)
        by (inr e) = b.every j m (from_in (get_or ys i 0 ∷ []) (get_or xs j 0) (inl e))

pub address_at : (G : Graph) (k : ℕ) (w : Word) → k < length G.words → get_or G.words k w ≡ w → w.at ≡ at G k
address_at G k w l e = sym (get_or-map (λ (v : Word). v.at) G.words k w 0 l ∙ ap (λ (v : Word). v.at) e)

-- what leads from the word at a place is a step of that word
pub steps_at : (G : Graph) → IsInOrder G → (i : ℕ) (w : Word) → i < count_of G → w ≡ get_or G.words i w → (y : ℕ) → Leads G (at G i) y → Contains w.steps.items y
steps_at G up i w l is y lead =
    let n = length-map G.words (λ (v : Word). v.at) in
    let k = lead.among.0 in
    let m : k < length (addresses G) = let q = lead.among.1 in omega arith in
    let e : k ≡ i = same_place (addresses G) up k i m l (sym (address_at G k lead.word lead.among.1 lead.among.2) ∙ lead.at) in
    let same : lead.word ≡ w = sym lead.among.2 ∙ get_or_default G.words k lead.word w lead.among.1 ∙ ap (λ q. get_or G.words q w) e ∙ sym is in
    subst (λ (v : Word). Contains v.steps.items y) same lead.step

-- a step of the word at a place leads from it
pub leads_at : (G : Graph) (i : ℕ) (w : Word) → i < length G.words → w ≡ get_or G.words i w → (y : ℕ) → Contains w.steps.items y → Leads G (at G i) y
leads_at G i w l is y c = record { word = w; among = (i, l, sym is); at = address_at G i w l (sym is); step = c }

pub sources_more : (G : Graph) → IsInOrder G → (i : ℕ) (w : Word) (old new : List (List ℕ)) → i < count_of G → w ≡ get_or G.words i w → HasPredecessors G i old → Added (addresses G) i (Contains w.steps.items) old new → HasPredecessors G (i + 1) new
sources_more G up i w old new l is s a = record { count = a.count ∙ s.count; each = each; every = every }
  where
    each : (j k : ℕ) → Contains (row_at new j) k → (k < i + 1) × Leads G (at G k) (at G j)
    each j k c = by (a.each j k c)
      where
        by : Contains (row_at old j) k ⊎ ((k ≡ i) × (j < count_of G) × Contains w.steps.items (at G j)) → (k < i + 1) × Leads G (at G k) (at G j)
        by (inl d) = let r = s.each j k d in let q = r.0 in (omega arith, r.1)
        by (inr d) =
            let e = d.0 in
            let n = length-map G.words (λ (v : Word). v.at) in
            (omega arith, subst (λ (q : ℕ). Leads G (at G q) (at G j)) (sym e) (leads_at G i w (omega arith) is (at G j) d.2))

    every : (j k : ℕ) → k < i + 1 → j < count_of G → Leads G (at G k) (at G j) → Contains (row_at new j) k
    every j k m lj lead = by (cases_eq k i)
      where
        by : (k ≡ i) ⊎ (k ≢ i) → Contains (row_at new j) k
        by (inl e) = subst (Contains (row_at new j)) (sym e) (a.every j lj (steps_at G up i w l is (at G j) (subst (λ (q : ℕ). Leads G (at G q) (at G j)) e lead)))
        by (inr ne) = a.kept j k (s.every j k (omega arith) lj lead)

-- a flag more at the place of an address
pub marked_at : (xs : List ℕ) → IsStrictlyIncreasing xs → (flags : List Bool) → length flags ≡ length xs → (i x : ℕ) → i < length xs → get_or xs i 0 ≡ x → Marked xs x flags (set flags i true)
marked_at xs up flags same i x l is = record { count = length-set flags i true; each = each }
  where
    each : (j : ℕ) → j < length xs → (get_or (set flags i true) j false ≡ true) ↔ ((get_or flags j false ≡ true) ⊎ (get_or xs j 0 ≡ x))
    each j m = by (cases_eq j i)
      where
        by : (j ≡ i) ⊎ (j ≢ i) → (get_or (set flags i true) j false ≡ true) ↔ ((get_or flags j false ≡ true) ⊎ (get_or xs j 0 ≡ x))
        by (inl e) = (λ _. inr (ap (λ q. get_or xs q 0) e ∙ is), λ _. ap (λ q. get_or (set flags i true) q false) e ∙ get_or-set_same flags i true false (omega arith))
        by (inr ne) =
            let e = get_or-set_other flags i j true false ne in
            (λ f. inl (sym e ∙ f), other e)
          where
            other : get_or (set flags i true) j false ≡ get_or flags j false → (get_or flags j false ≡ true) ⊎ (get_or xs j 0 ≡ x) → get_or (set flags i true) j false ≡ true
            other e (inl f) = e ∙ f
            other e (inr f) = absurd (ne (same_place xs up j i m l (f ∙ sym is)))

pub marked_nowhere : (xs : List ℕ) (flags : List Bool) (x : ℕ) → (Contains xs x → ⊥) → Marked xs x flags flags
marked_nowhere xs flags x absent = record { count = refl; each = λ j m. (λ f. inl f, here j m) }
  where
    here : (j : ℕ) → j < length xs → (get_or flags j false ≡ true) ⊎ (get_or xs j 0 ≡ x) → get_or flags j false ≡ true
    here j m (inl f) = f
    here j m (inr e) = absurd (absent (subst (Contains xs) e (Contains-get_or xs j 0 m)))

pub flags_none : (G : Graph) (P : ℕ → Type 0) → ((x : ℕ) → P x → ⊥) → (flags : List Bool) → flags ≡ replicate (count_of G) false → AreFlags G P flags
flags_none G P none flags e = record { count = ap length e ∙ length-replicate (count_of G) false; each = λ i l. (λ t. absurd (false≢true (sym (get_or-replicate (count_of G) i false false l) ∙ ap (λ (q : List Bool). get_or q i false) (sym e) ∙ t)), λ p. absurd (none (at G i) p)) }

pub flags_more : (G : Graph) (P Q : ℕ → Type 0) (x : ℕ) → ((y : ℕ) → Q y ↔ (P y ⊎ (y ≡ x))) → (old new : List Bool) → AreFlags G P old → Marked (addresses G) x old new → AreFlags G Q new
flags_more G P Q x same old new a m = record { count = m.count ∙ a.count; each = λ i l. (λ t. (same (at G i)).1 (there i l ((m.each i l).0 t)), λ q. (m.each i l).1 (back i l ((same (at G i)).0 q))) }
  where
    there : (i : ℕ) → i < count_of G → (get_or old i false ≡ true) ⊎ (at G i ≡ x) → P (at G i) ⊎ (at G i ≡ x)
    there i l (inl t) = inl ((a.each i l).0 t)
    there i l (inr e) = inr e

    back : (i : ℕ) → i < count_of G → P (at G i) ⊎ (at G i ≡ x) → (get_or old i false ≡ true) ⊎ (at G i ≡ x)
    back i l (inl p) = inl ((a.each i l).1 p)
    back i l (inr e) = inr e

-- one more of a list
pub contains_more : (ys : List ℕ) (i : ℕ) → i < length ys → (x : ℕ) → Contains (take (i + 1) ys) x ↔ (Contains (take i ys) x ⊎ (x ≡ get_or ys i 0))
contains_more ys i l x = (λ c. there (Contains-push_cases (take i ys) (get_or ys i 0) x (rw (take_more ys i 0 l) at c)), λ s. rw (take_more ys i 0 l) (back s))
  where
    there : Contains (take i ys) x ⊎ (get_or ys i 0 ≡ x) → Contains (take i ys) x ⊎ (x ≡ get_or ys i 0)
    there (inl c) = inl c
    there (inr e) = inr (sym e)

    back : Contains (take i ys) x ⊎ (x ≡ get_or ys i 0) → Contains (take i ys ++ get_or ys i 0 ∷ []) x
    back (inl c) = Contains-append_left (take i ys) (get_or ys i 0 ∷ []) x c
    back (inr e) = subst (Contains (take i ys ++ get_or ys i 0 ∷ [])) (sym e) (Contains-push (take i ys) (get_or ys i 0))

-- a vector whose items were all written
pub kept_whole : {X : Type 0} (n : ℕ) (xs ys : List X) → length xs ≡ length ys → n ≡ length ys → take n (xs ++ drop (length xs) ys) ≡ xs
kept_whole n xs ys e f =
    let gone = drop_all (length xs) ys (omega arith) in
    let all : take n (xs ++ []) ≡ take n xs = ap (take n) (append-nil xs) in
    rw gone (all ∙ take_all n xs (omega arith))

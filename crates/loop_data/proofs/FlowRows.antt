-- Rows with a number more, and the sources of the words of a body.
use Rattle.std.proofs.Common.{◌≡◌, ◌≢◌, ℕ, zero, suc, ◌+◌, ◌<◌, ◌⊎◌, inl, inr, true, false, List, [], ◌∷◌, ◌++◌, length, get_or, set, take, replicate, refl, ap, sym, ◌∙◌, subst, arith}
use Rattle.std.specs.List.{Contains}
use Rattle.std.specs.List.Sorted.{IsStrictlyIncreasing}
use Rattle.std.proofs.lemmas.Bool.{cases_eq}
use Rattle.std.proofs.lemmas.List.{get_or-set_same, get_or-set_other, length-set, take_more, get_or-map, length-replicate}
use Rattle.std.proofs.lemmas.List.Elements.{Contains-push_cases, Contains-push, Contains-append_left, Contains-get_or}
use Rattle.std.specs.declared.vec.Vec.{Vec}
use Rattle.std.specs.declared.alloc.Global.{Global}
use Rattle.loop_data.specs.declared.graph.Graph.{Graph}
use Rattle.loop_data.specs.declared.shape.Level.{Level}
use Rattle.loop_data.specs.Paths.{Leads}
use Rattle.loop_data.specs.Flows.{items_of, rows, row_at, at, closes_one, IsOpenEdge, Added, HasSources}
use Rattle.loop_data.proofs.FlowWords.{same_place}

-- the row of an address gets the number
pub added_at : (xs : List ℕ) (K : ℕ → Type 0) → IsStrictlyIncreasing xs → (rows : List (List ℕ)) → length rows ≡ length xs → (to from y : ℕ) → to < length xs → get_or xs to 0 ≡ y → K y → (new : List (List ℕ)) → new ≡ set rows to (row_at rows to ++ from ∷ []) → Added xs from (λ v. (y ≡ v) × K v) rows new
added_at xs K up rows same to from y l is holds new n = subst (Added xs from (λ v. (y ≡ v) × K v) rows) (sym n) (record { count = length-set rows to _; kept = kept; each = each; every = every })
  where
    fits : to < length rows
    fits = omega arith

    more : List (List ℕ)
    more = set rows to (row_at rows to ++ from ∷ [])

    kept : (j k : ℕ) → Contains (row_at rows j) k → Contains (row_at more j) k
    kept j k c = by (cases_eq j to)
      where
        by : (j ≡ to) ⊎ (j ≢ to) → Contains (row_at more j) k
        by (inl e) = subst (λ (q : ℕ). Contains (row_at more q) k) (sym e) (rw (get_or-set_same rows to (row_at rows to ++ from ∷ []) [] fits) (Contains-append_left (row_at rows to) (from ∷ []) k (subst (λ (q : ℕ). Contains (row_at rows q) k) e c)))
        by (inr ne) = rw (get_or-set_other rows to j (row_at rows to ++ from ∷ []) [] ne) c

    each : (j k : ℕ) → Contains (row_at more j) k → Contains (row_at rows j) k ⊎ ((k ≡ from) × (j < length xs) × ((y ≡ get_or xs j 0) × K (get_or xs j 0)))
    each j k c = by (cases_eq j to)
      where
        pushed : j ≡ to → Contains (row_at rows j) k ⊎ (from ≡ k) → Contains (row_at rows j) k ⊎ ((k ≡ from) × (j < length xs) × ((y ≡ get_or xs j 0) × K (get_or xs j 0)))
        pushed e (inl d) = inl d
        pushed e (inr f) = let here : y ≡ get_or xs j 0 = sym is ∙ ap (λ q. get_or xs q 0) (sym e) in inr (sym f, omega arith, (here, subst K here holds))

        by : (j ≡ to) ⊎ (j ≢ to) → Contains (row_at rows j) k ⊎ ((k ≡ from) × (j < length xs) × ((y ≡ get_or xs j 0) × K (get_or xs j 0)))
        by (inl e) = pushed e (Contains-push_cases (row_at rows j) from k (subst (λ (q : ℕ). Contains (row_at rows q ++ from ∷ []) k) (sym e) (rw (get_or-set_same rows to (row_at rows to ++ from ∷ []) [] fits) at (subst (λ (q : ℕ). Contains (row_at more q) k) e c))))
        by (inr ne) = inl (rw (get_or-set_other rows to j (row_at rows to ++ from ∷ []) [] ne) at c)

    every : (j : ℕ) → j < length xs → (y ≡ get_or xs j 0) × K (get_or xs j 0) → Contains (row_at more j) from
    every j m c =
        let e : j ≡ to = same_place xs up j to m l (sym c.0 ∙ sym is) in
        subst (λ (q : ℕ). Contains (row_at more q) from) (sym e) (rw (get_or-set_same rows to (row_at rows to ++ from ∷ []) [] fits) (Contains-push (row_at rows to) from))

-- where none of the addresses passes, nothing is added
pub added_nowhere : (xs : List ℕ) (rows : List (List ℕ)) (from : ℕ) (P : ℕ → Type 0) → ((j : ℕ) → j < length xs → P (get_or xs j 0) → ⊥) → Added xs from P rows rows
added_nowhere xs rows from P none = record { count = refl; kept = λ j k c. c; each = λ j k c. inl c; every = λ j l c. absurd (none j l c) }

pub none_there : (xs : List ℕ) (y : ℕ) (K : ℕ → Type 0) → (Contains xs y → ⊥) → (j : ℕ) → j < length xs → (y ≡ get_or xs j 0) × K (get_or xs j 0) → ⊥
none_there xs y K absent j l c = absent (subst (Contains xs) (sym c.0) (Contains-get_or xs j 0 l))

pub closed_there : (xs : List ℕ) (levels : List Level) (u y : ℕ) → closes_one levels u y ≡ true → (j : ℕ) → j < length xs → (y ≡ get_or xs j 0) × (closes_one levels u (get_or xs j 0) ≡ false) → ⊥
closed_there xs levels u y e j l c = let f = subst (λ v. closes_one levels u v ≡ false) (sym c.0) c.1 in absurd (cc)

pub added_more : (xs ys : List ℕ) (K : ℕ → Type 0) (from i : ℕ) (old mid new : List (List ℕ)) → i < length ys → Added xs from (λ v. Contains (take i ys) v × K v) old mid → Added xs from (λ v. (get_or ys i 0 ≡ v) × K v) mid new → Added xs from (λ v. Contains (take (i + 1) ys) v × K v) old new
added_more xs ys K from i old mid new l a b = rw (take_more ys i 0 l) (record { count = b.count ∙ a.count; kept = λ j k c. b.kept j k (a.kept j k c); each = each; every = every })
  where
    more : List ℕ
    more = take i ys ++ get_or ys i 0 ∷ []

    each : (j k : ℕ) → Contains (row_at new j) k → Contains (row_at old j) k ⊎ ((k ≡ from) × (j < length xs) × (Contains more (get_or xs j 0) × K (get_or xs j 0)))
    each j k c = by (b.each j k c)
      where
        first : Contains (row_at old j) k ⊎ ((k ≡ from) × (j < length xs) × (Contains (take i ys) (get_or xs j 0) × K (get_or xs j 0))) → Contains (row_at old j) k ⊎ ((k ≡ from) × (j < length xs) × (Contains more (get_or xs j 0) × K (get_or xs j 0)))
        first (inl d) = inl d
        first (inr d) = inr (d.0, d.1, (Contains-append_left (take i ys) (get_or ys i 0 ∷ []) (get_or xs j 0) d.2.0, d.2.1))

        by : Contains (row_at mid j) k ⊎ ((k ≡ from) × (j < length xs) × ((get_or ys i 0 ≡ get_or xs j 0) × K (get_or xs j 0))) → Contains (row_at old j) k ⊎ ((k ≡ from) × (j < length xs) × (Contains more (get_or xs j 0) × K (get_or xs j 0)))
        by (inl d) = first (a.each j k d)
        by (inr d) = inr (d.0, d.1, (subst (Contains more) d.2.0 (Contains-push (take i ys) (get_or ys i 0)), d.2.1))

    every : (j : ℕ) → j < length xs → Contains more (get_or xs j 0) × K (get_or xs j 0) → Contains (row_at new j) from
    every j m c = by (Contains-push_cases (take i ys) (get_or ys i 0) (get_or xs j 0) c.0)
      where
        by : Contains (take i ys) (get_or xs j 0) ⊎ (get_or ys i 0 ≡ get_or xs j 0) → Contains (row_at new j) from
        by (inl d) = b.kept j from (a.every j m (d, c.1))
        by (inr e) = b.every j m (e, c.1)

none_in : {A : Type 0} (x : ℕ) → Contains {X = ℕ} [] x → A
none_in x c = let l = c.1 in absurd (omega arith)

pub added_none : (xs : List ℕ) (rows : List (List ℕ)) (from : ℕ) (K : ℕ → Type 0) → Added xs from (λ v. Contains [] v × K v) rows rows
added_none xs rows from K = added_nowhere xs rows from (λ v. Contains [] v × K v) (λ j l c. none_in (get_or xs j 0) c.0)

-- the sources after one more word
pub sources_more : (G : Graph) (levels : List Level) (body : List ℕ) (i : ℕ) (steps : List ℕ) (old new : List (List ℕ)) → i < length body → ((y : ℕ) → (Contains steps y → Leads G (at body i) y) × (Leads G (at body i) y → Contains steps y))
    → HasSources G levels body i old → Added body i (λ v. Contains steps v × (closes_one levels (at body i) v ≡ false)) old new → HasSources G levels body (i + 1) new
sources_more G levels body i steps old new l is s a = record { count = a.count ∙ s.count; each = each; every = every }
  where
    each : (j k : ℕ) → Contains (row_at new j) k → (k < i + 1) × (j < length body) × IsOpenEdge G levels (at body k) (at body j)
    each j k c = by (a.each j k c)
      where
        by : Contains (row_at old j) k ⊎ ((k ≡ i) × (j < length body) × (Contains steps (at body j) × (closes_one levels (at body i) (at body j) ≡ false))) → (k < i + 1) × (j < length body) × IsOpenEdge G levels (at body k) (at body j)
        by (inl d) = let r = s.each j k d in let q = r.0 in (omega arith, r.1, r.2)
        by (inr d) =
            let e = d.0 in
            (omega arith, d.1, subst (λ (q : ℕ). IsOpenEdge G levels (at body q) (at body j)) (sym e) (record { leads = (is (at body j)).0 d.2.0; stays_open = d.2.1 }))

    every : (j k : ℕ) → k < i + 1 → j < length body → IsOpenEdge G levels (at body k) (at body j) → Contains (row_at new j) k
    every j k m lj edge = by (cases_eq k i)
      where
        by : (k ≡ i) ⊎ (k ≢ i) → Contains (row_at new j) k
        by (inl e) =
            let f = subst (λ (q : ℕ). IsOpenEdge G levels (at body q) (at body j)) e edge in
            subst (Contains (row_at new j)) (sym e) (a.every j lj ((is (at body j)).1 f.leads, f.stays_open))
        by (inr ne) = a.kept j k (s.every j k (omega arith) lj edge)

pub no_sources : (G : Graph) (levels : List Level) (body : List ℕ) (all : List (List ℕ)) → all ≡ replicate (length body) [] → HasSources G levels body 0 all
no_sources G levels body all e = record { count = ap length e ∙ length-replicate (length body) []; each = each; every = λ j k l m edge. absurd (omega arith) }
  where
    empty : (n j k : ℕ) → Contains (row_at (replicate n []) j) k → ⊥
    empty n j k c = none (row_at (replicate n []) j) (nothing n j) c
      where
        nothing : (n j : ℕ) → row_at (replicate n []) j ≡ []
        nothing zero j = by j
          where
            by : (j : ℕ) → row_at [] j ≡ []
            by zero = refl
            by (suc j) = refl
        nothing (suc n) zero = refl
        nothing (suc n) (suc j) = nothing n j

        none : (xs : List ℕ) → xs ≡ [] → Contains xs k → ⊥
        none xs e c = none_in k (subst (λ (ys : List ℕ). Contains ys k) e c)

    each : (j k : ℕ) → Contains (row_at all j) k → (k < 0) × (j < length body) × IsOpenEdge G levels (at body k) (at body j)
    each j k c = absurd (empty (length body) j k (subst (λ (r : List (List ℕ)). Contains (row_at r j) k) e c))

-- the vector at a place has the row there
pub row_read : (vs : List (Vec ℕ Global)) (i : ℕ) (v : Vec ℕ Global) → i < length vs → v ≡ get_or vs i v → v.items ≡ row_at (rows vs) i
row_read vs i v l e = ap items_of e ∙ sym (get_or-map items_of vs i v [] l)

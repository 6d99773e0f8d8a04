-- The places from which closed edges lead.
use Rattle.std.proofs.Common.{◌≡◌, ℕ, ◌+◌, ◌<◌, ◌≤◌, ◌⊎◌, inl, inr, List, [], ◌∷◌, ◌++◌, length, get_or, take, ap, sym, ◌∙◌, subst, arith}
use Rattle.std.specs.List.{Contains}
use Rattle.std.proofs.lemmas.List.{take_all, length_push, get_or_append_left, get_or_push, map_push}
use Rattle.std.proofs.lemmas.List.Elements.{Contains-push, Contains-push_cases, Contains-append_left}
use Rattle.std.proofs.lemmas.Bool.{cases_lt}
use Rattle.std.specs.declared.vec.Vec.{Vec}
use Rattle.std.specs.declared.alloc.Global.{Global}
use Rattle.loop_data.specs.declared.graph.Graph.{Graph}
use Rattle.loop_shapes.specs.Places.{HasPredecessors, count_of, at}
use Rattle.loop_data.specs.Bodies.{IsClosed}
use Rattle.loop_shapes.specs.Net.{AreClosedOf, HasTriedEdge}
use Rattle.loop_shapes.proofs.Rows.{none_in, contains_more}
use Rattle.loop_shapes.specs.Lines.{IsRowOf}
use Rattle.loop_data.specs.Flows.{items_of, row_at, rows}

pub tried_open : (G : Graph) (h u : ℕ) (xs : List ℕ) → (IsClosed G (at G h) (at G u) → ⊥) → HasTriedEdge G h u xs xs
tried_open G h u xs open_edge = record { each = λ i c. inl c; kept = λ i c. c; every = λ c. absurd (open_edge c) }

pub tried_closed : (G : Graph) (h u : ℕ) (xs ys : List ℕ) → IsClosed G (at G h) (at G u) → ys ≡ xs ++ u ∷ [] → HasTriedEdge G h u xs ys
tried_closed G h u xs ys c e = subst (HasTriedEdge G h u xs) (sym e) (record { each = λ i m. by i (Contains-push_cases xs u i m); kept = λ i m. Contains-append_left xs (u ∷ []) i m; every = λ _. Contains-push xs u })
  where
    by : (i : ℕ) → Contains xs i ⊎ (u ≡ i) → Contains xs i ⊎ ((i ≡ u) × IsClosed G (at G h) (at G i))
    by i (inl m) = inl m
    by i (inr q) = inr (sym q, subst (λ (z : ℕ). IsClosed G (at G h) (at G z)) q c)

pub closed_none : (G : Graph) (h : ℕ) → AreClosedOf G h [] []
closed_none G h = record { each = λ i c. none_in i c; every = λ i c. none_in i c }

pub closed_more : (G : Graph) (h i : ℕ) (xs old new : List ℕ) → i < length xs → AreClosedOf G h (take i xs) old → HasTriedEdge G h (get_or xs i 0) old new → AreClosedOf G h (take (i + 1) xs) new
closed_more G h i xs old new l a t = record { each = λ j c. one j (t.each j c); every = λ j c q. other j q ((contains_more xs i l j).0 c) }
  where
    one : (j : ℕ) → Contains old j ⊎ ((j ≡ get_or xs i 0) × IsClosed G (at G h) (at G j)) → Contains (take (i + 1) xs) j × IsClosed G (at G h) (at G j)
    one j (inl c) = ((contains_more xs i l j).1 (inl (a.each j c).0), (a.each j c).1)
    one j (inr e) = ((contains_more xs i l j).1 (inr e.0), e.1)

    other : (j : ℕ) → IsClosed G (at G h) (at G j) → Contains (take i xs) j ⊎ (j ≡ get_or xs i 0) → Contains new j
    other j q (inl c) = t.kept j (a.every j c q)
    other j q (inr e) = subst (Contains new) (sym e) (t.every (subst (λ (z : ℕ). IsClosed G (at G h) (at G z)) e q))

pub closed_all : (G : Graph) (rows : List (List ℕ)) → HasPredecessors G (count_of G) rows → (h : ℕ) → h < count_of G → (i : ℕ) (places : List ℕ) → length (row_at rows h) ≤ i → AreClosedOf G h (take i (row_at rows h)) places → IsRowOf G (IsClosed G) h places
closed_all G rows s h lh i places l a = record { each = λ j c. let r = all.each j c in ((s.each h j r.0).0, r.1); every = λ j m c. all.every j (s.every h j m lh c.edge) c }
  where
    all : AreClosedOf G h (row_at rows h) places
    all = subst (λ (ys : List ℕ). AreClosedOf G h ys places) (take_all i (row_at rows h) l) a

-- a row more
pub rows_more : (P : ℕ → List ℕ → Type 0) (old : List (Vec ℕ Global)) (v : Vec ℕ Global) (n : ℕ) → (length (rows old) ≡ n) × ((j : ℕ) → j < n → P j (row_at (rows old) j)) → P n v.items → (length (rows (old ++ v ∷ [])) ≡ n + 1) × ((j : ℕ) → j < n + 1 → P j (row_at (rows (old ++ v ∷ [])) j))
rows_more P old v n a p = (ap length push ∙ length_push (rows old) v.items ∙ ap (λ m. m + 1) a.0, λ j l. subst (λ (q : List (List ℕ)). P j (row_at q j)) (sym push) (by j (cases_lt j n) l))
  where
    push : rows (old ++ v ∷ []) ≡ rows old ++ v.items ∷ []
    push = map_push items_of old v

    by : (j : ℕ) → (j < n) ⊎ (n ≤ j) → j < n + 1 → P j (row_at (rows old ++ v.items ∷ []) j)
    by j (inl l) m =
        let c = a.0 in
        subst (P j) (sym (get_or_append_left (rows old) (v.items ∷ []) [] j (omega arith))) (a.1 j l)
    by j (inr l) m =
        let e : j ≡ n = omega arith in
        let c = a.0 in
        subst (λ (q : ℕ). P q (row_at (rows old ++ v.items ∷ []) q)) (sym e) (subst (P n) (sym (get_or_push (rows old) v.items [] n c)) p)

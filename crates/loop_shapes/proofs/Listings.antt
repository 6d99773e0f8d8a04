-- The listed loops, word by word.
use Rattle.std.proofs.Common.{◌≡◌, ℕ, ◌+◌, ◌<◌, ◌≤◌, ◌⊎◌, inl, inr, List, [], ◌∷◌, ◌++◌, length, get_or, ap, sym, ◌∙◌, subst, arith}
use Rattle.std.specs.List.{Contains}
use Rattle.std.specs.List.Sorted.{IsStrictlyIncreasing}
use Rattle.std.proofs.lemmas.Bool.{cases_lt}
use Rattle.std.proofs.lemmas.List.{map_push, length_push, get_or_append_left, get_or_push}
use Rattle.std.proofs.lemmas.List.Elements.{All-push, All-nil, Contains-push, Contains-push_cases, Contains-append_left, Contains-get_or}
use Rattle.std.proofs.lemmas.List.Kept.{AllPairs-from_increasing}
use Rattle.loop_data.specs.declared.graph.Graph.{Graph}
use Rattle.loop_data.specs.declared.shape.LoopShape.{LoopShape}
use Rattle.loop_data.specs.Paths.{addresses, IsInOrder}
use Rattle.loop_shapes.specs.Places.{count_of, at}
use Rattle.loop_data.specs.Bodies.{IsHeader}
use Rattle.loop_data.specs.Listed.{IsListed}
use Rattle.loop_data.specs.Loops.{IsLoop, IsListedEdge, headers_of, AreLoops}
use Rattle.loop_shapes.specs.Below.{IsListedAt, IsUnlisted, IsBelow, AreLoopsBelow}
use Rattle.loop_shapes.proofs.Rows.{none_in}
use Rattle.loop_shapes.proofs.Parts.{place_of_word}
use Rattle.loop_shapes.proofs.Entries.{word_on_cycle}

-- numbers that rise, and one above them
rises_push : (xs : List ℕ) (y : ℕ) → IsStrictlyIncreasing xs → ((x : ℕ) → Contains xs x → x < y) → IsStrictlyIncreasing (xs ++ y ∷ [])
rises_push xs y up above k l = by (cases_lt (k + 1) (length xs))
  where
    left : (i : ℕ) → i < length xs → get_or (xs ++ y ∷ []) i 0 ≡ get_or xs i 0
    left i q = get_or_append_left xs (y ∷ []) 0 i q

    by : (k + 1 < length xs) ⊎ (length xs ≤ k + 1) → get_or (xs ++ y ∷ []) k 0 < get_or (xs ++ y ∷ []) (k + 1) 0
    by (inl q) =
        let a = left k (omega arith) in
        let b = left (k + 1) q in
        let c = up k q in
        omega arith
    by (inr q) =
        let m = length_push xs y in
        let last : length xs ≡ k + 1 = omega arith in
        let p : k < length xs = omega arith in
        let a = left k p in
        let b = get_or_push xs y 0 (k + 1) last in
        let c = above (get_or xs k 0) (Contains-get_or xs k 0 p) in
        omega arith

pub below_none : (G : Graph) → AreLoopsBelow G 0 []
below_none G = record { ordered = λ k l. absurd (omega arith); each = All-nil (λ s. IsLoop G s ⊎ IsListedEdge G s); below = λ x c. none_in x c; loops = λ i l. absurd (omega arith); edges = λ i u l. absurd (omega arith) }

pub below_skip : (G : Graph) (n : ℕ) (shapes : List LoopShape) → IsUnlisted G (at G n) → AreLoopsBelow G n shapes → AreLoopsBelow G (n + 1) shapes
below_skip G n shapes none b = record { ordered = b.ordered; each = b.each; below = λ x c. let p = b.below x c in let l = p.below in record { place = p.place; below = omega arith; within = p.within; is = p.is }; loops = λ i l h. loop i h (cases_lt i n) l; edges = λ i u l e. edge i u e (cases_lt i n) l }
  where
    loop : (i : ℕ) → IsHeader G (at G i) → (i < n) ⊎ (n ≤ i) → i < n + 1 → Contains (headers_of shapes) (at G i)
    loop i h (inl l) m = b.loops i l h
    loop i h (inr l) m = let e : i ≡ n = omega arith in absurd (none.no_loop (subst (λ (k : ℕ). IsHeader G (at G k)) e h))

    edge : (i u : ℕ) → IsListed G (at G i) u → (i < n) ⊎ (n ≤ i) → i < n + 1 → Contains (headers_of shapes) (at G i)
    edge i u x (inl l) m = b.edges i u l x
    edge i u x (inr l) m = let e : i ≡ n = omega arith in absurd (none.no_edge u (subst (λ (k : ℕ). IsListed G (at G k) u) e x))

pub below_push : (G : Graph) → IsInOrder G → (n : ℕ) → n < count_of G → (old new : List LoopShape) (s : LoopShape) → new ≡ old ++ s ∷ [] → IsListedAt G (at G n) s → AreLoopsBelow G n old → AreLoopsBelow G (n + 1) new
below_push G up n ln old new s e at_s b = subst (AreLoopsBelow G (n + 1)) (sym e) (record { ordered = subst IsStrictlyIncreasing (sym heads) (rises_push (headers_of old) (at G n) b.ordered above); each = All-push (λ v. IsLoop G v ⊎ IsListedEdge G v) old s b.each at_s.is; below = λ x c. here x (Contains-push_cases (headers_of old) (at G n) x (subst (λ (q : List ℕ). Contains q x) heads c)); loops = λ i l h. loop i h (cases_lt i n) l; edges = λ i u l x. edge i u x (cases_lt i n) l })
  where
    heads : headers_of (old ++ s ∷ []) ≡ headers_of old ++ at G n ∷ []
    heads = map_push (λ (v : LoopShape). v.header) old s ∙ ap (λ (q : ℕ). headers_of old ++ q ∷ []) at_s.header

    above : (x : ℕ) → Contains (headers_of old) x → x < at G n
    above x c =
        let p = b.below x c in
        subst (λ (q : ℕ). q < at G n) p.is (AllPairs-from_increasing (addresses G) up p.place n 0 p.below ln)

    here : (x : ℕ) → Contains (headers_of old) x ⊎ (at G n ≡ x) → IsBelow G (n + 1) x
    here x (inl c) = let p = b.below x c in let l = p.below in record { place = p.place; below = omega arith; within = p.within; is = p.is }
    here x (inr q) = record { place = n; below = omega arith; within = ln; is = q }

    old_one : (x : ℕ) → Contains (headers_of old) x → Contains (headers_of (old ++ s ∷ [])) x
    old_one x c = subst (λ (q : List ℕ). Contains q x) (sym heads) (Contains-append_left (headers_of old) (at G n ∷ []) x c)

    new_one : Contains (headers_of (old ++ s ∷ [])) (at G n)
    new_one = subst (λ (q : List ℕ). Contains q (at G n)) (sym heads) (Contains-push (headers_of old) (at G n))

    loop : (i : ℕ) → IsHeader G (at G i) → (i < n) ⊎ (n ≤ i) → i < n + 1 → Contains (headers_of (old ++ s ∷ [])) (at G i)
    loop i h (inl l) m = old_one (at G i) (b.loops i l h)
    loop i h (inr l) m = let q : n ≡ i = omega arith in subst (λ (k : ℕ). Contains (headers_of (old ++ s ∷ [])) (at G k)) q new_one

    edge : (i u : ℕ) → IsListed G (at G i) u → (i < n) ⊎ (n ≤ i) → i < n + 1 → Contains (headers_of (old ++ s ∷ [])) (at G i)
    edge i u x (inl l) m = old_one (at G i) (b.edges i u l x)
    edge i u x (inr l) m = let q : n ≡ i = omega arith in subst (λ (k : ℕ). Contains (headers_of (old ++ s ∷ [])) (at G k)) q new_one

pub below_all : (G : Graph) (n : ℕ) (shapes : List LoopShape) → count_of G ≤ n → AreLoopsBelow G n shapes → AreLoops G shapes
below_all G n shapes le b = record { ordered = b.ordered; each = b.each; loops = loops; edges = edges }
  where
    loops : (h : ℕ) → IsHeader G h → Contains (headers_of shapes) h
    loops h i =
        let p = place_of_word G h i.closed.word in
        let l = p.within in
        subst (Contains (headers_of shapes)) p.is (b.loops p.place (omega arith) (subst (IsHeader G) (sym p.is) i))

    edges : (g u : ℕ) → IsListed G g u → Contains (headers_of shapes) g
    edges g u x =
        let p = place_of_word G g (word_on_cycle G g u x.edge x.returns) in
        let l = p.within in
        subst (Contains (headers_of shapes)) p.is (b.edges p.place u (omega arith) (subst (λ (q : ℕ). IsListed G q u) (sym p.is) x))

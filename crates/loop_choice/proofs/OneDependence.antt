-- Two accesses have one verdict, and a list of accesses has one first hopeless pair.
use Rattle.std.proofs.Common.{◌≡◌, ◌⊎◌, inl, inr, ℕ, ◌<◌, ◌≤◌, ◌||◌, List, [], ◌∷◌, length, map, ℤ, ◌-ℤ◌, Option, Some, None, refl, ap, sym, ◌∙◌, subst, arith}
use Rattle.std.specs.Prelude.{slice_get}
use Rattle.std.specs.Option.{option_map}
use Rattle.std.proofs.lemmas.Option.{slice_get-map}
use Rattle.loop_data.specs.declared.accesses.Access.{Access}
use Rattle.loop_data.specs.declared.verdict.Verdict.{Verdict}
use Rattle.loop_data.specs.declared.verdict.Verdict.TheVariants.{Dependence}
use Rattle.affine_addresses.specs.OneList.{placed}
use Rattle.dependence_tests.specs.Separation.{AreHopeless}
use Rattle.dependence_tests.specs.Separation as separation
use Rattle.distance_vectors.specs.Distances.{Vector, vector_of, IsInBox, OneDistanceLaw}
use Rattle.loop_choice.specs.Pairs.{IsHopelessPair, HasNoHopelessPair, IsFirstHopelessPair, common, IsDistance, IsDependence}

-- ---- the verdict of two accesses

-- three entries are known by their vector
entries_of : (k l : List ℤ) → length k ≡ 3 → length l ≡ 3 → vector_of k ≡ vector_of l → k ≡ l
entries_of (a ∷ b ∷ c ∷ []) (x ∷ y ∷ z ∷ []) m n e =
    ap (λ p. p ∷ b ∷ c ∷ []) (ap (λ (v : Vector). v.root) e) ∙ ap (λ p. x ∷ p ∷ c ∷ []) (ap (λ (v : Vector). v.second) e) ∙ ap (λ p. x ∷ y ∷ p ∷ []) (ap (λ (v : Vector). v.third) e)
entries_of [] l m n e = absurd (omega arith)
entries_of (a ∷ []) l m n e = absurd (omega arith)
entries_of (a ∷ b ∷ []) l m n e = absurd (omega arith)
entries_of (a ∷ b ∷ c ∷ d ∷ k) l m n e = absurd (omega arith)
entries_of k [] m n e = absurd (omega arith)
entries_of k (x ∷ []) m n e = absurd (omega arith)
entries_of k (x ∷ y ∷ []) m n e = absurd (omega arith)
entries_of k (x ∷ y ∷ z ∷ w ∷ l) m n e = absurd (omega arith)

one_distance : OneDistanceLaw → (a b : Access) (o p : Option (List ℤ)) → IsDistance a b o → IsDistance a b p → o ≡ p
one_distance law a b None None f g = refl
one_distance law a b None (Some l) f g = absurd (f (vector_of l) (g.1).among (g.1).meet)
one_distance law a b (Some k) None f g = absurd (g (vector_of k) (f.1).among (f.1).meet)
one_distance law a b (Some k) (Some l) f g = ap (λ (z : List ℤ). Some z) (entries_of k l f.0 g.0 (law a b (vector_of k) (vector_of l) f.1 g.1))

one_dependence : OneDistanceLaw → (a b : Access) (v w : Verdict) → IsDependence a b v → IsDependence a b w → v ≡ w
one_dependence law a b v w f g =
    f.verdict ∙ ap (λ (o : Option (List ℤ)). Dependence a.at b.at (common a b) o) (one_distance law a b f.distance g.distance f.is g.is) ∙ sym g.verdict

-- ---- only the places of the depths 0 to 2 round an access count

in_box : (a b : Access) (k : Vector) → IsInBox a b k → IsInBox (placed a) (placed b) k
in_box a b k i = record { from = i.from; to = i.to; second = i.second; third = i.third }

of_box : (a b : Access) (k : Vector) → IsInBox (placed a) (placed b) k → IsInBox a b k
of_box a b k i = record { from = i.from; to = i.to; second = i.second; third = i.third }

placed_distance : (a b : Access) (o : Option (List ℤ)) → IsDistance a b o → IsDistance (placed a) (placed b) o
placed_distance a b None apart = (λ l i m. apart l (of_box a b l i) m)
placed_distance a b (Some k) f = (f.0, record { among = in_box a b (vector_of k) (f.1).among; meet = (f.1).meet; first = λ l i m. (f.1).first l (of_box a b l i) m })

placed_dependence : (a b : Access) (v : Verdict) → IsDependence a b v → IsDependence (placed a) (placed b) v
placed_dependence a b v d = record { distance = d.distance; is = placed_distance a b d.distance d.is; verdict = d.verdict }

apart_of_placed : (a b : Access) (c : ℤ) (last : List ℕ) → separation.AreApart (placed a) (placed b) c last → separation.AreApart a b c last
apart_of_placed a b c last (inl x) = inl (record { stride = x.stride })
apart_of_placed a b c last (inr (inl x)) = inr (inl (record { step = x.step; divisor = x.divisor; moves = x.moves; stride = x.stride; within = x.within }))
apart_of_placed a b c last (inr (inr (inl x))) = inr (inr (inl (record { step = x.step; divisor = x.divisor; moves = x.moves; above = x.above; below = x.below })))
apart_of_placed a b c last (inr (inr (inr x))) = inr (inr (inr (record { distance = x.distance })))

placed_apart : (a b : Access) (c : ℤ) (last : List ℕ) → separation.AreApart a b c last → separation.AreApart (placed a) (placed b) c last
placed_apart a b c last (inl x) = inl (record { stride = x.stride })
placed_apart a b c last (inr (inl x)) = inr (inl (record { step = x.step; divisor = x.divisor; moves = x.moves; stride = x.stride; within = x.within }))
placed_apart a b c last (inr (inr (inl x))) = inr (inr (inl (record { step = x.step; divisor = x.divisor; moves = x.moves; above = x.above; below = x.below })))
placed_apart a b c last (inr (inr (inr x))) = inr (inr (inr (record { distance = x.distance })))

placed_hopeless : (a b : Access) → AreHopeless a b → AreHopeless (placed a) (placed b)
placed_hopeless a b h = record {
  shape = record { root = (h.shape).root; inner = (h.shape).inner };
  terms = h.terms;
  fails = λ x. h.fails (apart_of_placed a b (b.form.constant -ℤ a.form.constant) (15 ∷ 0 ∷ 0 ∷ 0 ∷ []) x);
}

hopeless_of_placed : (a b : Access) → AreHopeless (placed a) (placed b) → AreHopeless a b
hopeless_of_placed a b h = record {
  shape = record { root = (h.shape).root; inner = (h.shape).inner };
  terms = h.terms;
  fails = λ x. h.fails (placed_apart a b (b.form.constant -ℤ a.form.constant) (15 ∷ 0 ∷ 0 ∷ 0 ∷ []) x);
}

-- ---- lists that are the same up to other places

inside : {X : Type 0} {x y : X} → Some x ≡ Some y → x ≡ y
inside e = cc

-- the access at a place of the other list
record Other (ys : List Access) (i : ℕ) (a : Access) : Type 0 where
  pub access : Access
  pub at : slice_get ys i ≡ Some access
  pub same : placed a ≡ placed access

other : (xs ys : List Access) → map placed xs ≡ map placed ys → (i : ℕ) (a : Access) → slice_get xs i ≡ Some a → Other ys i a
other xs ys e i a h = go (slice_get ys i) refl (sym (ap (option_map placed) h) ∙ sym (slice_get-map placed xs i) ∙ ap (λ zs. slice_get zs i) e ∙ slice_get-map placed ys i)
  where
    go : (o : Option Access) → slice_get ys i ≡ o → Some (placed a) ≡ option_map placed (slice_get ys i) → Other ys i a
    go None q f = absurd (never (f ∙ ap (option_map placed) q))
      where
        never : Some (placed a) ≡ None → ⊥
        never n = absurd (cc)
    go (Some b) q f = record { access = b; at = q; same = inside (f ∙ ap (option_map placed) q) }

moved_pair : (xs ys : List Access) → map placed xs ≡ map placed ys → (i j : ℕ) → IsHopelessPair xs i j → IsHopelessPair ys i j
moved_pair xs ys e i j p =
    let a = other xs ys e i p.first p.at_first in
    let b = other xs ys e j p.second p.at_second in
    let here = placed_hopeless p.first p.second p.hopeless in
    let there = subst (λ c. AreHopeless c (placed b.access)) a.same (subst (λ c. AreHopeless (placed p.first) c) b.same here) in
    record {
      first = a.access;
      second = b.access;
      at_first = a.at;
      at_second = b.at;
      order = p.order;
      stores = ap (λ (c : Access). c.store || (b.access).store) (sym a.same) ∙ ap (λ (c : Access). (p.first).store || c.store) (sym b.same) ∙ p.stores;
      hopeless = hopeless_of_placed a.access b.access there;
    }

pub moved_none : (xs ys : List Access) → map placed xs ≡ map placed ys → HasNoHopelessPair xs → (i j : ℕ) → IsHopelessPair ys i j → ⊥
moved_none xs ys e none i j p = none i j (moved_pair ys xs (sym e) i j p)

-- the verdict of the first hopeless pair of a list
pub record IsByFirst (list : List Access) (v : Verdict) : Type 0 where
  pub i : ℕ
  pub j : ℕ
  pub first : IsFirstHopelessPair list i j
  pub verdict : IsDependence first.pair.first first.pair.second v

same_places : (i j k l : ℕ) → (i < k) ⊎ ((i ≡ k) × (j ≤ l)) → (k < i) ⊎ ((k ≡ i) × (l ≤ j)) → (i ≡ k) × (j ≡ l)
same_places i j k l (inl a) (inl b) = absurd (omega arith)
same_places i j k l (inl a) (inr b) = let e = b.0 in absurd (omega arith)
same_places i j k l (inr a) (inl b) = let e = a.0 in absurd (omega arith)
same_places i j k l (inr a) (inr b) = let x = a.1 in let y = b.1 in (a.0, omega arith)

-- accesses that stand at one place are the same up to other places
same_at : (xs ys : List Access) → map placed xs ≡ map placed ys → (i k : ℕ) (a b : Access) → i ≡ k → slice_get xs i ≡ Some a → slice_get ys k ≡ Some b → placed a ≡ placed b
same_at xs ys e i k a b q f g =
    let o = other xs ys e i a f in
    o.same ∙ ap placed (inside (sym o.at ∙ ap (slice_get ys) q ∙ g))

pub one_by_first : OneDistanceLaw → (xs ys : List Access) → map placed xs ≡ map placed ys → (v w : Verdict) → IsByFirst xs v → IsByFirst ys w → v ≡ w
one_by_first law xs ys e v w f g =
    let low = (f.first).least g.i g.j (moved_pair ys xs (sym e) g.i g.j (g.first).pair) in
    let high = (g.first).least f.i f.j (moved_pair xs ys e f.i f.j (f.first).pair) in
    let same = same_places f.i f.j g.i g.j low high in
    let p = (f.first).pair in
    let q = (g.first).pair in
    let a = same_at xs ys e f.i g.i p.first q.first same.0 p.at_first q.at_first in
    let b = same_at xs ys e f.j g.j p.second q.second same.1 p.at_second q.at_second in
    let own = subst (λ c. IsDependence c (placed q.second) v) a (subst (λ c. IsDependence (placed p.first) c v) b (placed_dependence p.first p.second v f.verdict)) in
    one_dependence law (placed q.first) (placed q.second) v w own (placed_dependence q.first q.second w g.verdict)

-- Taking out edges.
use Rattle.std.proofs.Common.{◌≡◌, ◌≢◌, ℕ, zero, suc, ◌+◌, ◌<◌, ◌≤◌, ◌⊎◌, ◌↔◌, inl, inr, Some, List, [], ◌∷◌, length, get_or, set, take, refl, ap, sym, ◌∙◌, subst, arith}
use Rattle.std.specs.List.{Contains, slice_get}
use Rattle.std.proofs.lemmas.Bool.{cases_eq, cases_lt}
use Rattle.std.proofs.lemmas.List.{length-set, take_all}
use Rattle.strong_components.specs.declared.graph.Successors.{Successors}
use Rattle.strong_components.specs.Graph.{IsEdge, LeadsTo}
use Rattle.loop_data.specs.declared.graph.Graph.{Graph}
use Rattle.loop_data.specs.Bodies.{IsClosed}
use Rattle.loop_shapes.specs.Open.{IsOpenStep}
use Rattle.loop_shapes.specs.Numbers.{AreNodes}
use Rattle.loop_shapes.specs.Open.{IsCut, AreCutBelow, AreCut, AreOpen}
use Rattle.loop_shapes.specs.Places.{count_of, at}
use Rattle.loop_shapes.proofs.Rows.{none_in, contains_more}
use Rattle.loop_shapes.proofs.Parts.{row_within}
use Rattle.loop_shapes.specs.Lines.{AreRowsOf}
use Rattle.loop_data.specs.Flows.{row_at}

get_same : (xs : List Successors) (i : ℕ) (v : Successors) → i < length xs → slice_get (set xs i v) i ≡ Some v
get_same [] i v l = absurd (omega arith)
get_same (x ∷ xs) zero v l = refl
get_same (x ∷ xs) (suc i) v l = get_same xs i v (omega arith)

get_other : (xs : List Successors) (i j : ℕ) (v : Successors) → j ≢ i → slice_get (set xs i v) j ≡ slice_get xs j
get_other [] i j v ne = refl
get_other (x ∷ xs) zero zero v ne = absurd (ne refl)
get_other (x ∷ xs) zero (suc j) v ne = refl
get_other (x ∷ xs) (suc i) zero v ne = refl
get_other (x ∷ xs) (suc i) (suc j) v ne = get_other xs i j v (λ e. ne (ap suc e))

get_read : (xs : List Successors) (i : ℕ) (v : Successors) → i < length xs → v ≡ get_or xs i v → slice_get xs i ≡ Some v
get_read [] i v l e = absurd (omega arith)
get_read (x ∷ xs) zero v l e = ap (λ (w : Successors). Some w) (sym e)
get_read (x ∷ xs) (suc i) v l e = get_read xs i v (omega arith) e

pub node_at : (xs : List Successors) (i b : ℕ) (v : Successors) → i < length xs → v ≡ get_or xs i v → LeadsTo v b ↔ IsEdge xs i b
node_at xs i b v l e = (λ x. record { node = v; is = get_read xs i v l e; leads = x }, back)
  where
    back : IsEdge xs i b → LeadsTo v b
    back x =
        let q : Some x.node ≡ Some v = sym x.is ∙ get_read xs i v l e in
        let same : x.node ≡ v = cc in
        subst (λ (w : Successors). LeadsTo w b) same x.leads

-- one place more
pub cut_more : (to : ℕ) (from : List ℕ) (k : ℕ) (old mid new : List Successors) (v w : Successors) → k < length from → get_or from k 0 < length mid → v ≡ get_or mid (get_or from k 0) v → ((b : ℕ) → LeadsTo w b ↔ (LeadsTo v b × (b ≢ to))) → new ≡ set mid (get_or from k 0) w → IsCut to (take k from) old mid → IsCut to (take (k + 1) from) old new
cut_more to from k old mid new v w lk fits read says e c = subst (IsCut to (take (k + 1) from) old) (sym e) (record { count = length-set mid (get_or from k 0) w ∙ c.count; each = λ a b. (there a b, back a b) })
  where
    x : ℕ
    x = get_or from k 0

    at_x : slice_get (set mid (get_or from k 0) w) (get_or from k 0) ≡ Some w
    at_x = get_same mid (get_or from k 0) w fits

    changed : (b : ℕ) → IsEdge (set mid (get_or from k 0) w) (get_or from k 0) b ↔ (IsEdge mid (get_or from k 0) b × (b ≢ to))
    changed b = (
      λ i. let q : Some i.node ≡ Some w = sym i.is ∙ at_x in let same : i.node ≡ w = cc in let p = (says b).0 (subst (λ (z : Successors). LeadsTo z b) same i.leads) in ((node_at mid (get_or from k 0) b v fits read).0 p.0, p.1),
      λ p. record { node = w; is = at_x; leads = (says b).1 ((node_at mid (get_or from k 0) b v fits read).1 p.0, p.1) },
    )

    there : (a b : ℕ) → IsEdge (set mid (get_or from k 0) w) a b → IsEdge old a b × ¬ ((b ≡ to) × Contains (take (k + 1) from) a)
    there a b i = by (cases_eq a (get_or from k 0))
      where
        by : (a ≡ get_or from k 0) ⊎ (a ≢ get_or from k 0) → IsEdge old a b × ¬ ((b ≡ to) × Contains (take (k + 1) from) a)
        by (inl q) =
            let p = (changed b).0 (subst (λ (z : ℕ). IsEdge (set mid (get_or from k 0) w) z b) q i) in
            (subst (λ (z : ℕ). IsEdge old z b) (sym q) ((c.each (get_or from k 0) b).0 p.0).0, λ m. p.1 m.0)
        by (inr ne) =
            let p = (c.each a b).0 (record { node = i.node; is = sym (get_other mid (get_or from k 0) a w ne) ∙ i.is; leads = i.leads }) in
            (p.0, λ m. no p.1 m.0 ((contains_more from k lk a).0 m.1))
          where
            no : ¬ ((b ≡ to) × Contains (take k from) a) → b ≡ to → Contains (take k from) a ⊎ (a ≡ get_or from k 0) → ⊥
            no n f (inl d) = n (f, d)
            no n f (inr d) = ne d

    back : (a b : ℕ) → IsEdge old a b × ¬ ((b ≡ to) × Contains (take (k + 1) from) a) → IsEdge (set mid (get_or from k 0) w) a b
    back a b p = by (cases_eq a (get_or from k 0))
      where
        before : IsEdge mid a b
        before = (c.each a b).1 (p.0, λ m. p.1 (m.0, (contains_more from k lk a).1 (inl m.1)))

        by : (a ≡ get_or from k 0) ⊎ (a ≢ get_or from k 0) → IsEdge (set mid (get_or from k 0) w) a b
        by (inl q) = subst (λ (z : ℕ). IsEdge (set mid (get_or from k 0) w) z b) (sym q) ((changed b).1 (subst (λ (z : ℕ). IsEdge mid z b) q before, λ f. p.1 (f, (contains_more from k lk a).1 (inr q))))
        by (inr ne) = record { node = before.node; is = get_other mid (get_or from k 0) a w ne ∙ before.is; leads = before.leads }

pub cut_none : (to : ℕ) (nodes : List Successors) → IsCut to [] nodes nodes
cut_none to nodes = record { count = refl; each = λ a b. (λ i. (i, λ m. none_in a m.1), λ p. p.0) }

pub cut_whole : (to : ℕ) (from : List ℕ) (k : ℕ) (old new : List Successors) → length from ≤ k → IsCut to (take k from) old new → IsCut to from old new
cut_whole to from k old new l c = subst (λ (xs : List ℕ). IsCut to xs old new) (take_all k from l) c

pub below_start : (rows : List (List ℕ)) (old new : List Successors) → new ≡ old → AreCutBelow rows 0 old new
below_start rows old new e = subst (AreCutBelow rows 0 old) (sym e) (record { count = refl; each = λ a b. (λ i. (i, λ m. let l = m.0 in omega arith), λ p. p.0) })

pub below_next : (rows : List (List ℕ)) (n : ℕ) (old mid new : List Successors) → AreCutBelow rows n old mid → IsCut n (row_at rows n) mid new → AreCutBelow rows (n + 1) old new
below_next rows n old mid new x c = record { count = c.count ∙ x.count; each = λ a b. (there a b, back a b) }
  where
    there : (a b : ℕ) → IsEdge new a b → IsEdge old a b × ¬ ((b < n + 1) × Contains (row_at rows b) a)
    there a b i =
        let p = (c.each a b).0 i in
        let q = (x.each a b).0 p.0 in
        (q.0, λ m. by p.1 q.1 m.0 m.1 (cases_lt b n))
      where
        by : ¬ ((b ≡ n) × Contains (row_at rows n) a) → ¬ ((b < n) × Contains (row_at rows b) a) → b < n + 1 → Contains (row_at rows b) a → (b < n) ⊎ (n ≤ b) → ⊥
        by f g l m (inl k) = g (k, m)
        by f g l m (inr k) = let e : b ≡ n = omega arith in f (e, subst (λ (z : ℕ). Contains (row_at rows z) a) e m)

    back : (a b : ℕ) → IsEdge old a b × ¬ ((b < n + 1) × Contains (row_at rows b) a) → IsEdge new a b
    back a b p = (c.each a b).1 ((x.each a b).1 (p.0, λ m. let l = m.0 in p.1 (omega arith, m.1)), λ m. let e = m.0 in p.1 (omega arith, subst (λ (z : ℕ). Contains (row_at rows z) a) (sym m.0) m.1))

pub below_whole : (rows : List (List ℕ)) (n : ℕ) (old new : List Successors) → length rows ≤ n → AreCutBelow rows n old new → AreCut rows old new
below_whole rows n old new l x = record { count = x.count; each = λ a b. (λ i. let p = (x.each a b).0 i in (p.0, λ m. let k = row_within rows b a m in p.1 (omega arith, m)), λ p. (x.each a b).1 (p.0, λ m. p.1 m.1)) }

-- without closed edges the open ones are left
pub open_by : (G : Graph) (rows : List (List ℕ)) (old new : List Successors) → AreNodes G old → AreRowsOf G (IsClosed G) rows → AreCut rows old new → AreOpen G new
open_by G rows old new n h c = record { count = c.count ∙ n.count; each = λ a b. (there a b, back a b) }
  where
    there : (a b : ℕ) → IsEdge new a b → (a < count_of G) × (b < count_of G) × IsOpenStep G (at G a) (at G b)
    there a b i =
        let p = (c.each a b).0 i in
        let q = n.each a b p.0 in
        (q.0, q.1, record { edge = q.2; open_edge = λ k. p.1 ((h.each b q.1).every a q.0 k) })

    back : (a b : ℕ) → (a < count_of G) × (b < count_of G) × IsOpenStep G (at G a) (at G b) → IsEdge new a b
    back a b p = (c.each a b).1 (n.every a b p.0 p.1 p.2.edge, λ m. p.2.open_edge ((h.each b p.1).each a m).1)

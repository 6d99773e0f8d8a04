-- One loop more round its words.
use Rattle.std.proofs.Common.{◌≡◌, ◌≢◌, ℕ, ◌+◌, ◌<◌, ◌⊎◌, inl, inr, Bool, Option, Some, None, List, [], length, get_or, set, take, refl, ap, sym, ◌∙◌, subst, arith}
use Rattle.std.specs.List.{Contains}
use Rattle.std.proofs.lemmas.Bool.{cases_eq}
use Rattle.std.proofs.lemmas.List.{get_or-set_same, get_or-set_other, length-set, get_or_default, get_or-take, length-take-le}
use Rattle.loop_shapes.specs.Search.{IsIndexed}
use Rattle.loop_shapes.specs.Around.{entry_at, GivesWay, IsSettled}
use Rattle.loop_shapes.proofs.Rows.{none_in, contains_more}
use Rattle.loop_shapes.proofs.Searches.{apart_from_indexed}

pub settled_none : (inner : Bool) (found : List ℕ) (header : ℕ) (old : List (Option ℕ)) → IsSettled inner found [] header old old
settled_none inner found header old = record { count = refl; other = λ i n. refl; taken = λ i c g. none_in i c; kept = λ i c g. refl }

-- a number found does not stand before its place
pub not_before : (found slots : List ℕ) → IsIndexed found slots → (k : ℕ) → k < length found → Contains (take k found) (get_or found k 0) → ⊥
not_before found slots x k l c =
    let n = length-take-le k found (omega arith) in
    let m = c.1 in
    let e : get_or found c.0 0 ≡ get_or found k 0 = sym (get_or-take k found c.0 0 (omega arith)) ∙ get_or_default (take k found) c.0 0 (get_or found k 0) m ∙ c.2 in
    apart_from_indexed found slots x c.0 k (omega arith) l e

module _ (inner : Bool) (found slots : List ℕ) (header : ℕ) (old mid : List (Option ℕ)) (k : ℕ) (l : k < length found) (x : IsIndexed found slots) (s : IsSettled inner found (take k found) header old mid) where
  same_here : entry_at mid (get_or found k 0) ≡ entry_at old (get_or found k 0)
  same_here = s.other (get_or found k 0) (not_before found slots x k l)

  pub settled_taken : (new : List (Option ℕ)) → get_or found k 0 < length mid → GivesWay inner found (entry_at mid (get_or found k 0)) → new ≡ set mid (get_or found k 0) (Some header) → IsSettled inner found (take (k + 1) found) header old new
  settled_taken new fits g e = subst (IsSettled inner found (take (k + 1) found) header old) (sym e) (record { count = length-set mid y (Some header) ∙ s.count; other = other; taken = taken; kept = kept })
    where
      y : ℕ
      y = get_or found k 0

      here : entry_at (set mid (get_or found k 0) (Some header)) (get_or found k 0) ≡ Some header
      here = get_or-set_same mid (get_or found k 0) (Some header) None fits

      away : (i : ℕ) → i ≢ get_or found k 0 → entry_at (set mid (get_or found k 0) (Some header)) i ≡ entry_at mid i
      away i ne = get_or-set_other mid (get_or found k 0) i (Some header) None ne

      other : (i : ℕ) → ¬ Contains (take (k + 1) found) i → entry_at (set mid (get_or found k 0) (Some header)) i ≡ entry_at old i
      other i n = away i (λ q. n ((contains_more found k l i).1 (inr q))) ∙ s.other i (λ c. n ((contains_more found k l i).1 (inl c)))

      taken : (i : ℕ) → Contains (take (k + 1) found) i → GivesWay inner found (entry_at old i) → entry_at (set mid (get_or found k 0) (Some header)) i ≡ Some header
      taken i c w = by ((contains_more found k l i).0 c)
        where
          at_other : Contains (take k found) i → (i ≡ get_or found k 0) ⊎ (i ≢ get_or found k 0) → entry_at (set mid (get_or found k 0) (Some header)) i ≡ Some header
          at_other d (inl q) = ap (entry_at (set mid (get_or found k 0) (Some header))) q ∙ here
          at_other d (inr ne) = away i ne ∙ s.taken i d w

          by : Contains (take k found) i ⊎ (i ≡ get_or found k 0) → entry_at (set mid (get_or found k 0) (Some header)) i ≡ Some header
          by (inl d) = at_other d (cases_eq i (get_or found k 0))
          by (inr q) = ap (entry_at (set mid (get_or found k 0) (Some header))) q ∙ here

      kept : (i : ℕ) → Contains (take (k + 1) found) i → ¬ GivesWay inner found (entry_at old i) → entry_at (set mid (get_or found k 0) (Some header)) i ≡ entry_at old i
      kept i c w = by (cases_eq i (get_or found k 0)) ((contains_more found k l i).0 c)
        where
          by : (i ≡ get_or found k 0) ⊎ (i ≢ get_or found k 0) → Contains (take k found) i ⊎ (i ≡ get_or found k 0) → entry_at (set mid (get_or found k 0) (Some header)) i ≡ entry_at old i
          by (inl q) d = absurd (w (subst (λ (z : ℕ). GivesWay inner found (entry_at old z)) (sym q) (subst (GivesWay inner found) same_here g)))
          by (inr ne) (inl d) = away i ne ∙ s.kept i d w
          by (inr ne) (inr q) = absurd (ne q)

  pub settled_kept : ¬ GivesWay inner found (entry_at mid (get_or found k 0)) → IsSettled inner found (take (k + 1) found) header old mid
  settled_kept g = record { count = s.count; other = λ i n. s.other i (λ c. n ((contains_more found k l i).1 (inl c))); taken = taken; kept = kept }
    where
      taken : (i : ℕ) → Contains (take (k + 1) found) i → GivesWay inner found (entry_at old i) → entry_at mid i ≡ Some header
      taken i c w = by ((contains_more found k l i).0 c)
        where
          by : Contains (take k found) i ⊎ (i ≡ get_or found k 0) → entry_at mid i ≡ Some header
          by (inl d) = s.taken i d w
          by (inr q) = absurd (g (subst (GivesWay inner found) (sym same_here) (subst (λ (z : ℕ). GivesWay inner found (entry_at old z)) q w)))

      kept : (i : ℕ) → Contains (take (k + 1) found) i → ¬ GivesWay inner found (entry_at old i) → entry_at mid i ≡ entry_at old i
      kept i c w = by ((contains_more found k l i).0 c)
        where
          by : Contains (take k found) i ⊎ (i ≡ get_or found k 0) → entry_at mid i ≡ entry_at old i
          by (inl d) = s.kept i d w
          by (inr q) = ap (entry_at mid) q ∙ same_here ∙ ap (entry_at old) (sym q)

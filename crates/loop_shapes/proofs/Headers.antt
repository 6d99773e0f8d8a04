-- The headers of a nest, one after another.
use Rattle.std.proofs.Common.{◌≡◌, ℕ, ◌+◌, ◌<◌, ◌≤◌, ◌⊎◌, inl, inr, List, [], ◌∷◌, ◌++◌, length, get_or, take, refl, sym, subst, arith}
use Rattle.std.specs.List.{Contains}
use Rattle.std.proofs.lemmas.List.{take_all}
use Rattle.std.proofs.lemmas.List.Elements.{Contains-push, Contains-push_cases, Contains-append_left, Contains-get_or}
use Rattle.loop_data.specs.declared.graph.Graph.{Graph}
use Rattle.loop_data.specs.Paths.{IsInOrder, addresses}
use Rattle.loop_data.specs.Bodies.{IsHeader, InBody}
use Rattle.loop_shapes.specs.Gains.{HasAll}
use Rattle.loop_shapes.specs.Nested.{HasTriedHeader}
use Rattle.loop_shapes.specs.Net.{AreAt, IsAmong}
use Rattle.loop_shapes.specs.Places.{at, count_of}
use Rattle.loop_shapes.specs.Search.{IsIndexed}
use Rattle.loop_data.specs.Sets.{HasAtMost, IsListOf}
use Rattle.loop_shapes.specs.Sets.{AreDifferent}
use Rattle.loop_data.specs.Shape.{InNest}
use Rattle.loop_shapes.proofs.Rows.{none_in, contains_more, same_place}
use Rattle.loop_shapes.proofs.Parts.{over_not_at_most}
use Rattle.loop_shapes.proofs.Reaching.{apart_push}
use Rattle.loop_shapes.proofs.Searches.{among_all}
use Rattle.loop_shapes.proofs.Settling.{not_before}

-- the headers at the places done
pub record HeadersSoFar (G : Graph) (done all : List ℕ) : Type 0 where
  pub apart : AreDifferent all
  pub each : (x : ℕ) → Contains all x → IsHeader G x × IsAmong G done x
  pub every : (i : ℕ) → Contains done i → IsHeader G (at G i) → Contains all (at G i)

pub headers_none : (G : Graph) (all : List ℕ) → all ≡ [] → HeadersSoFar G [] all
headers_none G all e = subst (HeadersSoFar G []) (sym e) (record { apart = λ i j l m. absurd (omega arith); each = λ x c. none_in x c; every = λ i c. none_in i c })

module _ (G : Graph) (up : IsInOrder G) (found slots : List ℕ) (x : IsIndexed found slots) (within : (i : ℕ) → Contains found i → i < count_of G) (k : ℕ) (l : k < length found) where
  here : Contains found (get_or found k 0)
  here = Contains-get_or found k 0 l

  before : (i : ℕ) → Contains (take k found) i → Contains found i
  before i c = among_all found k l i (inl c)

  grow : (y : ℕ) → IsAmong G (take k found) y → IsAmong G (take (k + 1) found) y
  grow y m = record { place = m.place; among = (contains_more found k l m.place).1 (inl m.among); is = m.is }

  pub headers_more : (mid new : List ℕ) → HeadersSoFar G (take k found) mid → HasTriedHeader G (at G (get_or found k 0)) mid new → HeadersSoFar G (take (k + 1) found) new
  headers_more mid new a (inr t) = subst (HeadersSoFar G (take (k + 1) found)) (sym t.1) (record { apart = a.apart; each = λ y c. let e = a.each y c in (e.0, grow y e.1); every = λ i c h. by i h ((contains_more found k l i).0 c) })
    where
      by : (i : ℕ) → IsHeader G (at G i) → Contains (take k found) i ⊎ (i ≡ get_or found k 0) → Contains mid (at G i)
      by i h (inl c) = a.every i c h
      by i h (inr e) = absurd (t.0 (subst (λ (z : ℕ). IsHeader G (at G z)) e h))
  headers_more mid new a (inl t) = subst (HeadersSoFar G (take (k + 1) found)) (sym t.1) (record { apart = apart_push mid (at G (get_or found k 0)) absent a.apart; each = λ y c. one y (Contains-push_cases mid (at G (get_or found k 0)) y c); every = λ i c h. by i h ((contains_more found k l i).0 c) })
    where
      absent : Contains mid (at G (get_or found k 0)) → ⊥
      absent c =
          let m = (a.each (at G (get_or found k 0)) c).1 in
          let same = same_place (addresses G) up m.place (get_or found k 0) (within m.place (before m.place m.among)) (within (get_or found k 0) here) m.is in
          not_before found slots x k l (subst (Contains (take k found)) same m.among)

      one : (y : ℕ) → Contains mid y ⊎ (at G (get_or found k 0) ≡ y) → IsHeader G y × IsAmong G (take (k + 1) found) y
      one y (inl c) = let e = a.each y c in (e.0, grow y e.1)
      one y (inr e) = (subst (IsHeader G) e t.0, record { place = get_or found k 0; among = (contains_more found k l (get_or found k 0)).1 (inr refl); is = e })

      by : (i : ℕ) → IsHeader G (at G i) → Contains (take k found) i ⊎ (i ≡ get_or found k 0) → Contains (mid ++ at G (get_or found k 0) ∷ []) (at G i)
      by i h (inl c) = Contains-append_left mid (at G (get_or found k 0) ∷ []) (at G i) (a.every i c h)
      by i h (inr e) = subst (λ (z : ℕ). Contains (mid ++ at G (get_or found k 0) ∷ []) (at G z)) (sym e) (Contains-push mid (at G (get_or found k 0)))

  pub headers_many : (h : ℕ) (all : List ℕ) → AreAt G (InBody G h) found → HeadersSoFar G (take k found) all → 4 < length all → ¬ HasAtMost 4 (InNest G h)
  headers_many h all b a m = over_not_at_most 4 (InNest G h) (record { members = all; apart = a.apart; bound = m; each = λ y c. let e = a.each y c in record { header = e.0; inside = subst (InBody G h) e.1.is (b.each e.1.place (before e.1.place e.1.among)).1 } })

pub headers_all : (G : Graph) (found : List ℕ) (k : ℕ) (all : List ℕ) → length found ≤ k → HeadersSoFar G (take k found) all → (h : ℕ) → AreAt G (InBody G h) found → HasAll (InNest G h) all
headers_all G found k all l a h b = record { each = λ y c. let e = s.each y c in record { header = e.0; inside = subst (InBody G h) e.1.is (b.each e.1.place e.1.among).1 }; every = λ y n. let m = b.every y n.inside in subst (Contains all) m.is (s.every m.place m.among (subst (IsHeader G) (sym m.is) n.header)) }
  where
    s : HeadersSoFar G found all
    s = subst (λ (xs : List ℕ). HeadersSoFar G xs all) (take_all k found l) a

pub nest_in_order : (G : Graph) (h : ℕ) (all nest : List ℕ) → HasAll (InNest G h) all → IsListOf (Contains all) nest → IsListOf (InNest G h) nest
nest_in_order G h all nest a l = record { ordered = l.ordered; each = λ x c. a.each x (l.each x c); every = λ x n. l.every x (a.every x n) }

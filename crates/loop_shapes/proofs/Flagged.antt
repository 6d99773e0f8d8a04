-- The least place that is flagged.
use Rattle.std.proofs.Common.{◌≡◌, ℕ, ◌+◌, ◌<◌, ◌≤◌, ◌⊎◌, ◌↔◌, inl, inr, Bool, true, false, Option, Some, None, min, if◌then◌else◌, List, [], length, get_or, map, take, refl, ap, sym, ◌∙◌, subst, arith}
use Rattle.std.specs.List.{Contains}
use Rattle.std.specs.Option.{MatchOption}
use Rattle.std.proofs.lemmas.Bool.{cases_lt, false≢true}
use Rattle.std.proofs.lemmas.List.{take_all, length-map}
use Rattle.loop_data.specs.declared.graph.Graph.{Graph}
use Rattle.loop_data.specs.Paths.{IsInOrder}
use Rattle.loop_shapes.specs.Places.{AreFlags, at}
use Rattle.loop_shapes.specs.declared.kind.Kind.{Kind}
use Rattle.loop_data.specs.Bodies.{InBody}
use Rattle.loop_data.specs.Early.{IsBodyWord, Lacks, IsMisshapen}
use Rattle.loop_shapes.specs.Kinds.{HasKind}
use Rattle.loop_data.specs.Sets.{IsLeast, HasAtMost}
use Rattle.loop_shapes.specs.Net.{AreAt}
use Rattle.loop_shapes.specs.Marks.{IsFirstAt, lesser_of}
use Rattle.loop_shapes.specs.Outer.{IsUnsound}
use Rattle.loop_shapes.proofs.Rows.{none_in, contains_more}
use Rattle.loop_shapes.proofs.ListedRows.{places_rise}
use Rattle.loop_shapes.proofs.Parts.{contains_map}
use Rattle.loop_shapes.proofs.Unsound.{misshapen_is}
use Rattle.loop_data.specs.Flows.{IsSet}

abbrev pub IsSetAmong : List Bool → List ℕ → ℕ → Type 0
IsSetAmong flags found i = Contains found i × IsSet flags i

abbrev pub IsLeastSoFar : List Bool → List ℕ → Option ℕ → Type 0
IsLeastSoFar flags found o = MatchOption o ((i : ℕ) → Contains found i → ¬ IsSet flags i) (IsLeast (IsSetAmong flags found))

pub least_none : (flags : List Bool) → IsLeastSoFar flags [] None
least_none flags = λ i c s. none_in i c

module _ (flags : List Bool) (found : List ℕ) (k : ℕ) (l : k < length found) where
  x : ℕ
  x = get_or found k 0

  here : Contains (take (k + 1) found) (get_or found k 0)
  here = (contains_more found k l (get_or found k 0)).1 (inr refl)

  pub least_more : (least new : Option ℕ) → new ≡ (if get_or flags (get_or found k 0) false then Some (lesser_of least (get_or found k 0)) else least) → IsLeastSoFar flags (take k found) least → IsLeastSoFar flags (take (k + 1) found) new
  least_more least new e a = subst (IsLeastSoFar flags (take (k + 1) found)) (sym e) (by (get_or flags (get_or found k 0) false) refl least a)
    where
      by : (b : Bool) → get_or flags (get_or found k 0) false ≡ b → (least : Option ℕ) → IsLeastSoFar flags (take k found) least → IsLeastSoFar flags (take (k + 1) found) (if b then Some (lesser_of least (get_or found k 0)) else least)
      by true q None n = record { holds = (here, q); least = λ y p. first y p.1 ((contains_more found k l y).0 p.0) }
        where
          first : (y : ℕ) → IsSet flags y → Contains (take k found) y ⊎ (y ≡ get_or found k 0) → get_or found k 0 ≤ y
          first y s (inl c) = absurd (n y c s)
          first y s (inr f) = omega arith
      by true q (Some m) n = record { holds = one (cases_lt m (get_or found k 0)); least = λ y p. below y p.1 ((contains_more found k l y).0 p.0) }
        where
          one : (m < get_or found k 0) ⊎ (get_or found k 0 ≤ m) → IsSetAmong flags (take (k + 1) found) (min m (get_or found k 0))
          one (inl lt) = let f : m ≡ min m (get_or found k 0) = omega arith in subst (IsSetAmong flags (take (k + 1) found)) f ((contains_more found k l m).1 (inl n.holds.0), n.holds.1)
          one (inr ge) = let f : get_or found k 0 ≡ min m (get_or found k 0) = omega arith in subst (IsSetAmong flags (take (k + 1) found)) f (here, q)

          below : (y : ℕ) → IsSet flags y → Contains (take k found) y ⊎ (y ≡ get_or found k 0) → min m (get_or found k 0) ≤ y
          below y s (inl c) = let b = n.least y (c, s) in omega arith
          below y s (inr f) = omega arith
      by false q None n = λ y c s. no y s ((contains_more found k l y).0 c)
        where
          no : (y : ℕ) → IsSet flags y → Contains (take k found) y ⊎ (y ≡ get_or found k 0) → ⊥
          no y s (inl c) = n y c s
          no y s (inr f) = false≢true (sym q ∙ ap (λ (z : ℕ). get_or flags z false) (sym f) ∙ s)
      by false q (Some m) n = record { holds = ((contains_more found k l m).1 (inl n.holds.0), n.holds.1); least = λ y p. below y p.1 ((contains_more found k l y).0 p.0) }
        where
          below : (y : ℕ) → IsSet flags y → Contains (take k found) y ⊎ (y ≡ get_or found k 0) → m ≤ y
          below y s (inl c) = n.least y (c, s)
          below y s (inr f) = absurd (false≢true (sym q ∙ ap (λ (z : ℕ). get_or flags z false) (sym f) ∙ s))

pub least_all : (flags : List Bool) (found : List ℕ) (k : ℕ) (o : Option ℕ) → length found ≤ k → IsLeastSoFar flags (take k found) o → IsLeastSoFar flags found o
least_all flags found k o l a = subst (λ (xs : List ℕ). IsLeastSoFar flags xs o) (take_all k found l) a

-- what the least place says of addresses
module _ (G : Graph) (up : IsInOrder G) (P Q R : ℕ → Type 0) (both : (x : ℕ) → (P x × Q x) ↔ R x) (found : List ℕ) (a : AreAt G P found) (flags : List Bool) (f : AreFlags G Q flags) where
  pub least_address : (p : ℕ) → IsLeast (IsSetAmong flags found) p → IsLeast R (at G p)
  least_address p l = record { holds = (both (at G p)).0 ((a.each p l.holds.0).1, (f.each p (a.each p l.holds.0).0).0 l.holds.1); least = least }
    where
      least : (y : ℕ) → R y → at G p ≤ y
      least y r =
          let b = (both y).1 r in
          let m = a.every y b.0 in
          let lm = (a.each m.place m.among).0 in
          let set = (f.each m.place lm).1 (subst Q (sym m.is) b.1) in
          subst (λ (z : ℕ). at G p ≤ z) m.is ((places_rise G up p m.place (a.each p l.holds.0).0 lm).0 (l.least m.place (m.among, set)))

  pub no_address : ((i : ℕ) → Contains found i → ¬ IsSet flags i) → (x : ℕ) → R x → ⊥
  no_address n x r =
      let b = (both x).1 r in
      let m = a.every x b.0 in
      n m.place m.among ((f.each m.place (a.each m.place m.among).0).1 (subst Q (sym m.is) b.1))

  pub least_first : (given : List Bool) → given ≡ flags → (x : ℕ) → IsFirstAt G found given x → IsLeast R x
  least_first given e x l = subst (IsLeast R) l.is (least_address l.place (subst (λ (bs : List Bool). IsLeast (IsSetAmong bs found) l.place) e l.least))

  pub none_first : (given : List Bool) → given ≡ flags → ((i : ℕ) → Contains found i → ¬ IsSet given i) → (x : ℕ) → R x → ⊥
  none_first given e n = no_address (subst (λ (bs : List Bool). (i : ℕ) → Contains found i → ¬ IsSet bs i) e n)

pub short_by : (G : Graph) (P : ℕ → Type 0) (found : List ℕ) → AreAt G P found → length found ≤ 256 → HasAtMost 256 P
short_by G P found a l = record { members = map (at G) found; bound = subst (λ n. n ≤ 256) (sym (length-map found (at G))) l; all = λ x p. let m = a.every x p in contains_map (at G) found m.place x m.among m.is }

does : (G : Graph) (h : ℕ) (kind : Kind) (x : ℕ) → (InBody G h x × HasKind kind G x) ↔ IsBodyWord G h (HasKind kind) x
does G h kind x = (λ p. record { inside = p.0; holds = p.1 }, λ d. (d.inside, d.holds))

pub first_does : (G : Graph) (up : IsInOrder G) (h : ℕ) (kind : Kind) (found : List ℕ) → AreAt G (InBody G h) found → (flags given : List Bool) → AreFlags G (HasKind kind G) flags → given ≡ flags → (x : ℕ) → IsFirstAt G found given x → IsLeast (IsBodyWord G h (HasKind kind)) x
first_does G up h kind found a flags given f e x l = least_first G up (InBody G h) (HasKind kind G) (IsBodyWord G h (HasKind kind)) (does G h kind) found a flags f given e x l

pub lacks : (G : Graph) (up : IsInOrder G) (h : ℕ) (kind : Kind) (found : List ℕ) → AreAt G (InBody G h) found → (flags given : List Bool) → AreFlags G (HasKind kind G) flags → given ≡ flags → ((i : ℕ) → Contains found i → ¬ IsSet given i) → Lacks G h (HasKind kind)
lacks G up h kind found a flags given f e n = none_first G up (InBody G h) (HasKind kind G) (IsBodyWord G h (HasKind kind)) (does G h kind) found a flags f given e n

pub first_unsound : (G : Graph) (up : IsInOrder G) (h : ℕ) (found : List ℕ) → AreAt G (InBody G h) found → (flags given : List Bool) → AreFlags G (IsUnsound G) flags → given ≡ flags → (x : ℕ) → IsFirstAt G found given x → IsLeast (IsMisshapen G h) x
first_unsound G up h found a flags given f e x l = least_first G up (InBody G h) (IsUnsound G) (IsMisshapen G h) (misshapen_is G h) found a flags f given e x l

pub none_unsound : (G : Graph) (up : IsInOrder G) (h : ℕ) (found : List ℕ) → AreAt G (InBody G h) found → (flags given : List Bool) → AreFlags G (IsUnsound G) flags → given ≡ flags → ((i : ℕ) → Contains found i → ¬ IsSet given i) → (x : ℕ) → ¬ IsMisshapen G h x
none_unsound G up h found a flags given f e n = none_first G up (InBody G h) (IsUnsound G) (IsMisshapen G h) (misshapen_is G h) found a flags f given e n

-- What closing the open nodes from a place on makes of the marks.
use Rattle.std.proofs.Common.{ℕ, ◌≡◌, ◌+◌, ◌<◌, ◌≤◌, ◌⊎◌, inl, inr, List, [], ◌∷◌, ◌++◌, length, set, take, map, Option, Some, None, refl, sym, ap, subst, ◌∙◌, arith, cond}
use Rattle.std.specs.List.{slice_get}
use Rattle.std.specs.Option.{option_map}
use Rattle.std.proofs.lemmas.Bool.{cases_eq, cases_lt, lt-ltb, le-ltb}
use Rattle.std.proofs.lemmas.Option.{none-some, same_Some, slice_get_within, slice_get-map}
use Rattle.std.proofs.lemmas.List.{length_push, length-map, take_at, take_all, take-take}
use Rattle.std.proofs.lemmas.List.Sums.{sum_by-cons}
use Rattle.strong_components.specs.declared.search.Mark.{Mark}
use Rattle.strong_components.specs.declared.search.Mark.TheVariants.{Unseen, Open, Closed}
use Rattle.strong_components.specs.Search.{is_unseen, unseen_count, closed_from, IsPlaced}
use Rattle.strong_components.proofs.Lists.{get_push_same, get_set_same, get_set_other, get_take_some, same_from_get}

pub closed_low : (place count at : ℕ) → at < place → closed_from place count (Open at) ≡ Open at
closed_low place count at h = ap (λ b. cond b (Open at) (Closed count)) (lt-ltb at place h)

pub closed_high : (place count at : ℕ) → place ≤ at → closed_from place count (Open at) ≡ Closed count
closed_high place count at h = ap (λ b. cond b (Open at) (Closed count)) (le-ltb at place h)

-- one place more differs only at the node of that place
closed_one_more : (place count : ℕ) (o : Option Mark) → (o ≡ Some (Open place) → ⊥) → option_map (closed_from (place + 1) count) o ≡ option_map (closed_from place count) o
closed_one_more place count None h = refl
closed_one_more place count (Some Unseen) h = refl
closed_one_more place count (Some (Closed d)) h = refl
closed_one_more place count (Some (Open p)) h =
    elim (cases_lt p place) [
      | inl low ↦ ap Some (closed_low (place + 1) count p (omega arith) ∙ sym (closed_low place count p low))
      | inr high ↦
          elim (cases_eq p place) [
            | inl same ↦ absurd (h (ap (λ q. Some (Open q)) same))
            | inr other ↦ ap Some (closed_high (place + 1) count p (omega arith) ∙ sym (closed_high place count p high))
          ]
    ]

-- past the stack no node is open
closed_none : (place count : ℕ) (o : Option Mark) → ((p : ℕ) → o ≡ Some (Open p) → p < place) → o ≡ option_map (closed_from place count) o
closed_none place count None h = refl
closed_none place count (Some Unseen) h = refl
closed_none place count (Some (Closed d)) h = refl
closed_none place count (Some (Open p)) h = ap Some (sym (closed_low place count p (h p refl)))

-- the open nodes that are no longer on the stack are closed
pub record IsClosing (marks : List Mark) (stack : List ℕ) (new_marks : List Mark) (new_stack : List ℕ) (count : ℕ) : Type 0 where
  pub placed : IsPlaced marks stack
  pub closed : new_marks ≡ map (closed_from (length new_stack) count) marks
  pub left : new_stack ≡ take (length new_stack) stack
  pub within : length new_stack ≤ length stack

pub closing_none : (marks : List Mark) (stack : List ℕ) (count : ℕ) → IsPlaced marks stack → IsClosing marks stack marks stack count
closing_none marks stack count placed =
    record {
      placed = placed;
      closed = same_from_get marks (map (closed_from (length stack) count) marks) (λ i.
          closed_none (length stack) count (slice_get marks i) (λ p e. slice_get_within stack p i (placed.stacked p i e))
          ∙ sym (slice_get-map (closed_from (length stack) count) marks i));
      left = sym (take_all (length stack) stack (omega arith));
      within = omega arith;
    }

-- the last node of the stack was marked as open there
pub closing_last : (marks new_marks : List Mark) (stack new_stack rest : List ℕ) (count node : ℕ) → IsClosing marks stack new_marks new_stack count → new_stack ≡ rest ++ node ∷ [] → slice_get marks node ≡ Some (Open (length rest))
closing_last marks new_marks stack new_stack rest count node closing split =
    let at : slice_get (rest ++ node ∷ []) (length rest) ≡ Some node = get_push_same rest node in
    let there : slice_get (take (length new_stack) stack) (length rest) ≡ Some node = subst (λ l. slice_get l (length rest) ≡ Some node) (sym split ∙ closing.left) at in
    closing.placed.marked (length rest) node (get_take_some (length new_stack) stack (length rest) node there).1

pub closing_inside : (marks new_marks : List Mark) (stack new_stack rest : List ℕ) (count node : ℕ) → IsClosing marks stack new_marks new_stack count → new_stack ≡ rest ++ node ∷ [] → node < length new_marks
closing_inside marks new_marks stack new_stack rest count node closing split =
    let open_there = closing_last marks new_marks stack new_stack rest count node closing split in
    let within = slice_get_within marks node (Open (length rest)) open_there in
    let same = ap length closing.closed in
    let kept = length-map marks (closed_from (length new_stack) count) in
    omega arith

pub closing_more : (marks new_marks : List Mark) (stack new_stack rest : List ℕ) (count node : ℕ) → IsClosing marks stack new_marks new_stack count → new_stack ≡ rest ++ node ∷ [] → IsClosing marks stack (set new_marks node (Closed count)) rest count
closing_more marks new_marks stack new_stack rest count node closing split =
    let k = length rest in
    let n : length new_stack ≡ k + 1 = ap length split ∙ length_push rest node in
    let open_there : slice_get marks node ≡ Some (Open k) = closing_last marks new_marks stack new_stack rest count node closing split in
    let inside = closing_inside marks new_marks stack new_stack rest count node closing split in
    let before : new_marks ≡ map (closed_from (k + 1) count) marks = closing.closed ∙ ap (λ m. map (closed_from m count) marks) n in
    let taken : rest ≡ take k stack =
    sym (take_at rest (node ∷ []) k refl) ∙ ap (take k) (sym split) ∙ ap (take k) closing.left ∙ take-take k (length new_stack) stack (omega arith) in
    record {
      placed = closing.placed;
      closed = same_from_get (set new_marks node (Closed count)) (map (closed_from k count) marks) (λ i.
          elim (cases_eq i node) [
            | inl same ↦
                (let here : slice_get (set new_marks node (Closed count)) node ≡ Some (Closed count) = get_set_same new_marks node (Closed count) inside in
                let there : slice_get (map (closed_from k count) marks) node ≡ Some (Closed count) =
                slice_get-map (closed_from k count) marks node ∙ ap (option_map (closed_from k count)) open_there ∙ ap Some (closed_high k count k (omega arith)) in
                cc)
            | inr other ↦
                get_set_other new_marks node i (Closed count) other ∙ ap (λ l. slice_get l i) before ∙ slice_get-map (closed_from (k + 1) count) marks i
                ∙ closed_one_more k count (slice_get marks i) (λ e.
                other (let a = closing.placed.stacked k i e in let b = closing.placed.stacked k node open_there in same_Some i node (sym a ∙ b)))
                ∙ sym (slice_get-map (closed_from k count) marks i)
          ]);
      left = taken;
      within = let w = closing.within in omega arith;
    }

-- marks after nodes were closed, and before
pub after_low : (marks : List Mark) (place count v p : ℕ) → slice_get marks v ≡ Some (Open p) → p < place → slice_get (map (closed_from place count) marks) v ≡ Some (Open p)
after_low marks place count v p e h = slice_get-map (closed_from place count) marks v ∙ ap (option_map (closed_from place count)) e ∙ ap Some (closed_low place count p h)

pub after_high : (marks : List Mark) (place count v p : ℕ) → slice_get marks v ≡ Some (Open p) → place ≤ p → slice_get (map (closed_from place count) marks) v ≡ Some (Closed count)
after_high marks place count v p e h = slice_get-map (closed_from place count) marks v ∙ ap (option_map (closed_from place count)) e ∙ ap Some (closed_high place count p h)

pub after_closed : (marks : List Mark) (place count v d : ℕ) → slice_get marks v ≡ Some (Closed d) → slice_get (map (closed_from place count) marks) v ≡ Some (Closed d)
after_closed marks place count v d e = slice_get-map (closed_from place count) marks v ∙ ap (option_map (closed_from place count)) e

unseen_was : (place count : ℕ) (o : Option Mark) → option_map (closed_from place count) o ≡ Some Unseen → o ≡ Some Unseen
unseen_was place count None e = absurd (none-some Unseen e)
unseen_was place count (Some Unseen) e = refl
unseen_was place count (Some (Closed d)) e = absurd (cc)
unseen_was place count (Some (Open p)) e =
    elim (cases_lt p place) [ inl low ↦ absurd (let f = closed_low place count p low in cc) | inr high ↦ absurd (let f = closed_high place count p high in cc) ]

pub before_unseen : (marks : List Mark) (place count v : ℕ) → slice_get (map (closed_from place count) marks) v ≡ Some Unseen → slice_get marks v ≡ Some Unseen
before_unseen marks place count v e = unseen_was place count (slice_get marks v) (sym (slice_get-map (closed_from place count) marks v) ∙ e)

open_was : (place count q : ℕ) (o : Option Mark) → option_map (closed_from place count) o ≡ Some (Open q) → (o ≡ Some (Open q)) × (q < place)
open_was place count q None e = absurd (none-some (Open q) e)
open_was place count q (Some Unseen) e = absurd (cc)
open_was place count q (Some (Closed d)) e = absurd (cc)
open_was place count q (Some (Open p)) e =
    elim (cases_lt p place) [
      | inl low ↦ (let f = closed_low place count p low in let is : p ≡ q = cc in (ap (λ n. Some (Open n)) is, omega arith))
      | inr high ↦ absurd (let f = closed_high place count p high in cc)
    ]

pub before_open : (marks : List Mark) (place count v p : ℕ) → slice_get (map (closed_from place count) marks) v ≡ Some (Open p) → (slice_get marks v ≡ Some (Open p)) × (p < place)
before_open marks place count v p e = open_was place count p (slice_get marks v) (sym (slice_get-map (closed_from place count) marks v) ∙ e)

-- a node that is closed now was closed, or was open at a place from there on
pub record IsFresh (o : Option Mark) (place count d : ℕ) : Type 0 where
  pub at : ℕ
  pub was : o ≡ Some (Open at)
  pub high : place ≤ at
  pub is : d ≡ count

closed_was : (place count d : ℕ) (o : Option Mark) → option_map (closed_from place count) o ≡ Some (Closed d) → (o ≡ Some (Closed d)) ⊎ IsFresh o place count d
closed_was place count d None e = absurd (none-some (Closed d) e)
closed_was place count d (Some Unseen) e = absurd (cc)
closed_was place count d (Some (Closed c)) e = inl e
closed_was place count d (Some (Open p)) e =
    elim (cases_lt p place) [
      | inl low ↦ absurd (let f = closed_low place count p low in cc)
      | inr high ↦ inr (let f = closed_high place count p high in let is : d ≡ count = cc in record { at = p; was = refl; high = high; is = is })
    ]

pub before_closed : (marks : List Mark) (place count v d : ℕ) → slice_get (map (closed_from place count) marks) v ≡ Some (Closed d) → (slice_get marks v ≡ Some (Closed d)) ⊎ IsFresh (slice_get marks v) place count d
before_closed marks place count v d e = closed_was place count d (slice_get marks v) (sym (slice_get-map (closed_from place count) marks v) ∙ e)

-- one for an unseen node
abbrev pub weight_of : Mark → ℕ
weight_of m = cond (is_unseen m) 1 0

unseen_same : (place count : ℕ) (m : Mark) → weight_of (closed_from place count m) ≡ weight_of m
unseen_same place count Unseen = refl
unseen_same place count (Closed d) = refl
unseen_same place count (Open p) =
    elim (cases_lt p place) [
      | inl low ↦ ap weight_of (closed_low place count p low)
      | inr high ↦ ap weight_of (closed_high place count p high)
    ]

-- as many are unseen as before
pub unseen_count-closed : (place count : ℕ) (marks : List Mark) → unseen_count (map (closed_from place count) marks) ≡ unseen_count marks
unseen_count-closed place count [] = refl
unseen_count-closed place count (m ∷ ms) =
    let one = sum_by-cons weight_of (closed_from place count m) (map (closed_from place count) ms) in
    let two = sum_by-cons weight_of m ms in
    let rest = unseen_count-closed place count ms in
    let same = unseen_same place count m in
    omega arith

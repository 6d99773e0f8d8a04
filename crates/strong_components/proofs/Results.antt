-- The numbers that a finished search gives.
use Rattle.std.proofs.Common.{ℕ, zero, suc, ◌≡◌, ◌<◌, ◌≤◌, ◌↔◌, List, [], ◌∷◌, length, map, get_or, replicate, Some, sym, ap, ◌∙◌, arith}
use Rattle.std.specs.List.{slice_get, Contains}
use Rattle.std.specs.Option.{option_map}
use Rattle.std.proofs.lemmas.Option.{none-some, same_Some, slice_get_within, slice_get-get_or, get_or_from_slice_get, slice_get-map}
use Rattle.std.proofs.lemmas.List.{length-replicate}
use Rattle.std.proofs.lemmas.List.Sums.{count_by-le-length}
use Rattle.strong_components.specs.declared.graph.Successors.{Successors}
use Rattle.strong_components.specs.declared.search.Search.{Search}
use Rattle.strong_components.specs.declared.search.Mark.{Mark}
use Rattle.strong_components.specs.declared.search.Mark.TheVariants.{Unseen, Open, Closed}
use Rattle.strong_components.specs.Graph.{IsEdge, IsPath, HasPath}
use Rattle.strong_components.specs.Search.{is_unseen, number_of, IsState, IsSound}
use Rattle.strong_components.proofs.Lists.{contains_from_get}
use Rattle.strong_components.proofs.States.{mark_cases, idle_empty}

replicate_get : (n v : ℕ) (x y : Mark) → slice_get (replicate n x) v ≡ Some y → x ≡ y
replicate_get zero v x y e = absurd (none-some y e)
replicate_get (suc n) zero x y e = same_Some x y e
replicate_get (suc n) (suc v) x y e = replicate_get n v x y e

-- at the start no node is seen
pub state_fresh : (nodes : List Successors) (n : ℕ) → n ≡ length nodes → IsState nodes (replicate n Unseen) [] [] [] 0
state_fresh nodes n is =
    let size = length-replicate n Unseen in
    let never_open : (v i : ℕ) → slice_get (replicate n Unseen) v ≡ Some (Open i) → ⊥ = λ v i e. let h = replicate_get n v Unseen (Open i) e in cc in
    let never_closed : (v c : ℕ) → slice_get (replicate n Unseen) v ≡ Some (Closed c) → ⊥ = λ v c e. let h = replicate_get n v Unseen (Closed c) e in cc in
    record {
      all_marked = size ∙ is;
      placed = record { marked = λ i v e. absurd (none-some v e); stacked = λ i v e. absurd (never_open v i e) };
      path_rises = λ i j h l. absurd (omega arith);
      path_on_stack = λ t has. absurd (omega (arith, has.1));
      bounds_rise = λ i j h l. absurd (omega arith);
      bounds_on_path = λ b has. absurd (omega (arith, has.1));
      first_bound = λ some. absurd (omega arith);
      joined = λ i j u v a b above. absurd (none-some u a);
      done = λ i u w a off edge. absurd (none-some u a);
      closed_edges = λ u w c e edge. absurd (never_closed u c e);
      closed_below = λ u c e. absurd (never_closed u c e);
      closed_used = λ c h. absurd (omega arith);
      closed_joined = λ u v c e f. absurd (never_closed u c e);
      counted = let l = count_by-le-length is_unseen (replicate n Unseen) in omega arith;
      stacked = let l = count_by-le-length is_unseen (replicate n Unseen) in omega arith;
    }

-- a node that is closed, with its number
pub record IsNumbered (marks : List Mark) (v : ℕ) : Type 0 where
  pub number : ℕ
  pub is : slice_get marks v ≡ Some (Closed number)
  pub given : get_or (map number_of marks) v 0 ≡ number

number_given : (marks : List Mark) (v c : ℕ) → slice_get marks v ≡ Some (Closed c) → get_or (map number_of marks) v 0 ≡ c
number_given marks v c e = get_or_from_slice_get (map number_of marks) v c 0 (slice_get-map number_of marks v ∙ ap (option_map number_of) e)

-- at the end each node is closed
pub all_numbered : (nodes : List Successors) (s : Search) → IsSound nodes s → s.path.items ≡ [] → ((v : ℕ) → v < length nodes → slice_get s.marks.items v ≡ Some Unseen → ⊥) → (v : ℕ) → v < length nodes → IsNumbered s.marks.items v
all_numbered nodes s state idle seen v inside =
    let marked : v < length s.marks.items = let m = state.all_marked in omega arith in
    mark_cases (slice_get s.marks.items v) (IsNumbered s.marks.items v)
    (λ e. absurd (none-some (get_or s.marks.items v Unseen) (sym e ∙ slice_get-get_or s.marks.items v Unseen marked)))
    (λ e. absurd (seen v inside e))
    (λ p e. absurd (idle_empty nodes s p v state idle (state.placed.stacked p v e)))
    (λ c e. record { number = c; is = e; given = number_given s.marks.items v c e })

-- there are not more components than nodes
pub number_below : (nodes : List Successors) (s : Search) → IsSound nodes s → (v : ℕ) → IsNumbered s.marks.items v → get_or (map number_of s.marks.items) v 0 < length nodes
number_below nodes s state v one =
    let below = state.closed_below v one.number one.is in
    let few = state.counted in
    let given = one.given in
    omega arith

-- each number up to that of a node is that of a node
pub numbers_used : (nodes : List Successors) (s : Search) → IsSound nodes s → (v : ℕ) → IsNumbered s.marks.items v → (k : ℕ) → k ≤ get_or (map number_of s.marks.items) v 0 → Contains (map number_of s.marks.items) k
numbers_used nodes s state v one k low =
    let below = state.closed_below v one.number one.is in
    let given = one.given in
    let used = state.closed_used k (omega arith) in
    contains_from_get (map number_of s.marks.items) used.node k (slice_get-map number_of s.marks.items used.node ∙ ap (option_map number_of) used.is)

-- along an edge the number does not rise
pub edge_order : (nodes : List Successors) (s : Search) → IsSound nodes s → ((v : ℕ) → v < length nodes → IsNumbered s.marks.items v) → (a b : ℕ) → IsEdge nodes a b → get_or (map number_of s.marks.items) b 0 ≤ get_or (map number_of s.marks.items) a 0
edge_order nodes s state all a b edge =
    let from = all a (slice_get_within nodes a edge.node edge.is) in
    let to = state.closed_edges a b from.number from.is edge in
    let given = number_given s.marks.items b to.number to.is in
    let below = to.below in let was = from.given in omega arith

-- nor along a path
path_order : (nodes : List Successors) (numbers : List ℕ) → ((a b : ℕ) → IsEdge nodes a b → get_or numbers b 0 ≤ get_or numbers a 0) → (xs : List ℕ) (a b : ℕ) → IsPath nodes xs a b → get_or numbers b 0 ≤ get_or numbers a 0
path_order nodes numbers order [] a b p = let e = ap (λ x. get_or numbers x 0) p in omega arith
path_order nodes numbers order (x ∷ xs) a b p = let l = order a x p.0 in let m = path_order nodes numbers order xs x b p.1 in omega arith

-- two nodes have the same number exactly where each is reached from the other
pub same_component : (nodes : List Successors) (s : Search) → IsSound nodes s → ((v : ℕ) → v < length nodes → IsNumbered s.marks.items v) → (a b : ℕ) → a < length nodes → b < length nodes
    → (get_or (map number_of s.marks.items) a 0 ≡ get_or (map number_of s.marks.items) b 0) ↔ (HasPath nodes a b × HasPath nodes b a)
same_component nodes s state all a b in_a in_b =
    let one = all a in_a in let two = all b in_b in
    let numbers = map number_of s.marks.items in
    let order = edge_order nodes s state all in (
      λ same.
          let e : two.number ≡ one.number = let x = one.given in let y = two.given in omega arith in
          let is_b : slice_get s.marks.items b ≡ Some (Closed one.number) = two.is ∙ ap (λ c. Some (Closed c)) e in
          (state.closed_joined a b one.number one.is is_b, state.closed_joined b a one.number is_b one.is),
      λ both.
          let down = path_order nodes numbers order both.0.through a b both.0.path in
          let up = path_order nodes numbers order both.1.through b a both.1.path in omega arith,
    )

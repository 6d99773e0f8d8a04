-- A walk in depth: its turns end.
use Rattle.std.proofs.Common.{◌≡◌, ℕ, zero, suc, ◌+◌, ◌-◌, ◌*◌, ◌<◌, ◌≤◌, ◌⊎◌, inl, inr, Some, List, [], ◌∷◌, ◌++◌, length, get_or, refl, ap, sym, ◌∙◌, subst, arith}
use Rattle.std.specs.List.{Contains, slice_get}
use Rattle.std.proofs.lemmas.Bool.{cases_lt}
use Rattle.std.proofs.lemmas.List.{get_or_default}
use Rattle.std.proofs.lemmas.List.Elements.{Contains-push_cases, Contains-append_left}
use Rattle.loop_data.proofs.Lists.{In, from_in, to_in, pigeons, apart_from_places}
use Rattle.loop_shapes.specs.PlaceSet.{IsPlaceSet}
use Rattle.loop_shapes.specs.Walk.{AreBelow}
use Rattle.strong_components.specs.declared.graph.Successors.{Successors}
use Rattle.strong_components.specs.Graph.{LeadsInside, LeadsTo}
use Rattle.loop_shapes.proofs.Cutting.{node_at}
use Rattle.loop_shapes.specs.declared.place_set.PlaceSet.{PlaceSet}
use Rattle.loop_shapes.proofs.Searches.{apart_from_indexed, within_slots}

-- the numbers below n
abbrev numbers : ℕ → List ℕ
numbers zero = []
numbers (suc n) = n ∷ numbers n

length_numbers : (n : ℕ) → length (numbers n) ≡ n
length_numbers zero = refl
length_numbers (suc n) = ap suc (length_numbers n)

in_numbers : (n x : ℕ) → x < n → In (numbers n) x
in_numbers zero x l = absurd (omega arith)
in_numbers (suc n) x l = by (cases_lt x n) (in_numbers n x)
  where
    by : (x < n) ⊎ (n ≤ x) → (x < n → In (numbers n) x) → In (numbers (suc n)) x
    by (inl m) before = inr (before m)
    by (inr m) before = inl (omega arith)

-- a set of places below n has at most n
pub no_more_places : (n : ℕ) (s : PlaceSet) → IsPlaceSet n s → length s.found.items ≤ n
no_more_places n s p =
    let xs = s.found.items in
    let l : length xs ≤ length (numbers n) = pigeons xs (numbers n) (apart_from_places xs (apart_from_indexed xs s.slots.items p.indexed)) (λ x i. in_numbers n x (within_slots n xs s.slots.items p.count p.indexed x (from_in xs x i))) in
    let e = length_numbers n in
    omega arith

-- one number more, and some numbers less
pub below_push : (n : ℕ) (old new : List ℕ) (x : ℕ) → new ≡ old ++ x ∷ [] → x < n → AreBelow n old → AreBelow n new
below_push n old new x e l b i c = by (Contains-push_cases old x i (subst (λ (xs : List ℕ). Contains xs i) e c))
  where
    by : Contains old i ⊎ (x ≡ i) → i < n
    by (inl m) = b i m
    by (inr q) = omega arith

pub below_front : (n : ℕ) (old new more : List ℕ) → old ≡ new ++ more → AreBelow n old → AreBelow n new
below_front n old new more e b i c = b i (subst (λ (xs : List ℕ). Contains xs i) (sym e) (Contains-append_left new more i c))

-- where a node leads is below the number of nodes
pub leads_below : (nodes : List Successors) (i b : ℕ) (d : Successors) → LeadsInside nodes → i < length nodes → LeadsTo (get_or nodes i d) b → b < length nodes
leads_below nodes i b d s l lead = s.inside i b ((node_at nodes i b (get_or nodes i d) l (get_or_default nodes i d (get_or nodes i d) l)).0 lead)

-- a number that stands somewhere is among the numbers
pub among_at : (xs : List ℕ) (i x : ℕ) → slice_get xs i ≡ Some x → Contains xs x
among_at [] i x e = absurd (cc)
among_at (y ∷ ys) zero x e = from_in (y ∷ ys) x (inl (cc))
among_at (y ∷ ys) (suc i) x e = from_in (y ∷ ys) x (inr (to_in ys x (among_at ys i x e)))

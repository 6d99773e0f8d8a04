-- Paths that are put together.
use Rattle.std.proofs.Common.{ℕ, ◌<◌, length, get_or, List, [], ◌∷◌, ◌++◌, refl, sym, subst}
use Rattle.std.proofs.lemmas.Option.{slice_get-get_or}
use Rattle.strong_components.specs.declared.graph.Successors.{Successors}
use Rattle.strong_components.specs.Graph.{LeadsTo, IsEdge, IsPath, HasPath}

pub path_append : (nodes : List Successors) (xs ys : List ℕ) (a b c : ℕ) → IsPath nodes xs a b → IsPath nodes ys b c → IsPath nodes (xs ++ ys) a c
path_append nodes [] ys a b c p q = subst (λ x. IsPath nodes ys x c) (sym p) q
path_append nodes (x ∷ xs) ys a b c p q = (p.0, path_append nodes xs ys x b c p.1 q)

pub reaches_self : (nodes : List Successors) (a : ℕ) → HasPath nodes a a
reaches_self nodes a = record { through = []; path = refl }

pub reaches_through : (nodes : List Successors) (a b c : ℕ) → HasPath nodes a b → HasPath nodes b c → HasPath nodes a c
reaches_through nodes a b c p q =
    record { through = p.through ++ q.through; path = path_append nodes p.through q.through a b c p.path q.path }

pub reaches_next : (nodes : List Successors) (a b : ℕ) → IsEdge nodes a b → HasPath nodes a b
reaches_next nodes a b e = record { through = b ∷ []; path = (e, refl) }

-- an edge of the node at a place
pub edge_from : (nodes : List Successors) (u w : ℕ) (d : Successors) → u < length nodes → LeadsTo (get_or nodes u d) w → IsEdge nodes u w
edge_from nodes u w d inside leads = record { node = get_or nodes u d; is = slice_get-get_or nodes u d inside; leads = leads }

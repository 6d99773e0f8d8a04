-- Edges from each of some addresses.
use Rattle.std.proofs.Common.{◌≡◌, ℕ, ◌↔◌, Bool, List, refl, sym, subst}
use Rattle.std.specs.List.{Contains}
use Rattle.loop_data.specs.declared.graph.Graph.{Graph}
use Rattle.loop_data.specs.Paths.{Leads}
use Rattle.loop_shapes.specs.Edges.{IsChosen, IsEdgeFrom, IsEdgeBetween}
use Rattle.loop_shapes.proofs.Gains.{Among}

-- the edge to one address
abbrev pub StepTo : ℕ → Bool → List ℕ → ℕ → ℕ × ℕ → Type 0
StepTo x inside to y e = (e.0 ≡ x) × (e.1 ≡ y) × IsChosen inside to y

pub edge_from : (G : Graph) (to : List ℕ) (inside : Bool) (x : ℕ) (steps : List ℕ) → ((y : ℕ) → Contains steps y ↔ Leads G x y) → (e : ℕ × ℕ) → Among (StepTo x inside to) steps e ↔ IsEdgeFrom G to inside x e
edge_from G to inside x steps exact e = (
  λ a. record { source = a.holds.0; edge = subst (Leads G x) (sym a.holds.1) ((exact a.from).0 a.among); chosen = subst (IsChosen inside to) (sym a.holds.1) a.holds.2 },
  λ f. record { from = e.1; among = (exact e.1).1 f.edge; holds = (f.source, refl, f.chosen) },
)

pub edge_between : (G : Graph) (from to : List ℕ) (inside : Bool) (e : ℕ × ℕ) → Among (IsEdgeFrom G to inside) from e ↔ IsEdgeBetween G from to inside e
edge_between G from to inside e = (
  λ a. record { source = subst (Contains from) (sym a.holds.source) a.among; edge = subst (λ (q : ℕ). Leads G q e.1) (sym a.holds.source) a.holds.edge; chosen = a.holds.chosen },
  λ f. record { from = e.0; among = f.source; holds = record { source = refl; edge = f.edge; chosen = f.chosen } },
)

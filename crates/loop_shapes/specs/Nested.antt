-- The headers of a nest, one after another.
use Rattle.std.specs.Prelude.{ℕ, ◌≡◌, ◌⊎◌, ◌++◌, ◌∷◌, [], List}
use Rattle.loop_data.specs.declared.graph.Graph.{Graph}
use Rattle.loop_data.specs.Bodies.{IsHeader}

-- an address more, where a loop stands there
abbrev pub HasTriedHeader : Graph → ℕ → List ℕ → List ℕ → Type 0
HasTriedHeader G x old new = (IsHeader G x × (new ≡ old ++ x ∷ [])) ⊎ (¬ IsHeader G x × (new ≡ old))

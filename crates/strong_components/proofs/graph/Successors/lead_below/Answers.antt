use Rattle.std.proofs.Common.{inl, inr}
use Rattle.std.proofs.lemmas.Bool.{both_ways}
use Rattle.strong_components.proofs.graph.Successors.lead_below.Goals as goal

pub returns-then-is_below : goal.returns-then-is_below
returns-then-is_below c =
    let second = c.is_below-then-is_below.ensures in
    (λ yes b leads. elim leads [ inl e ↦ c.is_below.ensures.0 c.if-is_below.true b e | inr e ↦ second.0 yes b e ], λ all. second.1 (λ w e. all w (inr e)))

pub returns-else-is_below : goal.returns-else-is_below
returns-else-is_below c =
    (λ yes. absurd (both_ways c.is_below.result c.if-is_below.false yes), λ all. c.is_below.ensures.1 (λ w e. all w (inl e)))

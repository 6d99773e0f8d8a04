-- Addresses that are among some and not among others.
use Rattle.std.specs.Prelude.{ℕ, List}
use Rattle.std.specs.List.{Contains}

pub record InDifference (xs ys : List ℕ) (x : ℕ) : Type 0 where
  pub among : Contains xs x
  pub absent : ¬ Contains ys x

-- Lists that gain the members of a set.
use Rattle.std.specs.Prelude.{◌≡◌, ◌⊎◌, List}
use Rattle.std.specs.List.{Contains}

-- the new list has what the old one has and the members of the set
pub record Gained {X : Type 0} (P : X → Type 0) (old new : List X) : Type 0 where
  pub each : (e : X) → Contains new e → Contains old e ⊎ P e
  pub kept : (e : X) → Contains old e → Contains new e
  pub every : (e : X) → P e → Contains new e

-- the list has exactly the members of the set
pub record HasAll {X : Type 0} (P : X → Type 0) (xs : List X) : Type 0 where
  pub each : (e : X) → Contains xs e → P e
  pub every : (e : X) → P e → Contains xs e

-- the list has one element, or the same one several times
pub record IsOnly {X : Type 0} (xs : List X) (e : X) : Type 0 where
  pub among : Contains xs e
  pub same : (f : X) → Contains xs f → f ≡ e

-- Taking words of a loop out.
use Rattle.std.specs.Prelude.{ℕ, ◌≡◌, ◌<◌, ◌≤◌, ◌⊎◌, List, length, slice_index, take}
use Rattle.std.specs.List.{Contains}
use Rattle.strong_components.specs.declared.graph.Successors.{Successors}
use Rattle.strong_components.specs.Graph.{IsEdge}
use Rattle.loop_shapes.specs.LoopBody.{LeadsOnFrom}

-- of the places those that are gone, one after another: from each of these edges lead, among the places,
-- only to what went before
pub record AreGone (nodes : List Successors) (places gone : List ℕ) : Type 0 where
  pub among : (i : ℕ) → Contains gone i → Contains places i
  pub order : (k i : ℕ) → k < length gone → IsEdge nodes (slice_index gone k) i → Contains places i
      → Contains (take k gone) i

-- more of the places are gone: each of the tried ones from which no edge leads on
pub record HasGone (nodes : List Successors) (places : List ℕ) (Tried : ℕ → Type 0) (old new : List ℕ) : Type 0 where
  pub longer : length old ≤ length new
  pub same : (k : ℕ) → k < length old → slice_index new k ≡ slice_index old k
  pub gone : AreGone nodes places old → AreGone nodes places new
  pub tried : (i : ℕ) → Tried i → Contains places i → Contains new i ⊎ LeadsOnFrom nodes places old i

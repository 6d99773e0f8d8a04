-- Words that are known to be reached from start words.
use Rattle.std.specs.Prelude.{ℕ, ◌≡◌, ◌<◌, Bool, true, false, List, length, slice_index_or}
use Rattle.loop_data.specs.declared.graph.Graph.{Graph}
use Rattle.loop_data.specs.Starts.{FromStart}
use Rattle.loop_shapes.specs.Places.{count_of, at}

-- a flag is set only at a word to which a start word leads
pub record AreFlagsFromStarts (G : Graph) (flags : List Bool) : Type 0 where
  pub count : length flags ≡ count_of G
  pub each : (i : ℕ) → i < count_of G → slice_index_or flags i false ≡ true → FromStart G (at G i)

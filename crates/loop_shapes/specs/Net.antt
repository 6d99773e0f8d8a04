-- A graph with what is looked up in it.
use Rattle.std.specs.Prelude.{ℕ, ◌≡◌, ◌<◌, ◌≤◌, ◌⊎◌, MatchBool, Bool, true, false, List, length, slice_index_or}
use Rattle.std.specs.List.{Contains}
use Rattle.loop_data.specs.declared.graph.Graph.{Graph}
use Rattle.loop_shapes.specs.declared.net.Net.{Net}
use Rattle.loop_data.specs.Paths.{addresses, IsInOrder}
use Rattle.loop_shapes.specs.Places.{HasPredecessors, AreFlags, count_of, at}
use Rattle.loop_data.specs.Bodies.{InPart, IsClosed, InBody}
use Rattle.loop_data.specs.Sets.{HasAtMost}
use Rattle.loop_shapes.specs.Search.{ArePairs}
use Rattle.loop_data.specs.Starts.{AreFromStarts}
use Rattle.loop_data.specs.Flows.{rows}

-- the graph of the net
abbrev pub graph_of : Net → Graph
graph_of n = n.graph.now

-- the net has what is true of its graph
pub record IsNet (n : Net) : Type 0 where
  pub ordered : IsInOrder (graph_of n)
  pub addresses_are : n.at.items ≡ addresses (graph_of n)
  pub sources : HasPredecessors (graph_of n) (count_of (graph_of n)) (rows n.before.items)
  pub pairs : ArePairs (rows n.before.items) n.pairs.items
  pub starts : AreFlags (graph_of n) (Contains (graph_of n).starts) n.starts.items
  pub from_starts : AreFromStarts (graph_of n)

-- the word at one of these places
pub record IsAmong (G : Graph) (places : List ℕ) (x : ℕ) : Type 0 where
  pub place : ℕ
  pub among : Contains places place
  pub is : at G place ≡ x

-- the places of the words of a set
pub record AreAt (G : Graph) (P : ℕ → Type 0) (found : List ℕ) : Type 0 where
  pub each : (i : ℕ) → Contains found i → (i < count_of G) × P (at G i)
  pub every : (x : ℕ) → P x → IsAmong G found x

-- those places, at most 256
abbrev pub AreFewAt : Graph → (ℕ → Type 0) → List ℕ → Type 0
AreFewAt G P found = (length found ≤ 256) × AreAt G P found

-- those places, or that the set has more members
abbrev pub HasFew : Bool → Graph → (ℕ → Type 0) → List ℕ → Type 0
HasFew small G P found = MatchBool small (AreFewAt G P found) (¬ HasAtMost 256 P)

-- the same of the words of a loop's body
abbrev pub HasBody : Bool → Graph → ℕ → List ℕ → Type 0
HasBody small G h found = HasFew small G (InBody G h) found

-- the same of the words that the edge from one place to another closes into a loop
abbrev pub IsPart : Graph → ℕ → ℕ → List ℕ → Type 0
IsPart G header source found = AreFewAt G (InPart G (at G header) (at G source)) found

abbrev pub HasPart : Bool → Graph → ℕ → ℕ → List ℕ → Type 0
HasPart small G header source found = HasFew small G (InPart G (at G header) (at G source)) found

-- of these places only one is that of a start word
pub record IsOnlyEntry (starts : List Bool) (found : List ℕ) (header : ℕ) : Type 0 where
  pub same : (i : ℕ) → Contains found i → slice_index_or starts i false ≡ true → i ≡ header

-- those of the places xs from which closed edges lead to the word at a place
pub record AreClosedOf (G : Graph) (header : ℕ) (xs places : List ℕ) : Type 0 where
  pub each : (i : ℕ) → Contains places i → Contains xs i × IsClosed G (at G header) (at G i)
  pub every : (i : ℕ) → Contains xs i → IsClosed G (at G header) (at G i) → Contains places i

-- a place more, where a closed edge leads from its word
pub record HasTriedEdge (G : Graph) (header source : ℕ) (old new : List ℕ) : Type 0 where
  pub each : (i : ℕ) → Contains new i → Contains old i ⊎ ((i ≡ source) × IsClosed G (at G header) (at G i))
  pub kept : (i : ℕ) → Contains old i → Contains new i
  pub every : IsClosed G (at G header) (at G source) → Contains new source

-- the words that the edges from these places close into a loop
pub record IsPartOf (G : Graph) (header : ℕ) (sources : List ℕ) (x : ℕ) : Type 0 where
  pub source : ℕ
  pub among : Contains sources source
  pub part : InPart G (at G header) (at G source) x

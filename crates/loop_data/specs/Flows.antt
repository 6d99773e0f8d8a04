-- The words of a loop by their places in its body, and the edges between them that close no loop.
use Rattle.std.specs.Prelude.{ℕ, ◌≡◌, ◌≢◌, ◌<◌, ◌⊎◌, ◌↔◌, ◌+◌, ◌==◌, ◌&&◌, Bool, true, false, if◌then◌else◌, List, [], ◌∷◌, length, map, slice_index, slice_index_or}
use Rattle.std.specs.List.{Contains}
use Rattle.std.specs.declared.vec.Vec.{Vec}
use Rattle.std.specs.declared.alloc.Global.{Global}
use Rattle.loop_data.specs.declared.graph.Graph.{Graph}
use Rattle.loop_data.specs.declared.shape.Level.{Level}
use Rattle.loop_data.specs.declared.flow.Flow.{Flow}
use Rattle.loop_data.specs.Nests.{has}
use Rattle.loop_data.specs.Paths.{Leads}
use Rattle.loop_data.specs.Locations.{CellMap}
use Rattle.loop_data.specs.LoopCode.{instr_among}

-- the list that a vector holds, and the lists that vectors hold
abbrev pub items_of : Vec ℕ Global → List ℕ
items_of v = v.items

abbrev pub rows : List (Vec ℕ Global) → List (List ℕ)
rows vs = map items_of vs

abbrev pub row_at : List (List ℕ) → ℕ → List ℕ
row_at rows i = slice_index_or rows i []

-- the address at a place
abbrev pub at : List ℕ → ℕ → ℕ
at body i = slice_index body i

-- the edge closes one of the loops
abbrev pub closes_one : List Level → ℕ → ℕ → Bool
closes_one [] u v = false
closes_one (l ∷ ls) u v = if (l.header == v) && has l.body u then true else closes_one ls u v

-- a step edge leads from one word to the other, and closes none of the loops
pub record IsOpenEdge (G : Graph) (levels : List Level) (u v : ℕ) : Type 0 where
  pub leads : Leads G u v
  pub stays_open : closes_one levels u v ≡ false

-- the new rows are the old ones with a number more in the rows of some addresses
pub record Added (body : List ℕ) (from : ℕ) (P : ℕ → Type 0) (old new : List (List ℕ)) : Type 0 where
  pub count : length new ≡ length old
  pub kept : (j k : ℕ) → Contains (row_at old j) k → Contains (row_at new j) k
  pub each : (j k : ℕ) → Contains (row_at new j) k
      → Contains (row_at old j) k ⊎ ((k ≡ from) × (j < length body) × P (at body j))
  pub every : (j : ℕ) → j < length body → P (at body j) → Contains (row_at new j) from

-- each row has the places below i of the words from which such an edge leads to the word at its place
pub record HasSources (G : Graph) (levels : List Level) (body : List ℕ) (i : ℕ) (rows : List (List ℕ))
    : Type 0 where
  pub count : length rows ≡ length body
  pub each : (j k : ℕ) → Contains (row_at rows j) k
      → (k < i) × (j < length body) × IsOpenEdge G levels (at body k) (at body j)
  pub every : (j k : ℕ) → k < i → j < length body → IsOpenEdge G levels (at body k) (at body j)
      → Contains (row_at rows j) k

-- places in an order: each once, and after those in its row
pub record IsOrder (rows : List (List ℕ)) (places : List ℕ) : Type 0 where
  pub within : (i : ℕ) → i < length places → slice_index places i < length rows
  pub after : (i k : ℕ) → i < length places → Contains (row_at rows (slice_index places i)) k
      → (j : ℕ) × (j < i) × (slice_index places j ≡ k)
  pub once : (i j : ℕ) → i < j → j < length places → slice_index places i ≢ slice_index places j

-- all places are in it
pub record IsWholeOrder (rows : List (List ℕ)) (places : List ℕ) : Type 0 where
  pub order : IsOrder rows places
  pub every : (p : ℕ) → p < length rows → Contains places p

-- the numbers of a row stand lower than its place
pub record IsRowRank (rows : List (List ℕ)) (rank : ℕ → ℕ) : Type 0 where
  pub up : (j k : ℕ) → Contains (row_at rows j) k → (k < length rows) × (rank k < rank j)
  pub below : (j : ℕ) → j < length rows → rank j < length rows

pub record HasRowRank (rows : List (List ℕ)) : Type 0 where
  pub rank : ℕ → ℕ
  pub is : IsRowRank rows rank

-- the numbers of rows are places
abbrev pub AreRowsWithin : List (List ℕ) → Type 0
AreRowsWithin rows = (j k : ℕ) → Contains (row_at rows j) k → k < length rows

-- the flag of a place is set
abbrev pub IsSet : List Bool → ℕ → Type 0
IsSet flags p = slice_index_or flags p false ≡ true

-- flags tell which places are in the order
pub record IsMarked (rows : List (List ℕ)) (flags : List Bool) (places : List ℕ) : Type 0 where
  pub count : length flags ≡ length rows
  pub each : (p : ℕ) → p < length rows → IsSet flags p ↔ Contains places p
  pub order : IsOrder rows places

-- what a visit of place p makes of the flags; it tells whether that place is in the order then
pub record IsVisit (rows : List (List ℕ)) (p : ℕ) (old new : List Bool) (whole : Bool) : Type 0 where
  pub kept : (q : ℕ) → IsSet old q → IsSet new q
  pub here : whole ≡ true → IsSet new p
  pub ready : ((k : ℕ) → Contains (row_at rows p) k → IsSet old k) → IsSet new p

-- the places of lower rank are in the order
abbrev pub AreSetBelow : List (List ℕ) → (ℕ → ℕ) → ℕ → List Bool → Type 0
AreSetBelow rows rank n flags = (q : ℕ) → q < length rows → rank q < n → IsSet flags q

-- what a visit of each place below p makes of them
pub record IsSweep (rows : List (List ℕ)) (p : ℕ) (old new : List Bool) (whole : Bool) : Type 0 where
  pub kept : (q : ℕ) → IsSet old q → IsSet new q
  pub all : whole ≡ true → (q : ℕ) → q < p → IsSet new q
  pub ready : (rank : ℕ → ℕ) (n q : ℕ) → IsRowRank rows rank → AreSetBelow rows rank n old → q < p
      → rank q < n + 1 → IsSet new q

-- the words of a body, the cells that they access, their edges and an order along these
pub record IsFlow (G : Graph) (C : CellMap) (levels : List Level) (body : List ℕ) (f : Flow) : Type 0 where
  pub instrs : f.instrs.items ≡ map (instr_among G.words) body
  pub uses : f.uses.items ≡ map C.uses body
  pub sources : HasSources G levels body (length body) (rows f.sources.items)
  pub order : IsWholeOrder (rows f.sources.items) f.order.items

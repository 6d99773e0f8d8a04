-- The words of a loop, by places.
use Rattle.std.specs.Prelude.{ℕ, ◌≡◌, ◌<◌, ◌≤◌, IsTrue, Option, Some, List, length}
use Rattle.std.specs.List.{Contains}
use Rattle.strong_components.specs.Graph.{IsEdge}
use Rattle.strong_components.specs.declared.graph.Successors.{Successors}
use Rattle.loop_data.specs.declared.graph.Graph.{Graph}
use Rattle.loop_data.specs.Bodies.{InBody}
use Rattle.loop_data.specs.Shape.{LeavesBy, HasOwnShape}
use Rattle.loop_shapes.specs.declared.loop_body.LoopBody.{LoopBody}
use Rattle.loop_shapes.specs.Net.{AreAt}
use Rattle.loop_shapes.specs.Outer.{IsAcyclic}
use Rattle.loop_shapes.specs.Places.{at, count_of}
use Rattle.loop_shapes.specs.Program.{IsProgram, program_graph}
use Rattle.loop_shapes.specs.Search.{IsIndexed}

-- the graph of the loop's program
abbrev pub body_graph : LoopBody → Graph
body_graph b = program_graph b.program.now

-- the address of the loop's header
abbrev pub header_of : LoopBody → ℕ
header_of b = at (body_graph b) b.header

-- the places are those of a loop's words, at most 256
pub record IsLoopBody (b : LoopBody) : Type 0 where
  pub program : IsProgram b.program.now
  pub header : b.header < count_of (body_graph b)
  pub words : AreAt (body_graph b) (InBody (body_graph b) (header_of b)) b.places.now
  pub short : length b.places.now ≤ 256
  pub indexed : IsIndexed b.places.now b.slots.now
  pub count : length b.slots.now ≡ count_of (body_graph b)
  pub known : IsTrue b.acyclic → IsAcyclic (body_graph b) (header_of b)

-- a step, if there is one, leads to one of these places
pub record LeadsIn (places : List ℕ) (target : Option ℕ) : Type 0 where
  pub to : ℕ
  pub is : target ≡ Some to
  pub among : Contains places to

-- or to another
pub record LeadsOut (places : List ℕ) (target : Option ℕ) : Type 0 where
  pub to : ℕ
  pub is : target ≡ Some to
  pub absent : ¬ Contains places to

-- an edge from x leaves the loop at h
pub record IsLeftFrom (G : Graph) (h x : ℕ) : Type 0 where
  pub to : ℕ
  pub leaves : LeavesBy G h x to

-- edges leave the loop at h from x, and from no other word
pub record IsLeftOnlyFrom (G : Graph) (h x : ℕ) : Type 0 where
  pub left : IsLeftFrom G h x
  pub only : (y : ℕ) → IsLeftFrom G h y → y ≡ x

-- a step, if there is one, leads to one of these places that is not gone
pub record LeadsOn (places gone : List ℕ) (target : Option ℕ) : Type 0 where
  pub to : ℕ
  pub is : target ≡ Some to
  pub among : Contains places to
  pub left : ¬ Contains gone to

-- an edge leads from a place to one of the places that is not gone
pub record LeadsOnFrom (nodes : List Successors) (places gone : List ℕ) (place : ℕ) : Type 0 where
  pub to : ℕ
  pub edge : IsEdge nodes place to
  pub among : Contains places to
  pub left : ¬ Contains gone to

-- the places of the back edge's source and of the exit branch of a loop that has the shape, whatever its
-- inner loops have
pub record HasOwnShapeAt (G : Graph) (h : ℕ) (s : ℕ × ℕ) : Type 0 where
  pub back : s.0 < count_of G
  pub exit : s.1 < count_of G
  pub shape : HasOwnShape G h (at G s.0) (at G s.1)

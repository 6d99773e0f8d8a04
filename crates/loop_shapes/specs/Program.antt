-- A program with its closed edges and the loops round its words.
use Rattle.loop_data.specs.declared.graph.Graph.{Graph}
use Rattle.loop_shapes.specs.declared.program.Program.{Program}
use Rattle.loop_shapes.specs.Net.{IsNet, graph_of}
use Rattle.loop_shapes.specs.Around.{AreAround}
use Rattle.loop_shapes.specs.Numbers.{AreNodes}
use Rattle.loop_shapes.specs.Open.{AreOpen}
use Rattle.loop_shapes.specs.Astray.{LeadsAstray}
use Rattle.loop_shapes.specs.Places.{AreFlags}
use Rattle.loop_shapes.specs.Lines.{AreRowsOf}
use Rattle.loop_data.specs.Bodies.{IsClosed}
use Rattle.loop_data.specs.Flows.{rows}

-- the graph of the program
abbrev pub program_graph : Program → Graph
program_graph p = graph_of p.net

-- the program has what is true of its graph
pub record IsProgram (p : Program) : Type 0 where
  pub net : IsNet p.net
  pub closed : AreRowsOf (program_graph p) (IsClosed (program_graph p)) (rows p.closed.items)
  pub around : AreAround (program_graph p) p.around
  pub next : AreNodes (program_graph p) p.next.items
  pub open_edges : AreOpen (program_graph p) p.open_next.items
  pub astray : AreFlags (program_graph p) (LeadsAstray (program_graph p)) p.astray.items

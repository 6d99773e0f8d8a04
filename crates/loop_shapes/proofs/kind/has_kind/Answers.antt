use Rattle.loop_shapes.specs.Net.{graph_of}
use Rattle.loop_shapes.proofs.Classes.{kind_says, no_kind}
use Rattle.loop_shapes.proofs.kind.has_kind.Goals as goal

pub returns-in-Some : goal.returns-in-Some
returns-in-Some c = kind_says (graph_of c.args.net.now) c.requires.ordered c.args.x c.args.kind c.in-Some.class c.pairing.result c.does.result c.in-Some.ensures.found c.pairing.ensures c.does.ensures

pub returns-in-None : goal.returns-in-None
returns-in-None c = no_kind (graph_of c.args.net.now) c.requires.ordered c.args.x c.args.kind c.in-None.ensures.none

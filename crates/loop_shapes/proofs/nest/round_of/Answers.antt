use Rattle.std.proofs.Common.{◌≡◌, ◌≢◌, ℕ, List, [], sym, subst}
use Rattle.loop_data.specs.declared.graph.Graph.{Graph}
use Rattle.loop_data.specs.Bodies.{InBody}
use Rattle.loop_shapes.specs.Gains.{Gained}
use Rattle.loop_shapes.specs.Program.{program_graph}
use Rattle.loop_shapes.proofs.Gains.{Among, gained_none, gained_more}
use Rattle.loop_shapes.proofs.Nests.{chosen_round}
use Rattle.loop_shapes.proofs.nest.round_of.Goals as goal

abbrev Chosen : Graph → ℕ → ℕ → ℕ → Type 0
Chosen G x k z = (z ≡ k) × ((k ≢ x) × InBody G k x)

pub loop-round-init : goal.loop-round-init
loop-round-init c = subst (λ (zs : List ℕ). Gained (Among (Chosen (program_graph c.args.program.now) c.args.x) []) [] zs) (sym c.new-all.ensures.items) (gained_none (Chosen (program_graph c.args.program.now) c.args.x) [])

pub loop-round-preserved : goal.loop-round-preserved
loop-round-preserved c = gained_more (Chosen (program_graph c.args.program.now) c.args.x) c.args.nest.now c.loop-round.round-index [] c.loop-round.all.items c.add_round.new.all.items c.loop-round-test.true c.loop-round.invariant c.in_ok-add_round.ensures

pub returns : goal.returns
returns c h is = chosen_round (program_graph c.args.program.now) h c.args.x c.args.nest.now c.loop-round.round-index c.loop-round.all.items c.in_order.result.items c.loop-round-test.false is c.loop-round.invariant c.in_order.ensures

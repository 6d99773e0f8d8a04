use Rattle.std.proofs.Common.{◌≡◌, subst, length, ℕ, arith}
use Rattle.loop_data.specs.Flows.{rows, HasSources}
use Rattle.loop_data.proofs.flow.sources_of.Goals as goal

pub returns : goal.returns
returns c =
    let last : c.loop-from.from ≡ length c.args.body.now = omega arith in
    subst (λ (n : ℕ). HasSources c.args.graph.now c.args.levels.now c.args.body.now n (rows c.loop-from.sources.items)) last c.loop-from.invariant

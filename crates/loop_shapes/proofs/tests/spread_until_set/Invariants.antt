use Rattle.loop_shapes.specs.StartFlags.{AreFlagsFromStarts}
use Rattle.loop_shapes.proofs.tests.spread_until_set.Given as goal

abbrev pub invariant-loop : goal.invariant-loop
invariant-loop l = AreFlagsFromStarts l.graph l.flags

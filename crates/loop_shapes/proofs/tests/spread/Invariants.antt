use Rattle.loop_shapes.specs.StartFlags.{AreFlagsFromStarts}
use Rattle.loop_shapes.proofs.tests.spread.Given as goal

abbrev pub invariant-loop-y : goal.invariant-loop-y
invariant-loop-y l = AreFlagsFromStarts l.graph l.flags

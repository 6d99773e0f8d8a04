use Rattle.loop_shapes.specs.StartFlags.{AreFlagsFromStarts}
use Rattle.loop_shapes.proofs.tests.spread_all.Given as goal

abbrev pub invariant-loop-place : goal.invariant-loop-place
invariant-loop-place l = AreFlagsFromStarts l.graph l.flags

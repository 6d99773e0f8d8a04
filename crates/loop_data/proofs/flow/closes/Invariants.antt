use Rattle.std.proofs.Common.{◌≡◌, drop}
use Rattle.loop_data.specs.Flows.{closes_one}
use Rattle.loop_data.proofs.flow.closes.Given as goal

abbrev pub invariant-loop-l : goal.invariant-loop-l
invariant-loop-l l = closes_one (drop l.l-index l.levels) l.u l.v ≡ closes_one l.levels l.u l.v

use Rattle.std.proofs.Common.{◌≡◌, false, replicate}
use Rattle.loop_data.proofs.flow.unset_flags.Given as goal

abbrev pub invariant-loop : goal.invariant-loop
invariant-loop l = l.all.items ≡ replicate l.counter false

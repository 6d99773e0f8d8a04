use Rattle.std.proofs.Common.{◌≡◌, [], replicate}
use Rattle.loop_data.specs.Flows.{rows}
use Rattle.loop_data.proofs.flow.empty_rows.Given as goal

abbrev pub invariant-loop : goal.invariant-loop
invariant-loop l = rows l.all.items ≡ replicate l.counter []

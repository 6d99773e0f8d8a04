use Rattle.std.proofs.Common.{◌≡◌, drop}
use Rattle.loop_data.specs.Lookups.{form_at}
use Rattle.loop_data.proofs.lookups.form_at.Given as goal

abbrev pub invariant-loop-k : goal.invariant-loop-k
invariant-loop-k l = form_at (drop l.k l.points) l.at l.r ≡ form_at l.points l.at l.r

use Rattle.std.proofs.Common.{◌≡◌, drop}
use Rattle.hart_core.specs.Rows.{all_idle}
use Rattle.hart_core.proofs.rows.are_idle.Given as goal

abbrev pub invariant-loop-i : goal.invariant-loop-i
invariant-loop-i l = all_idle (drop l.i l.seats) ≡ all_idle (drop l.from l.seats)

use Rattle.std.proofs.Common.{◌≡◌, ◌∷◌, ◌-◌, replicate}
use Rattle.hart_core.specs.Start.{idle_hart}
use Rattle.hart_core.proofs.harts.seats_of.Given as goal

abbrev pub invariant-loop-i : goal.invariant-loop-i
invariant-loop-i l = l.seats.items ≡ l.fn.first ∷ replicate (l.i - 1) idle_hart

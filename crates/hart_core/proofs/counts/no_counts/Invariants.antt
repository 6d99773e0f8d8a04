use Rattle.std.proofs.Common.{◌≡◌, ◌++◌, drop, map}
use Rattle.hart_core.specs.Start.{no_count}
use Rattle.hart_core.proofs.counts.no_counts.Given as goal

abbrev pub invariant-loop-e : goal.invariant-loop-e
invariant-loop-e l = l.counts.items ++ map no_count (drop l.e-index l.entries) ≡ map no_count l.entries

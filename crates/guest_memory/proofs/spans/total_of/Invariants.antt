use Rattle.std.proofs.Common.{◌≡◌, ◌+◌, length, drop}
use Rattle.guest_memory.specs.Spans.{all_bytes}
use Rattle.guest_memory.proofs.spans.total_of.Given as goal

abbrev pub invariant-loop-area : goal.invariant-loop-area
invariant-loop-area l = l.total + length (all_bytes (drop l.area-index l.areas)) ≡ length (all_bytes l.areas)

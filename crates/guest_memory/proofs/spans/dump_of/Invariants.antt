use Rattle.std.proofs.Common.{◌≡◌, ◌++◌, drop}
use Rattle.guest_memory.specs.Spans.{all_bytes}
use Rattle.guest_memory.proofs.spans.dump_of.Given as goal

abbrev pub invariant-loop-area : goal.invariant-loop-area
invariant-loop-area l = l.bytes.items ++ all_bytes (drop l.area-index l.areas) ≡ all_bytes l.areas

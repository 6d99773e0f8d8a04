use Rattle.std.proofs.Common.{◌≡◌, ◌+◌}
use Rattle.guest_memory.specs.Access.{permission_of}
use Rattle.guest_memory.specs.Spans.{all_permitted}
use Rattle.guest_memory.proofs.spans.allows_all.Given as goal

abbrev pub invariant-loop-left : goal.invariant-loop-left
invariant-loop-left l = record {
  same : all_permitted (permission_of l.access) l.left l.areas l.at ≡ all_permitted (permission_of l.access) l.len l.areas l.addr;
  place : l.at + l.left ≡ l.addr + l.len;
}

abbrev pub decreases-loop-left : goal.decreases-loop-left
decreases-loop-left l = l.left

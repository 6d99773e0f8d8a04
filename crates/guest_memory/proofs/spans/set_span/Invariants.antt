use Rattle.std.proofs.Common.{◌≡◌, length, true}
use Rattle.rv64_decode.specs.Area.{writable_of}
use Rattle.guest_memory.specs.Layout.{AreasLieFrom}
use Rattle.guest_memory.specs.Spans.{all_permitted, with_bytes_at}
use Rattle.guest_memory.proofs.spans.set_span.Given as goal

abbrev pub invariant-loop-rest : goal.invariant-loop-rest
invariant-loop-rest l =
    record {
      lie : AreasLieFrom 0 l.areas;
      writable : all_permitted writable_of (length l.rest) l.areas l.at ≡ true;
      bytes : with_bytes_at l.areas l.at l.rest ≡ with_bytes_at l.initial.areas l.addr l.bytes;
    }

abbrev pub decreases-loop-rest : goal.decreases-loop-rest
decreases-loop-rest l = length l.rest

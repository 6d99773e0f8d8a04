use Rattle.std.proofs.Common.{arith}
use Rattle.rv64_decode.specs.Area.{writable_of}
use Rattle.guest_calls.proofs.Spans.{permitted_taken}
use Rattle.guest_calls.proofs.calls.read_some.Goals as goal

pub set_bytes-requires : goal.set_bytes-requires
set_bytes-requires g c =
    permitted_taken writable_of _ _ _ c.args.mem.now c.args.addr c.requires.writable (omega (arith, c.in-Ok.ensures.count))

pub returns-clause-at_end : goal.returns-clause-at_end
returns-clause-at_end g c = λ xs h e. (c.in-Ok.ensures.moved xs h).at_end e (omega arith)

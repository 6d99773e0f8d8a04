use Rattle.std.proofs.Common.{◌≡◌, ◌==◌, ◌||◌, true, sym, ◌∙◌, arith}
use Rattle.std.proofs.lemmas.Bool.Decides.{nat_tests}
use Rattle.rv64_decode.specs.Area.{readable_of}
use Rattle.guest_memory.specs.Spans.{all_permitted}
use Rattle.guest_calls.proofs.Spans.{take_bytes_at}
use Rattle.guest_calls.proofs.Table.{sent_bytes}
use Rattle.guest_calls.proofs.calls.write.Goals as goal
use Rattle.guest_calls.proofs.calls.write.Goals.{else-fd-ne1-via-then-fd-ne1+else-fd-ne2, else-fd-ne1-via-else-fd-ne1}

pub returns-in-Err-clause-prefix : goal.returns-in-Err-clause-prefix
returns-in-Err-clause-prefix g c = λ ys h.
    let p = c.in-Err.ensures.prefix ys h in
    let output : (c.args.fd == 1 || c.args.fd == 2) ≡ true =
    elim c.else-fd-ne1.branch [
      | else-fd-ne1-via-then-fd-ne1+else-fd-ne2 w ↦ grind (arith, nat_tests)
      | else-fd-ne1-via-else-fd-ne1 w ↦ grind (arith, nat_tests)
    ] in
    let open_to : all_permitted readable_of c.args.len c.args.mem.now c.args.addr ≡ true = sym c.can_read.ensures.value ∙ c.if-not-can_read.false in
    let sent = sent_bytes c.args.fd c.args.addr c.args.len c.args.mem.now output open_to in
    record { count = p.0; are = rw (sent, take_bytes_at p.0 c.args.len c.args.mem.now c.args.addr p.1) p.2 }

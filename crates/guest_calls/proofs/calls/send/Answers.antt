use Rattle.std.proofs.Common.{◌≡◌, ℕ, ◌+◌, ◌-◌, ◌++◌, List, Some, ap, ◌∙◌, arith}
use Rattle.rv64_decode.specs.Area.{readable_of}
use Rattle.guest_memory.specs.Spans.{bytes_at}
use Rattle.guest_calls.proofs.Spans.{permitted_rest, bytes_at_more}
use Rattle.guest_calls.proofs.calls.send.Goals as goal

pub loop-done-preserved : goal.loop-done-preserved
loop-done-preserved g c =
    let count = c.in-Ok.ensures.count in
    let left : c.args.len - (c.loop-done.done + c.in-Ok.count) ≡ c.args.len - c.loop-done.done - c.in-Ok.count = omega arith in
    let place : c.args.addr + (c.loop-done.done + c.in-Ok.count) ≡ c.args.addr + c.loop-done.done + c.in-Ok.count = omega arith in
    let permitted = permitted_rest readable_of c.in-Ok.count (c.args.len - c.loop-done.done) c.args.mem.now (c.args.addr + c.loop-done.done) c.loop-done.invariant.readable (omega arith) in
    record {
      within = omega arith;
      readable = rw (left, place) permitted;
      sent = λ ys h.
          c.in-Ok.ensures.appended (ys ++ bytes_at c.loop-done.done c.args.mem.now c.args.addr) (c.loop-done.invariant.sent ys h)
          ∙ ap (λ (bytes : List ℕ). Some bytes) (bytes_at_more c.loop-done.done c.in-Ok.count c.args.mem.now c.args.addr ys);
      faults = omega (arith, c.in-Ok.ensures.never_falls);
    }

pub returns-in-Err-clause-prefix : goal.returns-in-Err-clause-prefix
returns-in-Err-clause-prefix g c = λ ys h.
    let p = c.in-Err.ensures.prefix (ys ++ bytes_at c.loop-done.done c.args.mem.now c.args.addr) (c.loop-done.invariant.sent ys h) in (
      c.loop-done.done + p.0,
      omega (arith, p.1),
      p.2 ∙ ap (λ (bytes : List ℕ). Some bytes) (bytes_at_more c.loop-done.done p.0 c.args.mem.now c.args.addr ys),
    )

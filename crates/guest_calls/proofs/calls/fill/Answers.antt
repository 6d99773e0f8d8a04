use Rattle.std.proofs.Common.{◌≡◌, ℕ, ◌+◌, ◌-◌, List, take, drop, Some, ap, sym, ◌∙◌, arith}
use Rattle.std.proofs.lemmas.List.{length-take, length-drop, drop-drop, append-nil}
use Rattle.rv64_decode.specs.Area.{writable_of}
use Rattle.guest_memory.specs.Spans.{with_bytes_at}
use Rattle.guest_calls.proofs.Spans.{permitted_fewer, permitted_rest, short_drop, taken_all, at_end_rest}
use Rattle.guest_calls.proofs.Stored.{stored_none, stored_more, stored_told, stored_part, stored_areas}
use Rattle.guest_calls.proofs.calls.fill.Goals as goal

pub read_some-requires-clause-writable : goal.read_some-requires-clause-writable
read_some-requires-clause-writable g c =
    let t = length-take c.min-most.result c.loop-done.buffer in
    permitted_fewer writable_of _ (c.args.len - c.loop-done.done) c.loop-done.mem (c.args.addr + c.loop-done.done) c.loop-done.invariant.writable (omega arith)

pub returns-then-count-eq0-clause-count : goal.returns-then-count-eq0-clause-count
returns-then-count-eq0-clause-count g c = λ xs h.
    let none = c.in-Ok.ensures.at_end (drop c.loop-done.done xs) (c.loop-done.invariant.rest xs h) c.if-count-eq0.true in
    let short = short_drop c.loop-done.done xs none in
    let had = c.loop-done.invariant.had xs h in
    let t = length-take c.args.len xs in
    omega arith

pub returns-then-count-eq0-clause-memory : goal.returns-then-count-eq0-clause-memory
returns-then-count-eq0-clause-memory g c = λ xs h.
    let rest = c.loop-done.invariant.rest xs h in
    let none = c.in-Ok.ensures.at_end (drop c.loop-done.done xs) rest c.if-count-eq0.true in
    let all = taken_all c.loop-done.done c.args.len xs (short_drop c.loop-done.done xs none) c.loop-done.invariant.within in
    let more = stored_more _ _ _ _ _ _ _ _ c.loop-done.invariant.stored c.loop-done.invariant.rest c.in-Ok.ensures.stored in
    let one : c.loop-done.done + c.in-Ok.count ≡ c.loop-done.done = omega arith in
    let stored = rw one at more in
    stored_told _ _ _ _ _ xs stored h
    ∙ ap (λ (bytes : List ℕ). with_bytes_at c.args.mem.now c.args.addr bytes) (sym (append-nil (take c.loop-done.done xs)) ∙ all)

pub returns-then-count-eq0-clause-rest : goal.returns-then-count-eq0-clause-rest
returns-then-count-eq0-clause-rest g c = λ xs h.
    let rest = c.loop-done.invariant.rest xs h in
    let none = c.in-Ok.ensures.at_end (drop c.loop-done.done xs) rest c.if-count-eq0.true in
    let moved = rw c.if-count-eq0.true at (c.in-Ok.ensures.rest (drop c.loop-done.done xs) rest) in
    moved ∙ ap (λ (ys : List ℕ). Some ys) (at_end_rest c.loop-done.done c.args.len xs none c.loop-done.invariant.within)

pub returns-in-Err-clause-buffer : goal.returns-in-Err-clause-buffer
returns-in-Err-clause-buffer g c =
    rw c.in-Err.ensures.stays (stored_part _ _ _ _ _ _ c.loop-done.invariant.stored c.loop-done.invariant.within c.requires.writable)

pub loop-done-init : goal.loop-done-init
loop-done-init g c =
    let none : c.args.len - 0 ≡ c.args.len = omega arith in
    let place : c.args.addr + 0 ≡ c.args.addr = omega arith in
    record {
      within = omega arith;
      writable = rw (none, place) c.requires.writable;
      had = λ xs h. omega arith;
      rest = λ xs h. h;
      stored = stored_none _ _ _;
      faults = omega arith;
    }

pub loop-done-preserved : goal.loop-done-preserved
loop-done-preserved g c =
    let t = length-take c.min-most.result c.loop-done.buffer in
    let count = c.in-Ok.ensures.count in
    let left : c.args.len - (c.loop-done.done + c.in-Ok.count) ≡ c.args.len - c.loop-done.done - c.in-Ok.count = omega arith in
    let place : c.args.addr + (c.loop-done.done + c.in-Ok.count) ≡ c.args.addr + c.loop-done.done + c.in-Ok.count = omega arith in
    let permitted = permitted_rest writable_of c.in-Ok.count (c.args.len - c.loop-done.done) c.loop-done.mem (c.args.addr + c.loop-done.done) c.loop-done.invariant.writable (omega arith) in
    record {
      within = omega arith;
      writable = rw (left, place) (c.in-Ok.ensures.writable (c.args.len - c.loop-done.done - c.in-Ok.count) (c.args.addr + c.loop-done.done + c.in-Ok.count) ∙ permitted);
      had = λ xs h.
          let m = c.in-Ok.ensures.moved (drop c.loop-done.done xs) (c.loop-done.invariant.rest xs h) in
          let d = length-drop c.loop-done.done xs in
          let had = c.loop-done.invariant.had xs h in
          omega arith;
      rest = λ xs h.
          c.in-Ok.ensures.rest (drop c.loop-done.done xs) (c.loop-done.invariant.rest xs h)
          ∙ ap (λ (ys : List ℕ). Some ys) (drop-drop c.in-Ok.count c.loop-done.done xs);
      stored = stored_more _ _ _ _ _ _ _ _ c.loop-done.invariant.stored c.loop-done.invariant.rest c.in-Ok.ensures.stored;
      faults = omega (arith, c.in-Ok.ensures.never_falls);
    }

pub returns-clause-memory : goal.returns-clause-memory
returns-clause-memory g c = λ xs h.
    let all : c.loop-done.done ≡ c.args.len = omega arith in
    stored_told _ _ _ _ _ xs c.loop-done.invariant.stored h
    ∙ ap (λ (k : ℕ). with_bytes_at c.args.mem.now c.args.addr (take k xs)) all

pub returns-then-count-eq0-clause-areas : goal.returns-then-count-eq0-clause-areas
returns-then-count-eq0-clause-areas g c =
    let more = stored_more _ _ _ _ _ _ _ _ c.loop-done.invariant.stored c.loop-done.invariant.rest c.in-Ok.ensures.stored in
    let within = c.loop-done.invariant.within in
    stored_areas _ _ _ _ c.args.len _ more (omega (arith, c.if-count-eq0.true)) c.requires.writable

pub returns-in-Err-clause-areas : goal.returns-in-Err-clause-areas
returns-in-Err-clause-areas g c =
    rw c.in-Err.ensures.stays (stored_areas _ _ _ _ _ _ c.loop-done.invariant.stored c.loop-done.invariant.within c.requires.writable)

pub returns-clause-areas : goal.returns-clause-areas
returns-clause-areas g c = stored_areas _ _ _ _ _ _ c.loop-done.invariant.stored c.loop-done.invariant.within c.requires.writable

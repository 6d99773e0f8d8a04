use Rattle.std.proofs.Common.{◌≡◌, ◌+◌, ◌-◌, ◌≤◌, true, false, ap, sym, ◌∙◌, refl, arith}
use Rattle.std.proofs.lemmas.List.{get_or_read}
use Rattle.guest_memory.specs.Access.{permission_of}
use Rattle.guest_memory.specs.Layout.{end_of, nth_area, no_area}
use Rattle.guest_memory.proofs.Areas.{inside_holds}
use Rattle.guest_memory.proofs.Bytes.{permits-nth, all_permitted-within, all_permitted-stops}
use Rattle.guest_memory.proofs.spans.allows_all.Goals as goal

pub returns-then-not-allows-clause-value : goal.returns-then-not-allows-clause-value
returns-then-not-allows-clause-value c =
    let m = c.args.areas.now in
    let i = c.in-Some.i in
    let x = c.loop-left.at in
    let p = permission_of c.args.access in
    let found = c.in-Some.ensures.found in
    let here : c.index-areas-i.result ≡ nth_area m i = get_or_read m i _ found.0 c.index-areas-i.is no_area in
    let inside = inside_holds (nth_area m i) x found.1 in
    let closed : p (nth_area m i) ≡ false = ap p (sym here) ∙ sym c.allows.ensures ∙ c.if-not-allows.true in
    let stops = all_permitted-stops p m c.loop-left.left x (omega arith) (permits-nth p m i x c.requires found.0 inside.0 inside.1 ∙ closed) in
    sym (sym c.loop-left.invariant.same ∙ stops)

pub loop-left-preserved : goal.loop-left-preserved
loop-left-preserved c =
    let m = c.args.areas.now in
    let i = c.in-Some.i in
    let x = c.loop-left.at in
    let n = c.min-here.result in
    let left = c.loop-left.left in
    let p = permission_of c.args.access in
    let found = c.in-Some.ensures.found in
    let here : c.index-areas-i.result ≡ nth_area m i = get_or_read m i _ found.0 c.index-areas-i.is no_area in
    let inside = inside_holds (nth_area m i) x found.1 in
    let free : p (nth_area m i) ≡ true = ap p (sym here) ∙ sym c.allows.ensures ∙ c.if-not-allows.false in
    let end : c.end.result ≡ end_of (nth_area m i) = c.end.ensures ∙ ap end_of here in
    let within : x + n ≤ end_of (nth_area m i) = omega arith in
    record {
      same = sym (all_permitted-within p m i n (left - n) left x (x + n) c.requires found.0 free inside.0 within (omega arith) refl) ∙ c.loop-left.invariant.same;
      place = omega arith;
    }

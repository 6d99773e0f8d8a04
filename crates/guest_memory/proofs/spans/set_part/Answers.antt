use Rattle.std.proofs.Common.{◌≡◌, ◌≤◌, length, take, get_or, set, ap, sym, ◌∙◌, arith}
use Rattle.std.proofs.lemmas.List.{get_or_default, length-take-le}
use Rattle.rv64_decode.specs.Area.{Area}
use Rattle.guest_memory.specs.Layout.{end_of, nth_area, no_area}
use Rattle.guest_memory.proofs.Areas.{inside_holds, aligned}
use Rattle.guest_memory.proofs.Bytes.{with_bytes_at-nth, area_with, area_with-lie}
use Rattle.guest_memory.proofs.spans.set_part.Goals as goal

pub returns-clause-end : goal.returns-clause-end
returns-clause-end c =
    let m = c.args.areas.now in
    let i = c.unwrap-i.result in
    let found = rw c.unwrap-i.ensures at c.find.ensures.found in
    let here : get_or m i c.index-areas-i.result ≡ nth_area m i = get_or_default m i c.index-areas-i.result no_area found.0 in
    let inside = inside_holds (nth_area m i) c.args.addr found.1 in
    let end : c.end.result ≡ end_of (nth_area m i) = c.end.ensures ∙ ap end_of here in
    let a = aligned 0 m i c.requires.lie found.0 in
    omega arith

pub returns-clause-bytes : goal.returns-clause-bytes
returns-clause-bytes c =
    let m = c.args.areas.now in
    let i = c.unwrap-i.result in
    let x = c.args.addr in
    let n = c.min-count.result in
    let bs = take n c.args.bytes.now in
    let found = rw c.unwrap-i.ensures at c.find.ensures.found in
    let here : get_or m i c.index-areas-i.result ≡ nth_area m i = get_or_default m i c.index-areas-i.result no_area found.0 in
    let there : get_or m i c.index-areas-i-2.result ≡ nth_area m i = get_or_default m i c.index-areas-i-2.result no_area found.0 in
    let inside = inside_holds (nth_area m i) x found.1 in
    let end : c.end.result ≡ end_of (nth_area m i) = c.end.ensures ∙ ap end_of here in
    let count : n ≤ length c.args.bytes.now = omega arith in
    let long = length-take-le n c.args.bytes.now count in
    let new : c.set_bytes.new.self ≡ area_with (nth_area m i) x bs = c.set_bytes.ensures ∙ ap (λ (v : Area). area_with v x bs) there in
    ap (λ (v : Area). set m i v) new ∙ sym (with_bytes_at-nth bs m i x c.requires.lie found.0 inside.0 (omega arith))

pub returns-clause-lie : goal.returns-clause-lie
returns-clause-lie c =
    let m = c.args.areas.now in
    let i = c.unwrap-i.result in
    let x = c.args.addr in
    let n = c.min-count.result in
    let bs = take n c.args.bytes.now in
    let found = rw c.unwrap-i.ensures at c.find.ensures.found in
    let here : get_or m i c.index-areas-i.result ≡ nth_area m i = get_or_default m i c.index-areas-i.result no_area found.0 in
    let there : get_or m i c.index-areas-i-2.result ≡ nth_area m i = get_or_default m i c.index-areas-i-2.result no_area found.0 in
    let inside = inside_holds (nth_area m i) x found.1 in
    let end : c.end.result ≡ end_of (nth_area m i) = c.end.ensures ∙ ap end_of here in
    let count : n ≤ length c.args.bytes.now = omega arith in
    let long = length-take-le n c.args.bytes.now count in
    let new : c.set_bytes.new.self ≡ area_with (nth_area m i) x bs = c.set_bytes.ensures ∙ ap (λ (v : Area). area_with v x bs) there in
    rw new (area_with-lie bs m i x c.requires.lie found.0 inside.0 (omega arith))

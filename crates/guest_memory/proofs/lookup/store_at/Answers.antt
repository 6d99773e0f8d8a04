use Rattle.std.proofs.Common.{◌≡◌, get_or, set, true, false, ap, sym, ◌∙◌}
use Rattle.std.proofs.lemmas.List.{get_or_default}
use Rattle.rv64_decode.specs.Area.{Area}
use Rattle.guest_memory.specs.Layout.{nth_area, no_area}
use Rattle.guest_memory.proofs.Areas.{store-denied, store-done, after-denied, after-done, stored-lie, stored_in}
use Rattle.guest_memory.proofs.lookup.store_at.Goals as goal

pub returns-then-not-is_writable-clause-answer : goal.returns-then-not-is_writable-clause-answer
returns-then-not-is_writable-clause-answer c =
    let m = c.args.areas.now in
    let i = c.args.i in
    let p = c.requires.place in
    let here : get_or m i c.index-areas-i.result ≡ nth_area m i = get_or_default m i c.index-areas-i.result no_area p.within in
    let told : (nth_area m i).writable ≡ false = ap (λ (v : Area). v.writable) (sym here) ∙ sym c.is_writable.ensures ∙ c.if-not-is_writable.true in
    sym (store-denied m i c.args.addr c.args.width c.requires.lie p told)

pub returns-then-not-is_writable-clause-after : goal.returns-then-not-is_writable-clause-after
returns-then-not-is_writable-clause-after c =
    let m = c.args.areas.now in
    let i = c.args.i in
    let p = c.requires.place in
    let here : get_or m i c.index-areas-i.result ≡ nth_area m i = get_or_default m i c.index-areas-i.result no_area p.within in
    let told : (nth_area m i).writable ≡ false = ap (λ (v : Area). v.writable) (sym here) ∙ sym c.is_writable.ensures ∙ c.if-not-is_writable.true in
    sym (after-denied m i c.args.addr c.args.width c.args.value c.requires.lie p told)

pub returns-clause-answer : goal.returns-clause-answer
returns-clause-answer c =
    let m = c.args.areas.now in
    let i = c.args.i in
    let p = c.requires.place in
    let here : get_or m i c.index-areas-i.result ≡ nth_area m i = get_or_default m i c.index-areas-i.result no_area p.within in
    let told : (nth_area m i).writable ≡ true = ap (λ (v : Area). v.writable) (sym here) ∙ sym c.is_writable.ensures ∙ c.if-not-is_writable.false in
    sym (store-done m i c.args.addr c.args.width c.requires.lie p told)

pub returns-clause-after : goal.returns-clause-after
returns-clause-after c =
    let m = c.args.areas.now in
    let i = c.args.i in
    let p = c.requires.place in
    let here : get_or m i c.index-areas-i.result ≡ nth_area m i = get_or_default m i c.index-areas-i.result no_area p.within in
    let told : (nth_area m i).writable ≡ true = ap (λ (v : Area). v.writable) (sym here) ∙ sym c.is_writable.ensures ∙ c.if-not-is_writable.false in
    let there : get_or m i c.index-areas-i-2.result ≡ nth_area m i = get_or_default m i c.index-areas-i-2.result no_area p.within in
    let new : c.set_number.new.self ≡ stored_in (nth_area m i) c.args.addr c.args.width c.args.value =
    c.set_number.ensures ∙ ap (λ (v : Area). stored_in v c.args.addr c.args.width c.args.value) there in
    ap (λ (v : Area). set m i v) new ∙ sym (after-done m i c.args.addr c.args.width c.args.value c.requires.lie p told)

pub returns-clause-lie : goal.returns-clause-lie
returns-clause-lie c =
    let m = c.args.areas.now in
    let i = c.args.i in
    let p = c.requires.place in
    let there : get_or m i c.index-areas-i-2.result ≡ nth_area m i = get_or_default m i c.index-areas-i-2.result no_area p.within in
    let new : c.set_number.new.self ≡ stored_in (nth_area m i) c.args.addr c.args.width c.args.value =
    c.set_number.ensures ∙ ap (λ (v : Area). stored_in v c.args.addr c.args.width c.args.value) there in
    rw new (stored-lie m i c.args.addr c.args.width c.args.value c.requires.lie p)

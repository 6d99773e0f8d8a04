use Rattle.std.proofs.Common.{◌≡◌, get_or, set, ap, sym, ◌∙◌}
use Rattle.std.proofs.lemmas.List.{get_or_default}
use Rattle.rv64_decode.specs.Area.{Area}
use Rattle.rv64_decode.specs.declared.memory.Width.TheVariants.{Eight}
use Rattle.guest_memory.specs.Layout.{nth_area, no_area}
use Rattle.guest_memory.proofs.Areas.{with_number-place, stored-lie, stored_in}
use Rattle.guest_memory.proofs.Words.{answered}
use Rattle.guest_memory.proofs.lookup.set_word_in.Goals as goal

pub unwrap-i-requires : goal.unwrap-i-requires
unwrap-i-requires c = answered c.args.areas.now c.args.addr c.place_of.result c.place_of.ensures.refused c.requires.there

pub returns-clause-after : goal.returns-clause-after
returns-clause-after c =
    let m = c.args.areas.now in
    let i = c.unwrap-i.result in
    let x = c.args.addr in
    let value = c.args.value in
    let p = rw c.unwrap-i.ensures at c.place_of.ensures.placed in
    let here : get_or m i c.index-areas-i.result ≡ nth_area m i = get_or_default m i c.index-areas-i.result no_area p.within in
    let new : c.set_number.new.self ≡ stored_in (nth_area m i) x Eight value = c.set_number.ensures ∙ ap (λ (v : Area). stored_in v x Eight value) here in
    ap (λ (v : Area). set m i v) new ∙ sym (with_number-place m i x Eight value c.requires.lie p)

pub returns-clause-lie : goal.returns-clause-lie
returns-clause-lie c =
    let m = c.args.areas.now in
    let i = c.unwrap-i.result in
    let x = c.args.addr in
    let value = c.args.value in
    let p = rw c.unwrap-i.ensures at c.place_of.ensures.placed in
    let here : get_or m i c.index-areas-i.result ≡ nth_area m i = get_or_default m i c.index-areas-i.result no_area p.within in
    let new : c.set_number.new.self ≡ stored_in (nth_area m i) x Eight value = c.set_number.ensures ∙ ap (λ (v : Area). stored_in v x Eight value) here in
    rw new (stored-lie m i x Eight value c.requires.lie p)

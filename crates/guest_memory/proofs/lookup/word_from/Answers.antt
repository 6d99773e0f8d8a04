use Rattle.std.proofs.Common.{◌≡◌, ◌-◌, ℕ, Some, drop, ap, sym, ◌∙◌}
use Rattle.std.proofs.lemmas.List.{get_or_read}
use Rattle.rv64_decode.specs.Area.{Area}
use Rattle.byteorder.specs.Endian.{little_number}
use Rattle.guest_memory.specs.Layout.{nth_area, no_area}
use Rattle.guest_memory.proofs.Words.{word-refused, word-place}
use Rattle.guest_memory.proofs.lookup.word_from.Goals as goal

pub returns-in-Err : goal.returns-in-Err
returns-in-Err c = sym (word-refused c.args.areas.now c.args.addr _ c.in-Err.ensures.refused)

pub returns-in-Ok : goal.returns-in-Ok
returns-in-Ok c =
    let m = c.args.areas.now in
    let i = c.in-Ok.i in
    let p = c.in-Ok.ensures.placed in
    let here : c.index-areas-i.result ≡ nth_area m i = get_or_read m i _ p.within c.index-areas-i.is no_area in
    let number : c.number.result ≡ little_number 8 (drop (c.args.addr - (nth_area m i).low) (nth_area m i).bytes) =
    c.number.ensures.number ∙ ap (λ (v : Area). little_number 8 (drop (c.args.addr - v.low) v.bytes)) here in
    ap (λ (v : ℕ). Some v) number ∙ sym (word-place m i c.args.addr c.requires p)

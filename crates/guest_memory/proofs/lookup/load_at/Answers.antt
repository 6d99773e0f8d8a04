use Rattle.std.proofs.Common.{◌≡◌, ◌-◌, ℕ, true, false, drop, Ok, ap, sym, ◌∙◌}
use Rattle.std.proofs.lemmas.List.{get_or_read}
use Rattle.rv64_decode.specs.Area.{Area, bytes_of}
use Rattle.byteorder.specs.Endian.{little_number}
use Rattle.guest_memory.specs.Layout.{nth_area, no_area}
use Rattle.guest_memory.proofs.Areas.{load-denied, load-number}
use Rattle.guest_memory.proofs.lookup.load_at.Goals as goal

pub returns-then-not-is_readable-clause-answer : goal.returns-then-not-is_readable-clause-answer
returns-then-not-is_readable-clause-answer c =
    let m = c.args.areas.now in
    let p = c.requires.place in
    let here : c.index-areas-i.result ≡ nth_area m c.args.i = get_or_read m c.args.i _ p.within c.index-areas-i.is no_area in
    let closed : (nth_area m c.args.i).readable ≡ false = ap (λ (v : Area). v.readable) (sym here) ∙ sym c.is_readable.ensures ∙ c.if-not-is_readable.true in
    sym (load-denied m c.args.i c.args.addr c.args.width c.requires.lie p closed)

pub returns-clause-answer : goal.returns-clause-answer
returns-clause-answer c =
    let m = c.args.areas.now in
    let p = c.requires.place in
    let here : c.index-areas-i.result ≡ nth_area m c.args.i = get_or_read m c.args.i _ p.within c.index-areas-i.is no_area in
    let free : (nth_area m c.args.i).readable ≡ true = ap (λ (v : Area). v.readable) (sym here) ∙ sym c.is_readable.ensures ∙ c.if-not-is_readable.false in
    let number : c.number.result ≡ little_number (bytes_of c.args.width) (drop (c.args.addr - (nth_area m c.args.i).low) (nth_area m c.args.i).bytes) =
    c.number.ensures.number ∙ ap (λ (v : Area). little_number (bytes_of c.args.width) (drop (c.args.addr - v.low) v.bytes)) here in
    ap (λ (v : ℕ). Ok v) number ∙ sym (load-number m c.args.i c.args.addr c.args.width c.requires.lie p free)

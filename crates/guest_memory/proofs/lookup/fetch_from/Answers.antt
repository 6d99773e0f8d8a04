use Rattle.std.proofs.Common.{◌≡◌, ◌-◌, ℕ, true, false, drop, Ok, ap, sym, ◌∙◌}
use Rattle.std.proofs.lemmas.List.{get_or_read}
use Rattle.rv64_decode.specs.Area.{Area, bytes_of}
use Rattle.byteorder.specs.Endian.{little_number}
use Rattle.guest_memory.specs.Layout.{nth_area, no_area}
use Rattle.guest_memory.proofs.Areas.{fetch-denied, fetch-number}
use Rattle.rv64_decode.specs.declared.memory.Width.TheVariants.{Four}
use Rattle.guest_memory.proofs.lookup.fetch_from.Goals as goal

pub returns-then-not-is_executable : goal.returns-then-not-is_executable
returns-then-not-is_executable c =
    let m = c.args.areas.now in
    let p = c.in_ok-i.ensures.placed in
    let here : c.index-areas-i.result ≡ nth_area m c.in_ok-i.i = get_or_read m c.in_ok-i.i _ p.within c.index-areas-i.is no_area in
    let closed : (nth_area m c.in_ok-i.i).executable ≡ false = ap (λ (v : Area). v.executable) (sym here) ∙ sym c.is_executable.ensures ∙ c.if-not-is_executable.true in
    sym (fetch-denied m c.in_ok-i.i c.args.addr c.requires p closed)

pub returns : goal.returns
returns c =
    let m = c.args.areas.now in
    let p = c.in_ok-i.ensures.placed in
    let here : c.index-areas-i.result ≡ nth_area m c.in_ok-i.i = get_or_read m c.in_ok-i.i _ p.within c.index-areas-i.is no_area in
    let free : (nth_area m c.in_ok-i.i).executable ≡ true = ap (λ (v : Area). v.executable) (sym here) ∙ sym c.is_executable.ensures ∙ c.if-not-is_executable.false in
    let number : c.number.result ≡ little_number (bytes_of Four) (drop (c.args.addr - (nth_area m c.in_ok-i.i).low) (nth_area m c.in_ok-i.i).bytes) =
    c.number.ensures.number ∙ ap (λ (v : Area). little_number (bytes_of Four) (drop (c.args.addr - v.low) v.bytes)) here in
    ap (λ (v : ℕ). Ok v) number ∙ sym (fetch-number m c.in_ok-i.i c.args.addr c.requires p free)

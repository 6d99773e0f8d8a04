use Rattle.std.proofs.Common.{◌≡◌, ◌%◌, true, ap, sym, ◌∙◌, arith}
use Rattle.std.proofs.lemmas.List.{get_or_read}
use Rattle.std.proofs.lemmas.Bool.Decides.{nat_tests}
use Rattle.rv64_decode.specs.Area.{Area, bytes_of, holds}
use Rattle.guest_memory.specs.Layout.{nth_area, no_area}
use Rattle.guest_memory.proofs.Areas.{is_place}
use Rattle.guest_memory.proofs.lookup.lies_in_last.Goals as goal

pub returns-then-holds : goal.returns-then-holds
returns-then-holds c = λ even.
    let m = c.args.areas.now in
    let i = c.args.last in
    let here : c.index-areas-last.result ≡ nth_area m i = get_or_read m i _ c.if-last-areas.true c.index-areas-last.is no_area in
    let held : holds (nth_area m i) c.args.addr ≡ true = ap (λ (v : Area). holds v c.args.addr) (sym here) ∙ sym c.holds.ensures ∙ c.if-holds.true in
    let e : c.args.addr % bytes_of c.args.width ≡ 0 = rw (← c.bytes.ensures) (grind (arith, nat_tests)) in
    is_place m i c.args.addr c.args.width c.requires e (c.if-last-areas.true, held)

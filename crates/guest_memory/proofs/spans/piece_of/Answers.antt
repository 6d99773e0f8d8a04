use Rattle.std.proofs.Common.{◌≡◌, ◌-◌, ◌≤◌, ℕ, List, length, take, drop, Some, ap, sym, ◌∙◌, arith}
use Rattle.std.proofs.lemmas.List.{get_or_read, length-take-le, length-drop}
use Rattle.rv64_decode.specs.Area.{Area}
use Rattle.guest_memory.specs.Layout.{nth_area, no_area}
use Rattle.guest_memory.specs.Spans.{bytes_at}
use Rattle.guest_memory.proofs.Areas.{area_at-nth, inside_holds}
use Rattle.guest_memory.proofs.Bytes.{bytes_at-nth}
use Rattle.guest_memory.proofs.spans.piece_of.Goals as goal

pub returns-clause-bytes : goal.returns-clause-bytes
returns-clause-bytes c =
    let m = c.args.areas.now in
    let i = c.unwrap-i.result in
    let x = c.args.addr in
    let n = c.min-count.result in
    let xs = c.bytes_from-rest.result.now in
    let found = rw c.unwrap-i.ensures at c.find.ensures.found in
    let here : c.index-areas-i.result ≡ nth_area m i = get_or_read m i _ found.0 c.index-areas-i.is no_area in
    let a = nth_area m i in
    let inside = inside_holds a x found.1 in
    let rest : xs ≡ drop (x - a.low) a.bytes = c.bytes_from-rest.ensures ∙ ap (λ (v : Area). drop (x - v.low) v.bytes) here in
    let count : n ≤ length xs = omega arith in
    let long : length (take n xs) ≡ n = length-take-le n xs count in
    let size : length xs ≡ length a.bytes - (x - a.low) = ap length rest ∙ length-drop (x - a.low) a.bytes in
    let at = bytes_at-nth n m i (x - a.low) x c.requires.lie found.0 (omega arith) (omega arith) in
    ap (λ (v : List ℕ). take n v) rest ∙ sym at ∙ ap (λ (v : ℕ). bytes_at v m x) (sym long)

pub returns-clause-whole : goal.returns-clause-whole
returns-clause-whole c = λ a e.
    let m = c.args.areas.now in
    let i = c.unwrap-i.result in
    let x = c.args.addr in
    let n = c.min-count.result in
    let xs = c.bytes_from-rest.result.now in
    let found = rw c.unwrap-i.ensures at c.find.ensures.found in
    let here : c.index-areas-i.result ≡ nth_area m i = get_or_read m i _ found.0 c.index-areas-i.is no_area in
    let inside = inside_holds (nth_area m i) x found.1 in
    let same : Some (nth_area m i) ≡ Some a = sym (area_at-nth 0 m i x c.requires.lie found.0 inside.0 inside.1) ∙ e in
    let area : nth_area m i ≡ a = cc in
    let rest : xs ≡ drop (x - a.low) a.bytes = c.bytes_from-rest.ensures ∙ ap (λ (v : Area). drop (x - v.low) v.bytes) (here ∙ area) in
    let size : length xs ≡ length a.bytes - (x - a.low) = ap length rest ∙ length-drop (x - a.low) a.bytes in
    let low : a.low ≤ x = rw (← area) inside.0 in
    let count : n ≤ length xs = omega arith in
    let long : length (take n xs) ≡ n = length-take-le n xs count in
    omega arith

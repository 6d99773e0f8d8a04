use Rattle.std.proofs.Common.{◌≡◌, ◌+◌, ◌<◌, length, drop, ap, ◌∙◌, arith}
use Rattle.std.proofs.lemmas.List.{get_or_read, length-append}
use Rattle.rv64_decode.specs.Area.{Area}
use Rattle.guest_memory.specs.Layout.{nth_area, no_area}
use Rattle.guest_memory.specs.Spans.{all_bytes}
use Rattle.guest_memory.proofs.Bytes.{all_bytes-drop, length-all_bytes}
use Rattle.guest_memory.proofs.spans.total_of.Goals as goal

pub overflow_add-total : goal.overflow_add-total
overflow_add-total c =
    let m = c.args.areas.now in
    let i = c.loop-area.area-index in
    let within : i < length m = omega arith in
    let here : c.area-item.result ≡ nth_area m i = get_or_read m i _ within c.area-item.is no_area in
    let size : length c.as_slice.result.now ≡ length (nth_area m i).bytes = ap length c.as_slice.ensures ∙ ap (λ (v : Area). length v.bytes) here in
    let rest = ap length (all_bytes-drop m i within) ∙ length-append (nth_area m i).bytes (all_bytes (drop (i + 1) m)) in
    let all = length-all_bytes 0 m c.requires (omega arith) in
    omega arith

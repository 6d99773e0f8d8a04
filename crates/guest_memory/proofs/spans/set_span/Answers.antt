use Rattle.std.proofs.Common.{◌≡◌, ◌-◌, length, take, drop, ◌∙◌, refl}
use Rattle.std.proofs.lemmas.List.{take_rest}
use Rattle.rv64_decode.specs.Area.{writable_of}
use Rattle.guest_memory.proofs.Bytes.{set_turn-bytes, set_turn-permitted}
use Rattle.guest_memory.proofs.spans.set_span.Goals as goal

pub loop-rest-preserved : goal.loop-rest-preserved
loop-rest-preserved c =
    let m = c.loop-rest.areas in
    let new = c.set_part-count.new.areas in
    let x = c.loop-rest.at in
    let xs = c.loop-rest.rest.now in
    let n = c.set_part-count.result in
    let set = c.set_part-count.ensures in
    let left : take (length xs - n) (drop n xs) ≡ drop n xs = take_rest xs n in
    rw left (record {
      lie = set.lie;
      writable = set_turn-permitted writable_of m new x n xs (λ a bytes. refl) set.within set.bytes c.loop-rest.invariant.writable;
      bytes = set_turn-bytes m new x n xs set.within set.bytes ∙ c.loop-rest.invariant.bytes;
    })

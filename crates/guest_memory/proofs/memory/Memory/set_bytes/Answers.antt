use Rattle.std.proofs.Common.{◌≡◌, ◌+◌, ◌++◌, List, length, take, drop, refl, ap, sym, ◌∙◌, arith}
use Rattle.std.proofs.lemmas.Grind.{common_steps}
use Rattle.rv64_decode.specs.Area.{Area, writable_of}
use Rattle.guest_memory.specs.Spans.{all_permitted, with_bytes_at}
use Rattle.guest_memory.proofs.Bytes.{all_permitted-with_bytes_at, with_bytes_at-append}
use Rattle.guest_memory.proofs.memory.Memory.set_bytes.Goals as goal

pub returns-clause-writable : goal.returns-clause-writable
returns-clause-writable c =
    let m = c.args.self.now in
    let bs = c.args.bytes.now in
    let new : take c.self.inside.areas.len (c.set_span.new.areas ++ drop (length c.set_span.new.areas) c.self.inside.areas.items) ≡ with_bytes_at m c.args.addr bs = grind (arith, common_steps) in
    λ n x. ap (λ (v : List Area). all_permitted writable_of n v x) new ∙ all_permitted-with_bytes_at writable_of bs m c.args.addr n x (λ a bytes. refl)

pub returns-clause-more : goal.returns-clause-more
returns-clause-more c =
    let m = c.args.self.now in
    let bs = c.args.bytes.now in
    let at = c.args.addr + length bs in
    let new : take c.self.inside.areas.len (c.set_span.new.areas ++ drop (length c.set_span.new.areas) c.self.inside.areas.items) ≡ with_bytes_at m c.args.addr bs = grind (arith, common_steps) in
    λ ys. ap (λ (v : List Area). with_bytes_at v at ys) new ∙ sym (with_bytes_at-append bs ys m c.args.addr at refl)

use Rattle.std.proofs.Common.{◌≡◌, ◌+◌, ◌-◌, refl, sym, ◌∙◌, arith}
use Rattle.rv64_decode.specs.Area.{readable_of}
use Rattle.guest_memory.specs.Spans.{all_permitted}
use Rattle.guest_memory.proofs.Bytes.{permits-each, all_permitted-rest}
use Rattle.guest_memory.proofs.memory.Memory.can_read.Goals as goal

pub returns-clause-each : goal.returns-clause-each
returns-clause-each c =
    let m = c.args.self.now in
    let x = c.args.addr in
    let value : c.allows_all.result ≡ all_permitted readable_of c.args.len m x = cc in
    λ e k l. permits-each readable_of m c.args.len k x (x + k) refl (sym value ∙ e) l

pub returns-clause-rest : goal.returns-clause-rest
returns-clause-rest c =
    let m = c.args.self.now in
    let x = c.args.addr in
    let value : c.allows_all.result ≡ all_permitted readable_of c.args.len m x = cc in
    λ e k l. all_permitted-rest readable_of m k (c.args.len - k) c.args.len x (x + k) (omega arith) refl (sym value ∙ e)

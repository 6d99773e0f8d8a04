use Rattle.std.proofs.Common.{◌≡◌, List, ℕ, Some, ap, sym, ◌∙◌, true}
use Rattle.rv64_decode.specs.Area.{writable_of}
use Rattle.guest_memory.specs.Spans.{all_permitted}
use Rattle.guest_memory.proofs.Kept.{keep_self}
use Rattle.guest_calls.proofs.Table.{left_by_read}
use Rattle.guest_calls.proofs.calls.read.Goals as goal

pub returns-in-Ok-clause-rest : goal.returns-in-Ok-clause-rest
returns-in-Ok-clause-rest g c = λ xs h.
    let open_to : all_permitted writable_of c.args.len c.args.mem.now c.args.addr ≡ true = sym c.can_write.ensures.value ∙ c.if-not-can_write.false in
    c.in-Ok.ensures.rest xs h
    ∙ ap (λ (ys : List ℕ). Some ys) (left_by_read c.args.fd c.args.addr c.args.len c.args.mem.now xs c.if-fd-ne0.false open_to)

pub returns-then-fd-ne0-clause-areas : goal.returns-then-fd-ne0-clause-areas
returns-then-fd-ne0-clause-areas g c = keep_self _

pub returns-then-not-can_write-clause-areas : goal.returns-then-not-can_write-clause-areas
returns-then-not-can_write-clause-areas g c = keep_self _

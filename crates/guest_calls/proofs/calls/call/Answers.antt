use Rattle.std.proofs.Common.{◌≡◌, sym, ◌∙◌}
use Rattle.guest_calls.specs.Calls.{a7}
use Rattle.guest_memory.proofs.Kept.{keep_self}
use Rattle.guest_calls.proofs.Table.{register_read, written_call}
use Rattle.guest_calls.proofs.calls.call.Goals as goal

pub returns-in-Err-write-clause-prefix : goal.returns-in-Err-write-clause-prefix
returns-in-Err-write-clause-prefix g c = λ xs ys h.
    let regs = c.args.regs.now in
    let p = c.in-Err-write.ensures.prefix ys h in
    let first = register_read regs c.get-first.result c.new.result 10 c.get-first.ensures c.new.ensures in
    let second = register_read regs c.get-addr.result c.new-2.result 11 c.get-addr.ensures c.new-2.ensures in
    let third = register_read regs c.get-len.result c.new-3.result 12 c.get-len.ensures c.new-3.ensures in
    let number : a7 regs ≡ 64 = sym (register_read regs c.get.result c.new-4.result 17 c.get.ensures c.new-4.ensures) ∙ c.in-64.is in
    let sent = rw (first, second, third) at p.are in
    record { count = p.count; are = rw (written_call c.args.regs.now c.args.mem.now c.args.brk.now xs number) sent }

pub returns-in-Ok-write-clause-areas : goal.returns-in-Ok-write-clause-areas
returns-in-Ok-write-clause-areas g c = keep_self _

pub returns-in-Err-write-clause-areas : goal.returns-in-Err-write-clause-areas
returns-in-Err-write-clause-areas g c = keep_self _

pub returns-in-214-clause-areas : goal.returns-in-214-clause-areas
returns-in-214-clause-areas g c = keep_self _

pub returns-in-93-clause-areas : goal.returns-in-93-clause-areas
returns-in-93-clause-areas g c = keep_self _

pub returns-in_default-clause-areas : goal.returns-in_default-clause-areas
returns-in_default-clause-areas g c = keep_self _

use Rattle.rv64_decode.specs.Row.{asks}
use Rattle.rv64_meaning.specs.Mnemonics.{instr_of}
use Rattle.std.proofs.Common.{refl, sym}
use Rattle.serial_run.proofs.Decoded.{allowed_all, call_is_ecall, acts_call}
use Rattle.serial_run.proofs.running.execute.Goals as goal

pub exec_decoded-requires : goal.exec_decoded-requires
exec_decoded-requires g c = allowed_all (asks (instr_of c.args.d.now) c.args.m.now.regs)

pub returns-then-is_some-clause-acts : goal.returns-then-is_some-clause-acts
returns-then-is_some-clause-acts g c =
    let regs = c.in-Call.ensures.stop_registers tt in
    let memory = c.in-Call.ensures.stop_memory tt in
    let ecall = call_is_ecall (instr_of c.args.d.now) c.args.pc c.args.m.now.regs c.args.m.now.memory (sym c.in-Call.ensures.next) in
    acts_call (instr_of c.args.d.now) _ _ _ _ _ _ _ (rw (regs, memory) refl) ecall c.answer_call.ensures.acts

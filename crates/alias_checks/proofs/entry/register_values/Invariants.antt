use Rattle.rv64_decode.specs.Registers.{register}
use Rattle.alias_checks.specs.Entry.{IsFilled}
use Rattle.alias_checks.proofs.entry.register_values.Given as goal

abbrev pub invariant-loop-r : goal.invariant-loop-r
invariant-loop-r l = IsFilled (register l.regs) l.r l.values

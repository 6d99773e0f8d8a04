use Rattle.std.proofs.Common.{◌+◌}
use Rattle.alias_checks.specs.Entry.{entry_value, IsFilled}
use Rattle.alias_checks.proofs.entry.entry_values.Given as goal

abbrev pub invariant-loop-k : goal.invariant-loop-k
invariant-loop-k l = IsFilled (entry_value l.cells l.regs l.mem) (32 + l.k) l.values

use Rattle.std.proofs.Common.{◌≡◌, ◌++◌, drop}
use Rattle.alias_checks.proofs.copies.same_duties.Given as goal

abbrev pub invariant-loop-duty : goal.invariant-loop-duty
invariant-loop-duty l = l.copies.items ++ drop l.duty-index l.duties ≡ l.duties

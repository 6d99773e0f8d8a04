use Rattle.std.proofs.Common.{◌≡◌, ◌≤◌, ◌++◌, drop, length}
use Rattle.alias_checks.proofs.copies.same_accesses.Given as goal

abbrev pub invariant-loop-access : goal.invariant-loop-access
invariant-loop-access l = (length l.copies.items ≤ l.access-index)
    × (l.copies.items ++ drop l.access-index l.accesses ≡ l.accesses)

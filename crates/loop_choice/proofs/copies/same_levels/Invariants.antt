use Rattle.std.proofs.Common.{◌≡◌, ◌++◌, drop}
use Rattle.loop_choice.proofs.copies.same_levels.Given as goal

abbrev pub invariant-loop-level : goal.invariant-loop-level
invariant-loop-level l = l.copies.items ++ drop l.level-index l.levels ≡ l.levels

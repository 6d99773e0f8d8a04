use Rattle.std.proofs.Common.{◌≡◌, drop}
use Rattle.induction.specs.Words.{deeper}
use Rattle.induction.proofs.moves.is_deeper.Given as goal

abbrev pub invariant-loop-m : goal.invariant-loop-m
invariant-loop-m l = deeper (drop l.m-index l.levels) l.level l.x ≡ deeper l.levels l.level l.x

use Rattle.std.proofs.Common.{List, ◌++◌, drop}
use Rattle.loop_choice.specs.declared.judged.Judged.{Judged}
use Rattle.loop_division.specs.LoopVerdicts.{AreJudgedAs}
use Rattle.loop_division.proofs.verdicts.judge_all.Given as goal

abbrev pub invariant-loop-shape : goal.invariant-loop-shape
invariant-loop-shape l = (rest : List Judged) → AreJudgedAs l.graph (drop l.shape-index l.shapes) rest
    → AreJudgedAs l.graph l.shapes (l.all.items ++ rest)

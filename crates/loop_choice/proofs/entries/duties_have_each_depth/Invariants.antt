use Rattle.std.proofs.Common.{◌≡◌, length, take}
use Rattle.std.specs.List.{All}
use Rattle.loop_data.specs.declared.equations.Duty.{Duty}
use Rattle.loop_choice.proofs.entries.duties_have_each_depth.Given as goal

abbrev pub invariant-loop-duty : goal.invariant-loop-duty
invariant-loop-duty l = All (λ (x : Duty). length x.around ≡ 3) (take l.duty-index l.duties)

use Rattle.std.proofs.Common.{◌≡◌, length, take}
use Rattle.std.specs.List.{All}
use Rattle.loop_data.specs.declared.accesses.Access.{Access}
use Rattle.loop_choice.proofs.entries.accesses_have_each_depth.Given as goal

abbrev pub invariant-loop-access : goal.invariant-loop-access
invariant-loop-access l = All (λ (x : Access). length x.around ≡ 3) (take l.access-index l.accesses)

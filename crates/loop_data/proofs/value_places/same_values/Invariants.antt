use Rattle.std.proofs.Common.{◌≡◌, map, take}
use Rattle.loop_data.specs.declared.values.Values.{Values}
use Rattle.loop_data.proofs.value_places.same_values.Given as goal

abbrev pub invariant-loop-x : goal.invariant-loop-x
invariant-loop-x l = map (λ (p : Values). p.at) l.all.items ≡ take l.x-index l.body

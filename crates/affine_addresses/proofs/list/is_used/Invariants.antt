use Rattle.std.proofs.Common.{◌≡◌, drop}
use Rattle.loop_data.specs.Lookups.{use_of}
use Rattle.affine_addresses.proofs.list.is_used.Given as goal

abbrev pub invariant-loop-used : goal.invariant-loop-used
invariant-loop-used l = use_of (drop l.used-index l.uses) l.at ≡ use_of l.uses l.at

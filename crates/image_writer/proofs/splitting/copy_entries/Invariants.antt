use Rattle.std.proofs.Common.{◌≡◌, ◌++◌, ◌+◌, ◌-◌, ◌*◌}
use Rattle.image_writer.specs.Split.{entries_from}
use Rattle.image_writer.proofs.splitting.copy_entries.Given as goal

abbrev pub invariant-loop-i : goal.invariant-loop-i
invariant-loop-i l = l.out.items ++ entries_from l.rest (48 + 16 * l.i) (l.count - l.i) ≡ entries_from l.rest 48 l.count

use Rattle.std.proofs.Common.{◌≡◌, ◌++◌, ◌+◌, ◌-◌, ◌*◌}
use Rattle.image_writer.specs.Split.{words_from}
use Rattle.image_writer.proofs.splitting.copy_code.Given as goal

abbrev pub invariant-loop-i : goal.invariant-loop-i
invariant-loop-i l = l.out.items ++ words_from l.rest (l.place + 4 * l.i) (l.count - l.i) ≡ words_from l.rest l.place l.count

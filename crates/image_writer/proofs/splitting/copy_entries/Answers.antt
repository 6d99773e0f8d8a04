use Rattle.std.proofs.Common.{◌≡◌, ◌+◌, ◌*◌, arith, refl}
use Rattle.image_writer.proofs.Steps.{entries_step}
use Rattle.image_writer.proofs.splitting.copy_entries.Goals as goal

pub loop-i-preserved : goal.loop-i-preserved
loop-i-preserved c =
    let place : 56 + 16 * c.loop-i.i ≡ 48 + 16 * c.loop-i.i + 8 = omega arith in
    entries_step c.args.rest.now c.loop-i.i c.args.count _ _ _ _ c.loop-i-test.true c.loop-i.invariant c.in_ok-push.ensures.items (rw (c.field64.ensures, c.field64-in-loop-i.ensures, place) refl)

use Rattle.std.proofs.Common.{◌≡◌, refl, ap, arith, length}
use Rattle.turn_copies.specs.StubCode.{movings, advances_code}
use Rattle.outliner.specs.Moves.{roles_in, moved}
use Rattle.outliner.proofs.Divided.{moving_size, no_moving, begin_length, moved_is}
use Rattle.outliner.proofs.stub.begin_size.Goals as goal

pub loop-k-preserved : goal.loop-k-preserved
loop-k-preserved c =
    let i = c.loop-k.invariant in
    let m = moving_size c.args.classes.now c.loop-k.k c.moving_size-size.result _ c.loop-k-test.true refl (c.moving_size-size.ensures.value c.loop-k.k) in
    let f = c.moving_size-size.ensures.few in
    record { whole = omega (arith, i.whole, m); few = omega (arith, i.few, f) }

pub returns : goal.returns
returns c =
    let i = c.loop-k.invariant in
    let n = no_moving c.args.classes.now c.loop-k.k c.loop-k-test.false in
    let b = begin_length (moved c.args.classes.now) 0 0 in
    let same : length (advances_code (movings (roles_in c.args.classes.now))) ≡ length (advances_code (moved c.args.classes.now)) = ap (λ ms. length (advances_code ms)) (moved_is c.args.classes.now) in
    record { value = omega (arith, i.whole, n, b, same); few = omega (arith, i.few, c.loop-k.auto.k-end) }

use Rattle.std.proofs.Common.{◌≡◌, ◌+◌, ◌-◌, ap, arith, length}
use Rattle.outliner.specs.Moves.{roles_in, moved}
use Rattle.stub_laws.proofs.Appends.{as_list}
use Rattle.turn_copies.specs.StubCode.{advances_code}
use Rattle.outliner.proofs.Divided.{moved_is}
use Rattle.outliner.proofs.Appends.{begin_order, begin_few, begin_words, near_places}
use Rattle.outliner.proofs.turns.push_begin.Goals as goal

pub place_behind-requires-clause-order : goal.place_behind-requires-clause-order
place_behind-requires-clause-order c =
    let f = begin_order _ _ _ (roles_in c.args.classes.now) c.in_ok-push_advances.ensures c.in_ok-push_restore.ensures in
    omega (arith, f, c.len-start.ensures, c.len-end.ensures)

pub place_behind-requires-clause-few : goal.place_behind-requires-clause-few
place_behind-requires-clause-few c =
    let f = begin_few _ _ _ (roles_in c.args.classes.now) c.in_ok-push_advances.ensures c.in_ok-push_restore.ensures in
    omega (arith, f, c.len-start.ensures, c.len-end.ensures)

pub jump-requires : goal.jump-requires
jump-requires c =
    let f = begin_few _ _ _ (roles_in c.args.classes.now) c.in_ok-push_advances.ensures c.in_ok-push_restore.ensures in
    let e = c.place_behind.ensures in
    let a = c.requires.from in
    let b = c.requires.near in
    near_places c.args.body c.place_behind.result (omega (arith, f, e, a, b, c.len-start.ensures, c.len-end.ensures)) (omega (arith, f, e, a, b, c.len-start.ensures, c.len-end.ensures))

pub returns : goal.returns
returns c =
    let e : c.place_behind.result ≡ c.args.p + (length c.push_restore.new.code.items - length c.args.code.now.items) =
    omega (arith, c.place_behind.ensures, c.len-start.ensures, c.len-end.ensures) in
    let same = moved_is c.args.classes.now in
    begin_words _ _ _ _ (moved c.args.classes.now) c.args.p c.args.body _ e (as_list _ _ _ _ c.in_ok-push_advances.ensures (ap advances_code same)) c.in_ok-push_restore.ensures c.in_ok-jump.ensures

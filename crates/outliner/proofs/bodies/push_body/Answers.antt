use Rattle.std.proofs.Common.{◌<◌, ◌≤◌, refl, subst, length}
use Rattle.std.specs.Prelude.{slice_index}
use Rattle.stub_laws.proofs.Appends.{one_turn, last_turn, no_word}
use Rattle.turn_copies.specs.Copies.{in_order, copy_code, copies_code}
use Rattle.outliner.specs.Sizes.{loop_code}
use Rattle.outliner.proofs.bodies.push_body.Goals as goal

pub loop-k-preserved : goal.loop-k-preserved
loop-k-preserved c =
    let l = c.args.level.now in
    let B = loop_code c.args.graph.now c.args.cells.now in
    let p = in_order l B (slice_index c.args.places.now 0) in
    λ fin h. c.loop-k.invariant fin (one_turn (λ u us. copy_code l B p u) (copies_code l B p) (λ u us. refl) _ _ fin l.body c.loop-k.k 0 (subst (λ q. c.loop-k.k < length q) c.as_slice-body.ensures c.loop-k-test.true) c.in_ok-push_copy_of.ensures h)

pub returns : goal.returns
returns c =
    let l = c.args.level.now in
    let B = loop_code c.args.graph.now c.args.cells.now in
    let p = in_order l B (slice_index c.args.places.now 0) in
    c.loop-k.invariant _ (last_turn (copies_code l B p) _ refl _ _ l.body c.loop-k.k (subst (λ q. length q ≤ c.loop-k.k) c.as_slice-body.ensures c.loop-k-test.false) (no_word _))

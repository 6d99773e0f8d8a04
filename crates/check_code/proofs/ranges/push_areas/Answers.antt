use Rattle.std.proofs.Common.{refl, [], ◌∷◌}
use Rattle.stub_laws.specs.Code.{open_jump}
use Rattle.check_code.specs.Macros.{permitted, areas_code}
use Rattle.stub_laws.proofs.Appends.{last_turn}
use Rattle.check_code.proofs.Appends.{area_turn, left_turn, few_left}
use Rattle.check_code.proofs.ranges.push_areas.Goals as goal

pub loop-area-preserved : goal.loop-area-preserved
loop-area-preserved c = record {
  left = left_turn c.args.permission _ _ c.args.areas.now c.loop-area.area-index c.loop-area.left _ _ c.loop-area-test.true c.loop-area.invariant.left c.in_ok-left.ensures;
  words = λ fin h. c.loop-area.invariant.words fin (area_turn c.args.permission _ _ fin c.args.areas.now c.loop-area.area-index c.loop-area.left _ _ c.loop-area-test.true c.loop-area.invariant.left c.in_ok-left.ensures h);
}

pub returns : goal.returns
returns c = c.loop-area.invariant.words _ (last_turn (λ l. areas_code (permitted c.args.permission l)) (open_jump ∷ []) refl _ _ c.args.areas.now c.loop-area.area-index c.loop-area-test.false c.in_ok-push_open.ensures)

pub push_if_permitted-requires-clause-few : goal.push_if_permitted-requires-clause-few
push_if_permitted-requires-clause-few c = few_left c.args.permission c.args.areas.now c.loop-area.area-index c.loop-area.left c.loop-area.invariant.left c.requires.few

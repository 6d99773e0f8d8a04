use Rattle.std.specs.Prelude.{nat_lt}
use Rattle.check_code.proofs.Joins.{four_words}
use Rattle.check_code.proofs.pairs.push_four.Goals as goal

pub returns : goal.returns
returns c =
    four_words _ _ _ _ _ (nat_lt 0 c.args.lanes) (nat_lt 0 c.args.residue) c.args.root c.args.lanes c.args.residue c.args.width
    c.lane_length.result c.residue_length-behind.result c.lane_length.ensures.value c.residue_length-behind.ensures.value
    c.in_ok-push_blocks.ensures c.in_ok-push_lane_part.ensures c.in_ok-push_residue_part.ensures c.in_ok-push_far.ensures

use Rattle.check_code.specs.CheckCode.{pair_at_code}
use Rattle.check_code.proofs.Emitted.{map_turn, map_end}
use Rattle.check_code.proofs.emit.push_pairs.Goals as goal

pub loop-pair-preserved : goal.loop-pair-preserved
loop-pair-preserved c = λ fin h.
    c.loop-pair.invariant fin (map_turn (pair_at_code c.args.accesses.now) _ _ fin c.args.pairs.now c.loop-pair.pair-index _ c.loop-pair-test.true c.in_ok-push_pair_of.ensures h)

pub returns : goal.returns
returns c = c.loop-pair.invariant _ (map_end (pair_at_code c.args.accesses.now) _ c.args.pairs.now c.loop-pair.pair-index c.loop-pair-test.false)

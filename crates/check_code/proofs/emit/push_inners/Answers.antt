use Rattle.linear_forms.specs.Forms.{IsForm}
use Rattle.loop_data.specs.declared.trips.Trip.{Trip}
use Rattle.check_code.proofs.Emitted.{inners_turn, inners_end, one_further}
use Rattle.check_code.proofs.emit.push_inners.Goals as goal

pub loop-k-preserved : goal.loop-k-preserved
loop-k-preserved c = record {
  words = λ fin h. c.loop-k.invariant.words fin (inners_turn _ _ fin c.args.trips.now c.loop-k.k c.index-trips-k-in-loop-k-2.result c.loop-k-test.true c.index-trips-k-in-loop-k-2.is c.in_ok-push_inner.ensures h);
  starts = one_further (λ (t : Trip). IsForm t.start) c.args.trips.now c.loop-k.k c.index-trips-k.result c.loop-k-test.true c.loop-k.invariant.starts c.keeps_limits.ensures;
  bounds = one_further (λ (t : Trip). IsForm t.bound) c.args.trips.now c.loop-k.k c.index-trips-k-in-loop-k.result c.loop-k-test.true c.loop-k.invariant.bounds c.keeps_limits-in-loop-k.ensures;
}

pub returns-clause-words : goal.returns-clause-words
returns-clause-words c = c.loop-k.invariant.words _ (inners_end _ c.args.trips.now c.loop-k.k c.loop-k-test.false)

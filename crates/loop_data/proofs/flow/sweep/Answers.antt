use Rattle.std.proofs.Common.{◌<◌, ◌+◌, sym, subst}
use Rattle.std.proofs.lemmas.List.{length-map}
use Rattle.loop_data.specs.Flows.{rows, items_of, IsSweep}
use Rattle.loop_data.proofs.FlowOrders.{sweep_more}
use Rattle.loop_data.proofs.flow.sweep.Goals as goal

pub loop-p-preserved : goal.loop-p-preserved
loop-p-preserved c =
    let n = length-map c.args.sources.now items_of in
    let within = subst (λ m. c.loop-p.p < m) (sym n) c.loop-p-test.true in (
      c.in_ok-here.ensures.marked,
      subst (IsSweep (rows c.args.sources.now) (c.loop-p.p + 1) c.args.flags.now.items c.visit.new.flags.items) (sym c.both-whole.ensures)
          (sweep_more (rows c.args.sources.now) c.loop-p.p c.args.flags.now.items c.loop-p.flags.items c.visit.new.flags.items c.loop-p.whole c.in_ok-here.here within c.loop-p.invariant.1 c.in_ok-here.ensures.visit),
    )

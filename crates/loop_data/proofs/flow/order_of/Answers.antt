use Rattle.std.proofs.Common.{◌≡◌, ◌<◌, arith, length, subst}
use Rattle.std.proofs.lemmas.List.{length-map}
use Rattle.loop_data.specs.Flows.{rows, items_of}
use Rattle.loop_data.proofs.FlowOrders.{whole_from, below_more}
use Rattle.loop_data.proofs.flow.order_of.Goals as goal

pub sweep-requires-clause-rows : goal.sweep-requires-clause-rows
sweep-requires-clause-rows c = λ j k m. (c.requires.is.up j k m).0

pub returns-then-branch : goal.returns-then-branch
returns-then-branch c =
    let n = length-map c.args.sources.now items_of in
    whole_from (rows c.args.sources.now) c.sweep.new.flags.items c.sweep.new.order.items c.in_ok-sweep.ensures.marked (λ q l. c.in_ok-sweep.ensures.sweep.all c.if-branch.true q (subst (λ m. q < m) n l))

pub loop-preserved : goal.loop-preserved
loop-preserved c = (
  c.in_ok-sweep.ensures.marked,
  λ rank r. below_more (rows c.args.sources.now) (length c.args.sources.now) c.loop.flags.items c.sweep.new.flags.items c.in_ok-sweep.field-0 rank c.loop.counter (length-map c.args.sources.now items_of) r c.in_ok-sweep.ensures.sweep (c.loop.invariant.1 rank r),
)

pub returns : goal.returns
returns c =
    let n = length-map c.args.sources.now items_of in
    let last : length (rows c.args.sources.now) ≡ c.loop.counter = omega arith in
    whole_from (rows c.args.sources.now) c.loop.flags.items c.loop.order.items c.loop.invariant.0 (λ q l. c.loop.invariant.1 c.requires.rank c.requires.is q l (subst (λ m. c.requires.rank q < m) last (c.requires.is.below q l)))

use Rattle.std.proofs.Common.{◌↔◌, ◌<◌, ℕ, length, ◌∙◌, subst, arith}
use Rattle.std.specs.List.{Contains}
use Rattle.std.proofs.lemmas.List.{get_or_default}
use Rattle.loop_shapes.specs.Net.{graph_of}
use Rattle.loop_data.specs.Paths.{Leads}
use Rattle.loop_shapes.proofs.Reaching.{reaching_started, reaching_more, reaching_done}
use Rattle.loop_shapes.proofs.reach.reached_within.Goals as goal

pub loop-next-init : goal.loop-next-init
loop-next-init c = reaching_started (graph_of c.args.net.now) c.args.set.now c.args.start c.new-reached.result.items c.reach_one.new.reached.items c.new-reached.ensures.items c.in_ok-reach_one.ensures

pub loop-next-preserved : goal.loop-next-preserved
loop-next-preserved c =
    let G = graph_of c.args.net.now in
    let old = c.loop-next.reached.items in
    let more : c.loop-next.next < length old = omega (arith, c.loop-next.reached.ok.0) in
    let at = c.index-x.ensures ∙ get_or_default old c.loop-next.next c.index-x.result.now 0 more in
    reaching_more G c.args.set.now c.args.start c.loop-next.next old c.steps_of.result.now c.reach_all.new.reached.items more c.loop-next.invariant (subst (λ (z : ℕ). (y : ℕ) → Contains c.steps_of.result.now y ↔ Leads G z y) at c.steps_of.ensures) c.in_ok-reach_all.ensures

pub returns : goal.returns
returns c = reaching_done (graph_of c.args.net.now) c.args.set.now c.args.start c.loop-next.next c.loop-next.reached.items (omega (arith, c.loop-next.reached.ok.0)) c.loop-next.invariant

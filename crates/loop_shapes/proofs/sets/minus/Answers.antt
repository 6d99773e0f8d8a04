use Rattle.std.proofs.Common.{◌≡◌, ℕ, List, [], sym, subst}
use Rattle.std.specs.List.{Contains}
use Rattle.loop_shapes.specs.Gains.{Gained}
use Rattle.loop_shapes.proofs.Gains.{Among, gained_none, gained_more}
use Rattle.loop_shapes.proofs.Choices.{chosen_outside}
use Rattle.loop_shapes.proofs.sets.minus.Goals as goal

abbrev Chosen : List ℕ → ℕ → ℕ → Type 0
Chosen ys x z = (z ≡ x) × ¬ Contains ys x

pub loop-x-init : goal.loop-x-init
loop-x-init c = subst (λ (zs : List ℕ). Gained (Among (Chosen c.args.ys.now) []) [] zs) (sym c.new-all.ensures.items) (gained_none (Chosen c.args.ys.now) [])

pub loop-x-preserved : goal.loop-x-preserved
loop-x-preserved c = gained_more (Chosen c.args.ys.now) c.args.xs.now c.loop-x.x-index [] c.loop-x.all.items c.add_outside.new.all.items c.loop-x-test.true c.loop-x.invariant c.in_ok-add_outside.ensures

pub returns : goal.returns
returns c = chosen_outside c.args.xs.now c.args.ys.now c.loop-x.x-index c.loop-x.all.items c.in_order.result.items c.loop-x-test.false c.loop-x.invariant c.in_order.ensures

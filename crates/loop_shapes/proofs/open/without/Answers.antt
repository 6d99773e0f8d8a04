use Rattle.std.proofs.Common.{◌≤◌, ℕ, List, length, subst, arith}
use Rattle.std.specs.List.{Contains}
use Rattle.std.proofs.lemmas.List.{length-map}
use Rattle.loop_shapes.specs.Open.{IsCut}
use Rattle.loop_shapes.proofs.Cutting.{below_start, below_next, below_whole}
use Rattle.loop_shapes.proofs.open.without.Goals as goal
use Rattle.loop_data.specs.Flows.{items_of, rows}

pub cut_all-requires : goal.cut_all-requires
cut_all-requires c a m =
    let l = c.requires a c.loop-to.to (subst (λ (xs : List ℕ). Contains xs a) c.row.ensures m) in
    let n = c.loop-to.invariant.count in
    omega arith

pub loop-to-init : goal.loop-to-init
loop-to-init c = below_start (rows c.args.all.now) c.args.nodes.now c.in_ok-left.left.items c.in_ok-left.ensures.items

pub loop-to-preserved : goal.loop-to-preserved
loop-to-preserved c = below_next (rows c.args.all.now) c.loop-to.to c.args.nodes.now c.loop-to.left.items c.cut_all.new.nodes.items c.loop-to.invariant (subst (λ (xs : List ℕ). IsCut c.loop-to.to xs c.loop-to.left.items c.cut_all.new.nodes.items) c.row.ensures c.cut_all.ensures)

pub returns : goal.returns
returns c =
    let n = length-map c.args.all.now items_of in
    let t = c.loop-to-test.false in
    let le : length (rows c.args.all.now) ≤ c.loop-to.to = omega arith in
    below_whole (rows c.args.all.now) c.loop-to.to c.args.nodes.now c.loop-to.left.items le c.loop-to.invariant

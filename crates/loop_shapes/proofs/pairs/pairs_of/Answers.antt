use Rattle.std.proofs.Common.{◌≡◌, ℕ, List, length, subst, arith}
use Rattle.std.specs.Option.{IfSome}
use Rattle.std.proofs.lemmas.List.{length-map}
use Rattle.loop_data.specs.Flows.{items_of, rows}
use Rattle.loop_shapes.specs.Search.{IsPair}
use Rattle.loop_shapes.proofs.PairRows.{pairs_none, pairs_push, pairs_all}
use Rattle.loop_shapes.proofs.pairs.pairs_of.Goals as goal

pub loop-i-init : goal.loop-i-init
loop-i-init c = pairs_none (rows c.args.all.now) c.new-pairs.result.items c.new-pairs.ensures.items

pub loop-i-preserved : goal.loop-i-preserved
loop-i-preserved c = pairs_push (rows c.args.all.now) c.loop-i.i c.loop-i.pairs.items c.push.new.self.items c.pair_of.result c.in_ok-push.ensures.items (subst (λ (xs : List ℕ). IfSome c.pair_of.result (λ (q : ℕ × ℕ). IsPair xs q.0 q.1)) c.row.ensures c.pair_of.ensures) c.loop-i.invariant

pub returns : goal.returns
returns c =
    let m = length-map c.args.all.now items_of in
    let t = c.loop-i-test.false in
    let l = c.loop-i.auto.i-end in
    let e : c.loop-i.i ≡ length (rows c.args.all.now) = omega arith in
    pairs_all (rows c.args.all.now) c.loop-i.i c.loop-i.pairs.items e c.loop-i.invariant

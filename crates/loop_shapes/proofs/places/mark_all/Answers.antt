use Rattle.std.proofs.Common.{List, ℕ, get_or, take, subst, ◌+◌, []}
use Rattle.std.specs.List.{Contains}
use Rattle.std.proofs.lemmas.List.{take_all}
use Rattle.loop_shapes.specs.Places.{AreFlags, Marked}
use Rattle.loop_shapes.proofs.Rows.{flags_none, flags_more, contains_more, none_in}
use Rattle.loop_shapes.proofs.places.mark_all.Goals as goal

pub loop-x-init : goal.loop-x-init
loop-x-init c = flags_none c.args.graph.now (Contains []) (λ x m. none_in x m) c.args.flags.now c.requires.unset

pub loop-x-preserved : goal.loop-x-preserved
loop-x-preserved c =
    let i = c.loop-x.x-index in
    let xs = c.args.xs.now in
    flags_more c.args.graph.now (Contains (take i xs)) (Contains (take (i + 1) xs)) (get_or xs i 0) (contains_more xs i c.loop-x-test.true) c.loop-x.flags c.mark.new.flags c.loop-x.invariant (subst (λ (q : List ℕ). Marked q (get_or xs i 0) c.loop-x.flags c.mark.new.flags) c.requires.addresses c.mark.ensures)

pub returns : goal.returns
returns c = subst (λ (q : List ℕ). AreFlags c.args.graph.now (Contains q) c.loop-x.flags) (take_all c.loop-x.x-index c.args.xs.now c.loop-x-test.false) c.loop-x.invariant

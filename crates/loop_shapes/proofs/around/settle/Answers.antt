use Rattle.std.proofs.Common.{◌≡◌, ◌<◌, ◌+◌, ℕ, take, Option, None, get_or, length, ap, sym, ◌∙◌, subst, arith}
use Rattle.std.specs.declared.vec.Vec.{Vec}
use Rattle.std.specs.declared.alloc.Global.{Global}
use Rattle.std.proofs.lemmas.List.{get_or_default}
use Rattle.loop_shapes.specs.Around.{GivesWay, IsSettled, entry_at}
use Rattle.loop_shapes.proofs.Answered.{passed, failed}
use Rattle.loop_shapes.proofs.Settling.{settled_taken, settled_kept}
use Rattle.loop_shapes.proofs.around.settle.Goals as goal
use Rattle.loop_shapes.proofs.around.settle.Goals.{then-gives_way, else-gives_way}

pub loop-x-preserved : goal.loop-x-preserved
loop-x-preserved c =
    let found = c.args.found.now in
    let k = c.loop-x.x-index in
    let mid = c.loop-x.entries in
    let l = c.loop-x-test.true in
    let x = get_or found k 0 in
    let fits : x < length mid.items = let b = c.requires.indexed.below k l in let n = c.loop-x.invariant.count in let m = c.requires.count in omega arith in
    let here : c.index.result.now ≡ entry_at mid.items x = c.index.ensures ∙ get_or_default mid.items x c.index.result.now None fits in
    elim c.if-gives_way.branch [
      | then-gives_way w ↦ settled_taken c.args.inner found c.args.slots.now c.args.header c.args.entries.now.items mid.items k l c.requires.indexed c.loop-x.invariant c.if-gives_way.entries.items fits (subst (GivesWay c.args.inner found) here (passed c.gives_way.result c.gives_way.ensures w.if-gives_way.true)) (ap (λ (v : Vec (Option ℕ) Global). v.items) w.entries-is)
      | else-gives_way w ↦ subst (λ (v : Vec (Option ℕ) Global). IsSettled c.args.inner found (take (k + 1) found) c.args.header c.args.entries.now.items v.items) (sym w.entries-is) (settled_kept c.args.inner found c.args.slots.now c.args.header c.args.entries.now.items mid.items k l c.requires.indexed c.loop-x.invariant (λ g. failed c.gives_way.result c.gives_way.ensures w.if-gives_way.false (subst (GivesWay c.args.inner found) (sym here) g)))
    ]

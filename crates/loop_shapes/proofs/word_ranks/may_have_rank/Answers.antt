use Rattle.std.proofs.Common.{ℕ, List, ap, subst, ◌∙◌, arith}
use Rattle.std.specs.List.{Contains}
use Rattle.std.specs.declared.vec.Vec.{Vec}
use Rattle.std.specs.declared.alloc.Global.{Global}
use Rattle.loop_data.specs.Flows.{row_at, rows}
use Rattle.loop_shapes.proofs.word_ranks.may_have_rank.Goals as goal

pub has_ranked-requires : goal.has_ranked-requires
has_ranked-requires c i m =
    let same = c.row.ensures ∙ ap (λ (vs : List (Vec ℕ Global)). row_at (rows vs) c.args.place) c.as_slice.ensures.value in
    let l = (c.requires.net.sources.each c.args.place i (subst (λ (xs : List ℕ). Contains xs i) same m)).0 in
    let n = c.requires.count in
    omega arith

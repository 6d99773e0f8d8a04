use Rattle.std.proofs.Common.{◌++◌, ◌∷◌, [], List, ℕ, slice_set, ap, ◌∙◌, sym}
use Rattle.std.specs.declared.vec.Vec.{Vec}
use Rattle.std.specs.declared.alloc.Global.{Global}
use Rattle.std.proofs.lemmas.List.{map-set, get_or-map}
use Rattle.loop_data.specs.Flows.{rows}
use Rattle.loop_data.proofs.flow.add.Goals as goal

pub returns : goal.returns
returns c =
    let items = λ (v : Vec ℕ Global). v.items in
    let was = get_or-map items c.args.sources.now c.args.to c.index-sources-to.result [] c.requires in
    let pushed = λ (xs : List ℕ). slice_set (rows c.args.sources.now) c.args.to (xs ++ c.args.from ∷ []) in
    record { ok = map-set items c.args.sources.now c.args.to c.push.new.self ∙ ap (λ (xs : List ℕ). slice_set (rows c.args.sources.now) c.args.to xs) (c.in_ok-push.ensures.items) ∙ ap pushed (sym was) }

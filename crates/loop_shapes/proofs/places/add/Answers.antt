use Rattle.std.proofs.Common.{◌++◌, ◌∷◌, [], List, ℕ, slice_set, ap, ◌∙◌, sym}
use Rattle.std.specs.declared.vec.Vec.{Vec}
use Rattle.std.specs.declared.alloc.Global.{Global}
use Rattle.std.proofs.lemmas.List.{map-set, get_or-map}
use Rattle.loop_shapes.proofs.places.add.Goals as goal
use Rattle.loop_data.specs.Flows.{rows}

pub returns : goal.returns
returns c =
    let items = λ (v : Vec ℕ Global). v.items in
    let was = get_or-map items c.args.before.now c.args.to c.index-before-to.result [] c.requires in
    let pushed = λ (xs : List ℕ). slice_set (rows c.args.before.now) c.args.to (xs ++ c.args.from ∷ []) in
    record { ok = map-set items c.args.before.now c.args.to c.push.new.self ∙ ap (λ (xs : List ℕ). slice_set (rows c.args.before.now) c.args.to xs) (c.in_ok-push.ensures.items) ∙ ap pushed (sym was) }

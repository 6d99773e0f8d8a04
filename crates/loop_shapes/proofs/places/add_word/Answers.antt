use Rattle.std.proofs.Common.{◌≡◌, ◌<◌, ◌∙◌, sym, ap, subst, length, get_or, List, ℕ}
use Rattle.std.specs.List.{Contains}
use Rattle.std.proofs.lemmas.Result.{on_ok_weaker}
use Rattle.loop_data.specs.declared.graph.Word.{Word}
use Rattle.loop_shapes.proofs.Rows.{sources_more}
use Rattle.loop_shapes.proofs.places.add_word.Goals as goal
use Rattle.loop_data.specs.Flows.{Added, rows}

pub returns : goal.returns
returns c =
    let G = c.args.graph.now in
    let w = c.index-as_slice-from.result in
    let within : c.args.from < length c.args.at.now = c.requires.within in
    let l = subst (λ (xs : List ℕ). c.args.from < length xs) c.requires.addresses within in
    let is : w ≡ get_or G.words c.args.from w = c.index-as_slice-from.is ∙ ap (λ (q : List Word). get_or q c.args.from w) c.as_slice.ensures in
    on_ok_weaker c.add_steps.result (λ a. sources_more G c.requires.ordered c.args.from w (rows c.args.before.now) (rows c.add_steps.new.before) l is c.requires.below (subst (λ (xs : List ℕ). Added xs c.args.from (Contains w.steps.items) (rows c.args.before.now) (rows c.add_steps.new.before)) c.requires.addresses (subst (λ (ys : List ℕ). Added c.args.at.now c.args.from (Contains ys) (rows c.args.before.now) (rows c.add_steps.new.before)) (c.as_slice-2.ensures.value ∙ ap (λ (v : Word). v.steps.items) (sym c.index-as_slice-from.is)) a))) c.add_steps.ensures

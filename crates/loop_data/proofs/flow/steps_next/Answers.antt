use Rattle.std.proofs.Common.{◌≡◌, ◌∙◌, List, sym, subst, get_or, ap, length, ◌<◌, ◌↔◌, ℕ}
use Rattle.std.specs.List.{Contains}
use Rattle.loop_data.specs.declared.graph.Word.{Word}
use Rattle.loop_data.specs.Paths.{addresses_of, Leads}
use Rattle.loop_data.proofs.FlowWords.{leads_from}
use Rattle.loop_data.proofs.flow.steps_next.Goals as goal

pub returns-in-Some : goal.returns-in-Some
returns-in-Some c y =
    let w = c.index-words-i.result in
    let e = c.as_slice-words.ensures in
    let f = c.in-Some.ensures.found in
    let i = c.in-Some.i in
    let here = c.as_slice.ensures.value ∙ ap (λ (v : Word). v.steps.items) (sym c.index-words-i.is) in
    subst (λ (ys : List ℕ). Contains ys y ↔ Leads c.args.graph.now c.args.x y) (sym here)
    (leads_from c.args.graph.now c.requires i c.args.x w (subst (λ (q : List Word). i < length q) e f.0) (subst (λ (q : List Word). get_or (addresses_of q) i 0 ≡ c.args.x) e f.1) (c.index-words-i.is ∙ ap (λ (q : List Word). get_or q i w) e) y)

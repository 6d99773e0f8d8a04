use Rattle.std.proofs.Common.{ℕ, List, get_or, refl, ap, ◌∙◌, sym, subst, arith}
use Rattle.std.proofs.lemmas.List.{length-map}
use Rattle.std.proofs.lemmas.List.Elements.{Contains-get_or}
use Rattle.loop_data.specs.declared.graph.Word.{Word}
use Rattle.loop_shapes.specs.Places.{Marked, at}
use Rattle.loop_shapes.proofs.Programs.{steps_by}
use Rattle.loop_shapes.proofs.Spreading.{spread_more}
use Rattle.loop_shapes.proofs.tests.spread.Goals as goal

pub loop-y-preserved : goal.loop-y-preserved
loop-y-preserved c =
    let G = c.args.graph.now in
    let i = c.args.place in
    let w = c.index-as_slice-place.result in
    let l = c.requires.within in
    let n = length-map G.words (λ (v : Word). v.at) in
    let is = c.index-as_slice-place.is ∙ ap (λ (q : List Word). get_or q i w) c.as_slice.ensures in
    let steps = c.as_slice-y-items.result.now in
    let y = get_or steps c.loop-y.y-index 0 in
    let exact = steps_by G c.requires.ordered i (at G i) w steps l (omega arith) refl is (c.as_slice-y-items.ensures.value ∙ ap (λ (v : Word). v.steps.items) (sym c.index-as_slice-place.is)) y in
    let lead = exact.0 (Contains-get_or steps c.loop-y.y-index 0 c.loop-y-test.true) in
    spread_more G (at G i) y c.loop-y.flags c.mark.new.flags (c.requires.from.each i l c.if-not-flags-place.false) lead c.loop-y.invariant (subst (λ (q : List ℕ). Marked q y c.loop-y.flags c.mark.new.flags) c.requires.addresses c.mark.ensures)

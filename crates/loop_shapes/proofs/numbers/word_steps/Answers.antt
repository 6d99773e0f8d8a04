use Rattle.std.proofs.Common.{List, get_or, refl, ap, ◌∙◌, sym, arith}
use Rattle.std.proofs.lemmas.List.{length-map}
use Rattle.loop_data.specs.declared.graph.Word.{Word}
use Rattle.loop_shapes.specs.Net.{graph_of}
use Rattle.loop_shapes.specs.Places.{at}
use Rattle.loop_shapes.proofs.Programs.{steps_by}
use Rattle.loop_shapes.proofs.numbers.word_steps.Goals as goal

pub returns-clause-steps : goal.returns-clause-steps
returns-clause-steps c =
    let G = graph_of c.args.net.now in
    let i = c.args.place in
    let w = c.index-as_slice-place.result in
    let l = c.requires.within in
    let n = length-map G.words (λ (v : Word). v.at) in
    let is = c.index-as_slice-place.is ∙ ap (λ (q : List Word). get_or q i w) c.as_slice.ensures in
    steps_by G c.requires.net.ordered i (at G i) w c.as_slice-2.result.now l (omega arith) refl is (c.as_slice-2.ensures.value ∙ ap (λ (v : Word). v.steps.items) (sym c.index-as_slice-place.is))

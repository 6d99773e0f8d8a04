use Rattle.std.proofs.Common.{List, get_or, ap, ◌∙◌, sym, arith}
use Rattle.std.proofs.lemmas.List.{length-map}
use Rattle.loop_data.specs.declared.graph.Word.{Word}
use Rattle.loop_shapes.specs.Net.{graph_of}
use Rattle.loop_shapes.proofs.Programs.{steps_by, no_steps}
use Rattle.loop_shapes.proofs.program.steps_of.Goals as goal

pub returns-in-Some : goal.returns-in-Some
returns-in-Some c =
    let G = graph_of c.args.net.now in
    let i = c.in-Some.place in
    let w = c.index-as_slice-place.result in
    let l = c.in-Some.ensures.found.0 in
    let n = length-map G.words (λ (v : Word). v.at) in
    let is = c.index-as_slice-place.is ∙ ap (λ (q : List Word). get_or q i w) c.as_slice.ensures in
    steps_by G c.requires.ordered i c.args.x w c.as_slice-in-Some.result.now l (omega arith) c.in-Some.ensures.found.1 is (c.as_slice-in-Some.ensures.value ∙ ap (λ (v : Word). v.steps.items) (sym c.index-as_slice-place.is))

pub returns-in-None : goal.returns-in-None
returns-in-None c = no_steps (graph_of c.args.net.now) c.args.x c.in-None.ensures.none

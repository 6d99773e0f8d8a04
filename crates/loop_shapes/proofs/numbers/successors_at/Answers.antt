use Rattle.loop_shapes.specs.Net.{graph_of}
use Rattle.loop_shapes.specs.Places.{at}
use Rattle.loop_shapes.proofs.Numbering.{leads_to}
use Rattle.loop_shapes.proofs.numbers.successors_at.Goals as goal

pub returns : goal.returns
returns c j =
    let G = graph_of c.args.net.now in
    let steps = c.word_steps-steps.result.now in
    let exact = c.word_steps-steps.ensures.steps (at G j) in
    let t = leads_to G c.requires.net.ordered steps (record { first = c.step_at.result; second = c.step_at-2.result }) c.word_steps-steps.ensures.few (c.step_at.ensures.some, c.step_at.ensures.none) (c.step_at-2.ensures.some, c.step_at-2.ensures.none) j in
    (λ x. let p = t.0 x in (p.0, exact.0 p.1), λ p. t.1 (p.0, exact.1 p.1))

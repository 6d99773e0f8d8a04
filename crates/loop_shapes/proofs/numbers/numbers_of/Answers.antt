use Rattle.std.proofs.Common.{◌≡◌, length, refl, arith}
use Rattle.loop_shapes.specs.Net.{graph_of}
use Rattle.loop_shapes.specs.Places.{count_of}
use Rattle.loop_shapes.proofs.Numbering.{inside, numbers_by}
use Rattle.loop_shapes.proofs.numbers.numbers_of.Goals as goal

pub components-requires-clause-inside : goal.components-requires-clause-inside
components-requires-clause-inside c = inside (graph_of c.args.net.now) c.requires.net.ordered c.args.steps.now c.requires.steps

pub returns : goal.returns
returns c =
    let G = graph_of c.args.net.now in
    let all = c.in_ok-all.all in
    let m = c.requires.steps.count in
    let e : length all.items ≡ count_of G = omega (arith, c.in_ok-all.ensures.each, all.ok.0) in
    numbers_by G c.requires.net.ordered c.args.steps.now c.requires.steps c.args.steps.now all.items refl e c.in_ok-all.ensures.same

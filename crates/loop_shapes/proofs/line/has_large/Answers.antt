use Rattle.std.proofs.Common.{get_or, below_more}
use Rattle.std.proofs.lemmas.List.Elements.{Contains-get_or}
use Rattle.loop_data.specs.Bodies.{InPart}
use Rattle.loop_shapes.specs.Net.{graph_of}
use Rattle.loop_shapes.specs.Places.{at}
use Rattle.loop_data.specs.Sets.{HasAtMost}
use Rattle.loop_shapes.proofs.Parts.{part_small}
use Rattle.loop_shapes.proofs.Nests.{all_at}
use Rattle.loop_shapes.proofs.ListedLines.{small_by}
use Rattle.loop_shapes.proofs.line.has_large.Goals as goal

pub part-requires-clause-source : goal.part-requires-clause-source
part-requires-clause-source c = c.requires.row _ (Contains-get_or c.args.row.now c.loop-source.source-index 0 c.loop-source-test.true)

pub loop-source-preserved : goal.loop-source-preserved
loop-source-preserved c =
    let G = graph_of c.args.net.now in
    let u = get_or c.args.row.now c.loop-source.source-index 0 in
    below_more _ _ c.loop-source.invariant (small_by G c.args.header u c.part.new.set.found.items (part_small G c.args.header u c.part.new.set.found.items c.in_ok-part.field-0 c.if-not-branch.false c.in_ok-part.ensures.part))

pub returns : goal.returns
returns c =
    let G = graph_of c.args.net.now in
    all_at (λ i. HasAtMost 256 (InPart G (at G c.args.header) (at G i))) c.args.row.now c.loop-source.source-index c.loop-source-test.false c.loop-source.invariant

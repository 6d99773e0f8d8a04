use Rattle.std.proofs.Common.{[], List, sym, subst, arith}
use Rattle.loop_data.specs.declared.shape.LoopShape.{LoopShape}
use Rattle.loop_division.specs.Adding.{AreAdded}
use Rattle.loop_division.specs.Division.{IsTooLong}
use Rattle.loop_division.proofs.Added.{all_added, too_long}
use Rattle.loop_division.proofs.AllVerdicts.{chosen_parallel}
use Rattle.loop_division.proofs.division.divided.Goals as goal

pub add_stubs-requires-clause-parallel : goal.add_stubs-requires-clause-parallel
add_stubs-requires-clause-parallel c = rw c.as_slice-shapes.ensures.value
    (chosen_parallel c.args.elf.now c.args.verdicts.now.graph c.args.verdicts.now.shapes.items
    c.args.verdicts.now.all.items c.args.places.now c.requires.verdicts c.requires.chosen)

pub returns-then-count-gt-MOST_WORDS-clause-refused : goal.returns-then-count-gt-MOST_WORDS-clause-refused
returns-then-count-gt-MOST_WORDS-clause-refused c =
    let many = c.if-count-gt-MOST_WORDS.true in
    subst (IsTooLong c.args.elf.now) (sym c.from-words.ensures)
    (too_long c.args.elf.now c.args.verdicts.now.graph c.args.verdicts.now.shapes.items c.args.verdicts.now.all.items
    c.args.places.now c.in-Ok.added.entries.items c.in-Ok.added.code.items c.in-Ok.added.count c.requires.verdicts
    c.requires.chosen
    (subst (λ (shapes : List LoopShape). AreAdded c.args.elf.now c.args.verdicts.now.graph shapes c.args.places.now []
    c.in-Ok.added.entries.items c.in-Ok.added.code.items c.in-Ok.added.count) c.as_slice-shapes.ensures.value
    c.in-Ok.ensures)
    (omega arith))

pub returns-clause-division : goal.returns-clause-division
returns-clause-division c =
    let few = c.if-count-gt-MOST_WORDS.false in
    all_added c.args.elf.now c.args.verdicts.now.graph c.args.verdicts.now.shapes.items c.args.verdicts.now.all.items
    c.args.places.now c.in-Ok.added.entries.items c.in-Ok.added.code.items c.in-Ok.added.count c.requires.verdicts
    c.requires.chosen
    (subst (λ (shapes : List LoopShape). AreAdded c.args.elf.now c.args.verdicts.now.graph shapes c.args.places.now []
    c.in-Ok.added.entries.items c.in-Ok.added.code.items c.in-Ok.added.count) c.as_slice-shapes.ensures.value
    c.in-Ok.ensures)
    (omega arith)

use Rattle.loop_division.proofs.AllVerdicts.{headers_rise, few_loops}
use Rattle.loop_division.proofs.division.divide.Goals as goal

pub choose-requires-clause-ordered : goal.choose-requires-clause-ordered
choose-requires-clause-ordered c = rw c.as_slice.ensures.value
    (headers_rise c.args.elf.now c.in-Ok.verdicts.graph c.in-Ok.verdicts.shapes.items c.in-Ok.verdicts.all.items
    c.in-Ok.ensures.verdicts)

pub choose-requires-clause-few : goal.choose-requires-clause-few
choose-requires-clause-few c = rw c.as_slice.ensures.value
    (few_loops c.reached_words.ensures.code c.args.elf.now c.in-Ok.verdicts.graph c.in-Ok.verdicts.shapes.items
    c.in-Ok.verdicts.all.items c.requires c.in-Ok.ensures.verdicts)

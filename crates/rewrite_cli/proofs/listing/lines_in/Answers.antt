use Rattle.rewrite_cli.proofs.Commands.{too_many_reached, too_many_chosen}
use Rattle.rewrite_cli.proofs.listing.lines_in.Goals as goal

pub returns-in-Err-clause-refused : goal.returns-in-Err-clause-refused
returns-in-Err-clause-refused c = λ f. too_many_reached c.args.elf.now c.in-Err.status (c.in-Err.ensures.refused f)

pub choose-requires-clause-ordered : goal.choose-requires-clause-ordered
choose-requires-clause-ordered c = rw c.as_slice-all.ensures.value
    (c.verdicts_are_in_order.ensures c.args.elf.now c.in-Ok.verdicts.graph c.in-Ok.verdicts.shapes.items
    c.in-Ok.verdicts.all.items c.requires c.in-Ok.ensures.made).ascending

pub choose-requires-clause-few : goal.choose-requires-clause-few
choose-requires-clause-few c = rw c.as_slice-all.ensures.value
    (c.verdicts_are_in_order.ensures c.args.elf.now c.in-Ok.verdicts.graph c.in-Ok.verdicts.shapes.items
    c.in-Ok.verdicts.all.items c.requires c.in-Ok.ensures.made).few

pub returns-in-Err-TooManyLoops-clause-refused : goal.returns-in-Err-TooManyLoops-clause-refused
returns-in-Err-TooManyLoops-clause-refused c = λ f.
    rw c.in-Err-TooManyLoops.count-is
    (too_many_chosen c.args.elf.now c.in-Ok.verdicts.graph c.in-Ok.verdicts.shapes.items c.in-Ok.verdicts.all.items
    c.as_slice-all.result.now c.in-Err-TooManyLoops.field-0 c.in-Err-TooManyLoops.count c.as_slice-all.ensures.value
    c.in-Ok.ensures.made c.in-Err-TooManyLoops.field-0-is c.in-Err-TooManyLoops.ensures.refused)

pub lines_from-requires-clause-few : goal.lines_from-requires-clause-few
lines_from-requires-clause-few c = rw c.as_slice-all.ensures.value
    (c.verdicts_are_in_order.ensures c.args.elf.now c.in-Ok.verdicts.graph c.in-Ok.verdicts.shapes.items
    c.in-Ok.verdicts.all.items c.requires c.in-Ok.ensures.made).few

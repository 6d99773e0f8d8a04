use Rattle.std.proofs.Common.{ap, ◌∙◌}
use Rattle.turn_copies.specs.Copies.{word_size}
use Rattle.outliner.proofs.Copied.{cell_kind}
use Rattle.outliner.proofs.copies.word_size.Goals as goal

pub returns-in-Some-clause-value : goal.returns-in-Some-clause-value
returns-in-Some-clause-value c =
    c.access_size.ensures.value c.in-Some.field-0
    ∙ ap (λ kind. word_size kind c.args.i.now) (cell_kind c.args.leaving c.args.uses c.in-Some.field-0 c.if-leaving.false c.in-Some.is)

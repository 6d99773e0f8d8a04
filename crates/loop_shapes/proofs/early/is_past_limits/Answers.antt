use Rattle.std.proofs.Common.{◌≡◌, ◌<◌, true, false, length, get_or, ◌∙◌, sym, arith}
use Rattle.std.proofs.lemmas.List.{get_or_default}
use Rattle.loop_shapes.proofs.early.is_past_limits.Goals as goal

pub returns-clause-clean : goal.returns-clause-clean
returns-clause-clean c t =
    let flags = c.args.marks.now.crowded.items in
    let n = c.requires.marks.crowded.count in
    let l = c.requires.within in
    let fits : c.args.place < length flags = omega arith in
    let is : get_or flags c.args.place false ≡ true = sym (c.index.ensures ∙ get_or_default flags c.args.place c.index.result.now false fits) ∙ c.if-not-index.false in
    c.is_clean.ensures t c.requires.header (c.requires.marks.crowded.each c.args.place c.requires.within is).short

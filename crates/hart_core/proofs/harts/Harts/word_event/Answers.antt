use Rattle.std.proofs.Common.{sym, ◌∙◌}
use Rattle.hart_core.proofs.Happening.{unknown_acts, illegal_keeps}
use Rattle.hart_core.proofs.harts.Harts.word_event.Goals as goal

pub returns-in-None-clause-acts : goal.returns-in-None-clause-acts
returns-in-None-clause-acts g c =
    let at = c.requires.goes in
    unknown_acts c.args.k at.hart c.args.self.now c.illegal_event.new.self _ _ _ _ at.running at.stands at.stub c.args.word
    (c.requires.stands at.hart at.stands) (sym c.decode_x.ensures.value ∙ c.in-None.is) (c.illegal_event.ensures at.hart at.stands)

pub returns-in-None-clause-keeps : goal.returns-in-None-clause-keeps
returns-in-None-clause-keeps g c =
    let at = c.requires.goes in
    illegal_keeps c.args.k at.hart c.args.self.now c.illegal_event.new.self _ _ _ _ at.running at.stands at.stub c.args.word
    (c.illegal_event.ensures at.hart at.stands)

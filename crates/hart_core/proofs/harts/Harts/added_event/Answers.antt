use Rattle.hart_core.proofs.Happening.{outside_acts, illegal_keeps}
use Rattle.hart_core.proofs.Parts.{no_word}
use Rattle.hart_core.proofs.harts.Harts.added_event.Goals as goal

pub returns-in-None-clause-acts : goal.returns-in-None-clause-acts
returns-in-None-clause-acts g c =
    let at = c.requires.goes in
    outside_acts c.args.k at.hart c.args.self.now c.illegal_event.new.self _ _ _ _ at.running at.stands at.stub
    (no_word c.args.k c.args.self.now at.hart at.stands _ c.self.view_is c.index.result.now c.index.ensures
    c.as_slice.result.now c.as_slice.ensures c.pc-pc.result c.pc-pc.ensures c.added_at.result c.added_at.ensures c.in-None.is)
    (c.illegal_event.ensures at.hart at.stands)

pub returns-in-None-clause-keeps : goal.returns-in-None-clause-keeps
returns-in-None-clause-keeps g c =
    let at = c.requires.goes in
    illegal_keeps c.args.k at.hart c.args.self.now c.illegal_event.new.self _ _ _ _ at.running at.stands at.stub 0
    (c.illegal_event.ensures at.hart at.stands)

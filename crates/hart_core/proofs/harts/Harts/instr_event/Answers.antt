use Rattle.std.proofs.Common.{◌≡◌, Some, ap, sym, ◌∙◌}
use Rattle.rv64_decode.specs.declared.xinstr.XInstr.{XInstr}
use Rattle.rv64_decode.specs.declared.xinstr.XInstr.TheVariants.{Par, Join, Back}
use Rattle.hart_core.proofs.Happening.{added_acts, added_keeps, alone_acts, alone_keeps}
use Rattle.hart_core.proofs.harts.Harts.instr_event.Goals as goal

pub returns-in-Put-clause-acts : goal.returns-in-Put-clause-acts
returns-in-Put-clause-acts g c =
    let at = c.requires.goes in
    alone_acts c.args.k at.hart c.args.self.now c.alone_event.new.self _ _ _ _ at.running at.stands at.stub c.args.i _ c.in-Put.is tt
    c.args.word (c.requires.stands at.hart at.stands) c.requires.is (c.alone_event.ensures at.hart at.stands)

pub returns-in-Put-clause-keeps : goal.returns-in-Put-clause-keeps
returns-in-Put-clause-keeps g c =
    let at = c.requires.goes in
    alone_keeps c.args.k at.hart c.args.self.now c.alone_event.new.self _ _ _ _ at.running at.stands at.stub c.args.i
    (c.alone_event.ensures at.hart at.stands)

pub returns-in-Get-clause-acts : goal.returns-in-Get-clause-acts
returns-in-Get-clause-acts g c =
    let at = c.requires.goes in
    alone_acts c.args.k at.hart c.args.self.now c.alone_event-in-Get.new.self _ _ _ _ at.running at.stands at.stub c.args.i _ c.in-Get.is tt
    c.args.word (c.requires.stands at.hart at.stands) c.requires.is (c.alone_event-in-Get.ensures at.hart at.stands)

pub returns-in-Get-clause-keeps : goal.returns-in-Get-clause-keeps
returns-in-Get-clause-keeps g c =
    let at = c.requires.goes in
    alone_keeps c.args.k at.hart c.args.self.now c.alone_event-in-Get.new.self _ _ _ _ at.running at.stands at.stub c.args.i
    (c.alone_event-in-Get.ensures at.hart at.stands)

pub returns-in-Id-clause-acts : goal.returns-in-Id-clause-acts
returns-in-Id-clause-acts g c =
    let at = c.requires.goes in
    alone_acts c.args.k at.hart c.args.self.now c.alone_event-in-Id.new.self _ _ _ _ at.running at.stands at.stub c.args.i _ c.in-Id.is tt
    c.args.word (c.requires.stands at.hart at.stands) c.requires.is (c.alone_event-in-Id.ensures at.hart at.stands)

pub returns-in-Id-clause-keeps : goal.returns-in-Id-clause-keeps
returns-in-Id-clause-keeps g c =
    let at = c.requires.goes in
    alone_keeps c.args.k at.hart c.args.self.now c.alone_event-in-Id.new.self _ _ _ _ at.running at.stands at.stub c.args.i
    (c.alone_event-in-Id.ensures at.hart at.stands)

pub returns-in-Harts-clause-acts : goal.returns-in-Harts-clause-acts
returns-in-Harts-clause-acts g c =
    let at = c.requires.goes in
    alone_acts c.args.k at.hart c.args.self.now c.alone_event-in-Harts.new.self _ _ _ _ at.running at.stands at.stub c.args.i _ c.in-Harts.is tt
    c.args.word (c.requires.stands at.hart at.stands) c.requires.is (c.alone_event-in-Harts.ensures at.hart at.stands)

pub returns-in-Harts-clause-keeps : goal.returns-in-Harts-clause-keeps
returns-in-Harts-clause-keeps g c =
    let at = c.requires.goes in
    alone_keeps c.args.k at.hart c.args.self.now c.alone_event-in-Harts.new.self _ _ _ _ at.running at.stands at.stub c.args.i
    (c.alone_event-in-Harts.ensures at.hart at.stands)

pub returns-in-Par-clause-acts : goal.returns-in-Par-clause-acts
returns-in-Par-clause-acts g c =
    let at = c.requires.goes in
    added_acts c.args.k at.hart c.args.self.now c.par_event.new.self _ _ _ _ at.running at.stands at.stub Par c.args.word
    (c.requires.stands at.hart at.stands) (c.requires.is ∙ ap (λ (j : XInstr). Some j) c.in-Par.is) tt
    (c.par_event.ensures at.hart at.stands)

pub returns-in-Par-clause-keeps : goal.returns-in-Par-clause-keeps
returns-in-Par-clause-keeps g c =
    let at = c.requires.goes in
    added_keeps c.args.k at.hart c.args.self.now c.par_event.new.self _ _ _ _ at.running at.stands at.stub Par c.args.word
    (c.par_event.ensures at.hart at.stands)

pub returns-in-Join-clause-acts : goal.returns-in-Join-clause-acts
returns-in-Join-clause-acts g c =
    let at = c.requires.goes in
    added_acts c.args.k at.hart c.args.self.now c.join_event.new.self _ _ _ _ at.running at.stands at.stub Join c.args.word
    (c.requires.stands at.hart at.stands) (c.requires.is ∙ ap (λ (j : XInstr). Some j) c.in-Join.is) tt
    (c.join_event.ensures at.hart at.stands)

pub returns-in-Join-clause-keeps : goal.returns-in-Join-clause-keeps
returns-in-Join-clause-keeps g c =
    let at = c.requires.goes in
    added_keeps c.args.k at.hart c.args.self.now c.join_event.new.self _ _ _ _ at.running at.stands at.stub Join c.args.word
    (c.join_event.ensures at.hart at.stands)

pub returns-in-Back-clause-acts : goal.returns-in-Back-clause-acts
returns-in-Back-clause-acts g c =
    let at = c.requires.goes in
    added_acts c.args.k at.hart c.args.self.now c.back_event.new.self _ _ _ _ at.running at.stands at.stub Back c.args.word
    (c.requires.stands at.hart at.stands) (c.requires.is ∙ ap (λ (j : XInstr). Some j) c.in-Back.is) tt
    (c.back_event.ensures at.hart at.stands)

pub returns-in-Back-clause-keeps : goal.returns-in-Back-clause-keeps
returns-in-Back-clause-keeps g c =
    let at = c.requires.goes in
    added_keeps c.args.k at.hart c.args.self.now c.back_event.new.self _ _ _ _ at.running at.stands at.stub Back c.args.word
    (c.back_event.ensures at.hart at.stands)

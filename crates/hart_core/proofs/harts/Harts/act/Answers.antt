use Rattle.std.proofs.Common.{false, ap}
use Rattle.hart_core.specs.declared.seat.Mode.{Mode as Activity}
use Rattle.hart_core.specs.Events.{goes}
use Rattle.hart_core.specs.Shown.{mode_of}
use Rattle.hart_core.proofs.Parts.{effective_is, idle_acts}
use Rattle.hart_core.proofs.harts.Harts.act.Goals as goal

pub returns-in-Waiting-clause-acts : goal.returns-in-Waiting-clause-acts
returns-in-Waiting-clause-acts g c =
    idle_acts c.args.k c.args.self.now c.requires.running c.requires.within _ c.self.view_is c.index.result.now c.index.ensures
    (mode_of c.mode.result) c.mode.ensures (ap (λ (a : Activity). goes (mode_of a)) c.in-Waiting.is) _ _ _ _

pub returns-in-Waiting-clause-effective : goal.returns-in-Waiting-clause-effective
returns-in-Waiting-clause-effective g c =
    effective_is c.args.k c.args.self.now c.requires.running c.requires.within _ c.self.view_is c.index.result.now c.index.ensures
    (mode_of c.mode.result) c.mode.ensures false (ap (λ (a : Activity). goes (mode_of a)) c.in-Waiting.is)

pub returns-in-Idle-clause-acts : goal.returns-in-Idle-clause-acts
returns-in-Idle-clause-acts g c =
    idle_acts c.args.k c.args.self.now c.requires.running c.requires.within _ c.self.view_is c.index.result.now c.index.ensures
    (mode_of c.mode.result) c.mode.ensures (ap (λ (a : Activity). goes (mode_of a)) c.in-Idle.is) _ _ _ _

pub returns-in-Idle-clause-effective : goal.returns-in-Idle-clause-effective
returns-in-Idle-clause-effective g c =
    effective_is c.args.k c.args.self.now c.requires.running c.requires.within _ c.self.view_is c.index.result.now c.index.ensures
    (mode_of c.mode.result) c.mode.ensures false (ap (λ (a : Activity). goes (mode_of a)) c.in-Idle.is)

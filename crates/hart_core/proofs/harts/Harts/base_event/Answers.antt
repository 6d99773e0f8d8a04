use Rattle.std.proofs.Common.{refl}
use Rattle.hart_core.specs.Shown.{place_of}
use Rattle.hart_core.proofs.Parts.{base_whole, base_never, whole_keeps}
use Rattle.hart_core.proofs.harts.Harts.base_event.Goals as goal

pub returns-clause-acts : goal.returns-clause-acts
returns-clause-acts g c =
    let old = c.self.inside in
    base_whole c.args.k c.args.self.now old.seats.items c.as_slice.result.now old.machine old.image old.loops.items (place_of old.place)
    c.self.view_is c.as_slice.ensures.value c.load.new.m c.load.ensures
    c.args.i c.requires.goes c.requires.stands c.execute_base.new.m _ _ _ _ _ _ _ _ c.execute_base.ensures.acts
    c.settle_base.new.seats.items (place_of c.next_of-self-inside.result) c.settle_base.ensures.settled c.next_of-self-inside.ensures

pub returns-clause-keeps : goal.returns-clause-keeps
returns-clause-keeps g c =
    let old = c.self.inside in
    let at = c.requires.goes in
    whole_keeps c.args.k c.args.self.now old.seats.items c.as_slice.result.now old.machine old.image old.loops.items (place_of old.place)
    c.self.view_is c.as_slice.ensures.value c.load.new.m c.load.ensures
    at.hart at.stands _ c.execute_base.new.m refl _ _ _ _ _ _ _ _ c.execute_base.ensures.keeps

pub returns-clause-takes_nothing : goal.returns-clause-takes_nothing
returns-clause-takes_nothing g c = λ never.
    let old = c.self.inside in
    c.execute_base.ensures.takes_nothing
    (base_never c.args.k c.args.self.now old.seats.items c.as_slice.result.now old.machine old.image old.loops.items (place_of old.place)
    c.self.view_is c.as_slice.ensures.value c.load.new.m c.load.ensures 63 c.args.i c.requires.goes c.requires.stands never)

pub returns-clause-sends_nothing : goal.returns-clause-sends_nothing
returns-clause-sends_nothing g c = λ never.
    let old = c.self.inside in
    c.execute_base.ensures.sends_nothing
    (base_never c.args.k c.args.self.now old.seats.items c.as_slice.result.now old.machine old.image old.loops.items (place_of old.place)
    c.self.view_is c.as_slice.ensures.value c.load.new.m c.load.ensures 64 c.args.i c.requires.goes c.requires.stands never)

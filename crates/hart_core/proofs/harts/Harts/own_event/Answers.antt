use Rattle.std.proofs.Common.{refl}
use Rattle.hart_core.specs.Shown.{place_of}
use Rattle.hart_core.proofs.Parts.{own_whole, own_never, whole_keeps}
use Rattle.hart_core.proofs.harts.Harts.own_event.Goals as goal

pub returns-clause-acts : goal.returns-clause-acts
returns-clause-acts g c =
    let old = c.self.inside in
    own_whole c.args.k c.args.self.now old.seats.items c.as_slice.result.now old.machine old.image old.loops.items (place_of old.place)
    c.self.view_is c.as_slice.ensures.value c.load.new.m c.load.ensures
    c.requires.goes c.step_serial.new.m _ _ _ _ _ _ _ _ c.step_serial.ensures.acts
    c.as_slice-2.result.now c.as_slice-2.ensures c.find_arrival-found.result c.find_arrival-found.ensures
    (place_of c.place_at.result) c.place_at.ensures
    c.settle_own.new.seats.items c.count_arrival.new.loops.items (place_of c.next_of-self-inside.result)
    c.settle_own.ensures.settled c.count_arrival.ensures c.next_of-self-inside.ensures

pub returns-clause-keeps : goal.returns-clause-keeps
returns-clause-keeps g c =
    let old = c.self.inside in
    let at = c.requires.goes in
    whole_keeps c.args.k c.args.self.now old.seats.items c.as_slice.result.now old.machine old.image old.loops.items (place_of old.place)
    c.self.view_is c.as_slice.ensures.value c.load.new.m c.load.ensures
    at.hart at.stands _ c.step_serial.new.m refl _ _ _ _ _ _ _ _ c.step_serial.ensures.keeps

pub returns-clause-takes_nothing : goal.returns-clause-takes_nothing
returns-clause-takes_nothing g c = λ never.
    let old = c.self.inside in
    c.step_serial.ensures.takes_nothing
    (own_never c.args.k c.args.self.now old.seats.items c.as_slice.result.now old.machine old.image old.loops.items (place_of old.place)
    c.self.view_is c.as_slice.ensures.value c.load.new.m c.load.ensures 63 c.requires.goes never)

pub returns-clause-sends_nothing : goal.returns-clause-sends_nothing
returns-clause-sends_nothing g c = λ never.
    let old = c.self.inside in
    c.step_serial.ensures.sends_nothing
    (own_never c.args.k c.args.self.now old.seats.items c.as_slice.result.now old.machine old.image old.loops.items (place_of old.place)
    c.self.view_is c.as_slice.ensures.value c.load.new.m c.load.ensures 64 c.requires.goes never)

use Rattle.std.proofs.Common.{ℕ, inl, refl, sym, subst}
use Rattle.std.specs.declared.vec.Vec.{Vec}
use Rattle.std.specs.declared.alloc.Global.{Global}
use Rattle.loop_data.specs.Bodies.{IsHeader, InBody}
use Rattle.loop_data.specs.Early.{IsSmallNest}
use Rattle.loop_shapes.specs.Gains.{HasAll}
use Rattle.loop_data.specs.Loops.{AreLevels}
use Rattle.loop_shapes.specs.Net.{AreAt}
use Rattle.loop_shapes.specs.Outer.{IsClean}
use Rattle.loop_shapes.specs.Places.{at}
use Rattle.loop_shapes.specs.Program.{program_graph}
use Rattle.loop_data.specs.Sets.{IsListOf, HasAtMost}
use Rattle.loop_data.specs.Shape.{InNest}
use Rattle.loop_shapes.proofs.Answered.{passed, failed, at_some, at_none}
use Rattle.loop_shapes.proofs.Flagged.{short_by}
use Rattle.loop_shapes.proofs.Headers.{nest_in_order}
use Rattle.loop_shapes.proofs.LevelLists.{limit_loop, sound_loop}
use Rattle.loop_shapes.proofs.Unsound.{body_there}
use Rattle.loop_shapes.proofs.levels.loop_at.Goals as goal

pub returns-then-is_past_limits-clause-is : goal.returns-then-is_past_limits-clause-is
returns-then-is_past_limits-clause-is c =
    let G = program_graph c.args.program.now in
    let h = c.address_of-header.result in
    let is = c.address_of-header.ensures in
    let own = subst (IsHeader G) (sym is) c.requires.header in
    let clean = subst (IsClean G) (sym is) (c.is_past_limits.ensures.clean c.if-is_past_limits.true) in
    let many = subst (λ (x : ℕ). ¬ IsSmallNest G x) (sym is) (c.is_past_limits.ensures.many c.if-is_past_limits.true) in
    let j = c.judged.ensures in
    limit_loop G h c.judged.result own j.header j.early j.levels (clean.plain, clean.shaped) many

pub returns-in_default-2-clause-is : goal.returns-in_default-2-clause-is
returns-in_default-2-clause-is c =
    let G = program_graph c.args.program.now in
    let h = c.address_of-header.result in
    let is = c.address_of-header.ensures in
    let own = subst (IsHeader G) (sym is) c.requires.header in
    let found = c.find_body.new.set.found.items in
    let there = body_there c.in_ok-find_body.field-0 G (at G c.args.place) found c.if-not-branch.false c.in_ok-find_body.ensures.body in
    let body = subst (λ (x : ℕ). AreAt G (InBody G x) found) (sym is) there.1 in
    let many = at_none (¬ HasAtMost 4 (InNest G h)) (λ (v : Vec ℕ Global). HasAll (InNest G h) v.items) c.in_ok-headers.field-0 c.in_default-2.is (c.in_ok-headers.ensures h body) in
    let j = c.judged-in_default-2.ensures in
    limit_loop G h c.judged-in_default-2.result own j.header j.early j.levels c.in_default.ensures (λ s. many s.loops)

pub returns-then-not-branch-2-clause-is : goal.returns-then-not-branch-2-clause-is
returns-then-not-branch-2-clause-is c =
    let G = program_graph c.args.program.now in
    let h = c.address_of-header.result in
    let is = c.address_of-header.ensures in
    let own = subst (IsHeader G) (sym is) c.requires.header in
    let found = c.find_body.new.set.found.items in
    let there = body_there c.in_ok-find_body.field-0 G (at G c.args.place) found c.if-not-branch.false c.in_ok-find_body.ensures.body in
    let body = subst (λ (x : ℕ). AreAt G (InBody G x) found) (sym is) there.1 in
    let all = at_some (¬ HasAtMost 4 (InNest G h)) (λ (v : Vec ℕ Global). HasAll (InNest G h) v.items) c.in_ok-headers.field-0 c.in-Some-2.headers c.in-Some-2.is (c.in_ok-headers.ensures h body) in
    let nest = nest_in_order G h c.in-Some-2.headers.items c.in_order-nest.result.items all c.in_order-nest.ensures in
    let j = c.judged-then-not-branch-2.ensures in
    limit_loop G h c.judged-then-not-branch-2.result own j.header j.early j.levels c.in_default.ensures (failed c.in_ok-is_small_nest.field-0 (c.in_ok-is_small_nest.ensures h (subst (IsListOf (InNest G h)) (sym c.as_slice.ensures.value) nest)) c.if-not-branch-2.true)

pub levels_of-requires-clause-nest : goal.levels_of-requires-clause-nest
levels_of-requires-clause-nest c =
    let G = program_graph c.args.program.now in
    let h = c.address_of-header.result in
    let is = c.address_of-header.ensures in
    let own = subst (IsHeader G) (sym is) c.requires.header in
    let found = c.find_body.new.set.found.items in
    let there = body_there c.in_ok-find_body.field-0 G (at G c.args.place) found c.if-not-branch.false c.in_ok-find_body.ensures.body in
    let body = subst (λ (x : ℕ). AreAt G (InBody G x) found) (sym is) there.1 in
    let all = at_some (¬ HasAtMost 4 (InNest G h)) (λ (v : Vec ℕ Global). HasAll (InNest G h) v.items) c.in_ok-headers.field-0 c.in-Some-2.headers c.in-Some-2.is (c.in_ok-headers.ensures h body) in
    let nest = nest_in_order G h c.in-Some-2.headers.items c.in_order-nest.result.items all c.in_order-nest.ensures in
    record { root = h; is = subst (IsListOf (InNest G h)) (sym c.as_slice-2.ensures.value) nest; shaped = c.in_default.ensures.1; small = passed c.in_ok-is_small_nest.field-0 (c.in_ok-is_small_nest.ensures h (subst (IsListOf (InNest G h)) (sym c.as_slice.ensures.value) nest)) c.if-not-branch-2.false }

pub levels_of-requires-clause-is : goal.levels_of-requires-clause-is
levels_of-requires-clause-is c =
    let G = program_graph c.args.program.now in
    let h = c.address_of-header.result in
    let is = c.address_of-header.ensures in
    let own = subst (IsHeader G) (sym is) c.requires.header in
    let found = c.find_body.new.set.found.items in
    let there = body_there c.in_ok-find_body.field-0 G (at G c.args.place) found c.if-not-branch.false c.in_ok-find_body.ensures.body in
    let body = subst (λ (x : ℕ). AreAt G (InBody G x) found) (sym is) there.1 in
    let all = at_some (¬ HasAtMost 4 (InNest G h)) (λ (v : Vec ℕ Global). HasAll (InNest G h) v.items) c.in_ok-headers.field-0 c.in-Some-2.headers c.in-Some-2.is (c.in_ok-headers.ensures h body) in
    let nest = nest_in_order G h c.in-Some-2.headers.items c.in_order-nest.result.items all c.in_order-nest.ensures in
    subst (IsListOf (InNest G h)) (sym c.as_slice-2.ensures.value) nest

pub levels_of-requires-clause-among : goal.levels_of-requires-clause-among
levels_of-requires-clause-among c =
    let G = program_graph c.args.program.now in
    let h = c.address_of-header.result in
    let is = c.address_of-header.ensures in
    let own = subst (IsHeader G) (sym is) c.requires.header in
    let found = c.find_body.new.set.found.items in
    let there = body_there c.in_ok-find_body.field-0 G (at G c.args.place) found c.if-not-branch.false c.in_ok-find_body.ensures.body in
    let body = subst (λ (x : ℕ). AreAt G (InBody G x) found) (sym is) there.1 in
    let all = at_some (¬ HasAtMost 4 (InNest G h)) (λ (v : Vec ℕ Global). HasAll (InNest G h) v.items) c.in_ok-headers.field-0 c.in-Some-2.headers c.in-Some-2.is (c.in_ok-headers.ensures h body) in
    let nest = nest_in_order G h c.in-Some-2.headers.items c.in_order-nest.result.items all c.in_order-nest.ensures in
    let list = subst (IsListOf (InNest G h)) (sym c.as_slice-2.ensures.value) nest in
    list.every h (record { header = own; inside = record { source = own.source; closed = own.closed; part = inl refl } })

pub returns-clause-is : goal.returns-clause-is
returns-clause-is c =
    let G = program_graph c.args.program.now in
    let h = c.address_of-header.result in
    let is = c.address_of-header.ensures in
    let own = subst (IsHeader G) (sym is) c.requires.header in
    let found = c.find_body.new.set.found.items in
    let there = body_there c.in_ok-find_body.field-0 G (at G c.args.place) found c.if-not-branch.false c.in_ok-find_body.ensures.body in
    let body = subst (λ (x : ℕ). AreAt G (InBody G x) found) (sym is) there.1 in
    let all = at_some (¬ HasAtMost 4 (InNest G h)) (λ (v : Vec ℕ Global). HasAll (InNest G h) v.items) c.in_ok-headers.field-0 c.in-Some-2.headers c.in-Some-2.is (c.in_ok-headers.ensures h body) in
    let nest = nest_in_order G h c.in-Some-2.headers.items c.in_order-nest.result.items all c.in_order-nest.ensures in
    sound_loop G h _ own refl refl (subst (AreLevels G h) (sym c.new.ensures) c.in_ok-levels.ensures) c.in_default.ensures (passed c.in_ok-is_small_nest.field-0 (c.in_ok-is_small_nest.ensures h (subst (IsListOf (InNest G h)) (sym c.as_slice.ensures.value) nest)) c.if-not-branch-2.false)

pub early_verdict-requires-clause-clean : goal.early_verdict-requires-clause-clean
early_verdict-requires-clause-clean c t =
    let G = program_graph c.args.program.now in
    let x = at G c.args.place in
    let there = body_there c.in_ok-find_body.field-0 G x c.find_body.new.set.found.items c.if-not-branch.false c.in_ok-find_body.ensures.body in
    subst (IsClean G) (sym c.address_of-header.ensures) (c.is_clean-clean.ensures t c.requires.header (short_by G (InBody G x) c.find_body.new.set.found.items there.1 there.0))

use Rattle.std.proofs.Common.{◌≡◌, ℕ, List, length, sym, subst, arith}
use Rattle.std.specs.List.{Contains}
use Rattle.loop_data.specs.Bodies.{IsHeader, InBody}
use Rattle.loop_data.specs.Sets.{IsListOf}
use Rattle.loop_data.specs.Shape.{IsShaped}
use Rattle.loop_shapes.specs.LoopBody.{HasOwnShapeAt}
use Rattle.loop_shapes.specs.Net.{AreAt, IsAmong}
use Rattle.loop_shapes.specs.Places.{at}
use Rattle.loop_shapes.specs.Program.{program_graph}
use Rattle.loop_shapes.proofs.AddressLists.{set_list, not_unshaped, nest_word, shape_there}
use Rattle.loop_shapes.proofs.Answered.{at_some, at_none}
use Rattle.loop_shapes.proofs.LevelLists.{few_round}
use Rattle.loop_shapes.proofs.Unsound.{shaped_small, body_there, body_large}
use Rattle.loop_shapes.proofs.levels.level.Goals as goal

pub unreachable-requires : goal.unreachable-requires
unreachable-requires c = c.in_default.ensures.none (nest_word (program_graph c.args.program.now) c.args.nest.now c.args.x c.requires.nest c.requires.among)

pub find_body-requires-clause-header : goal.find_body-requires-clause-header
find_body-requires-clause-header c = subst (IsHeader (program_graph c.args.program.now)) (sym c.in-Some.ensures.found.1) (c.requires.nest.is.each c.args.x c.requires.among).header

pub unreachable-requires-then-not-branch : goal.unreachable-requires-then-not-branch
unreachable-requires-then-not-branch c =
    let G = program_graph c.args.program.now in
    let x = at G c.in-Some.place in
    let large = body_large c.in_ok-find_body.field-0 G x c.find_body.new.set.found.items c.if-not-branch.true c.in_ok-find_body.ensures.body in
    not_unshaped G c.args.nest.now x c.requires.nest (subst (Contains c.args.nest.now) (sym c.in-Some.ensures.found.1) c.requires.among) (λ s. large (shaped_small G x s))

pub unreachable-requires-in_default-2 : goal.unreachable-requires-in_default-2
unreachable-requires-in_default-2 c =
    let G = program_graph c.args.program.now in
    let x = at G c.in-Some.place in
    not_unshaped G c.args.nest.now x c.requires.nest (subst (Contains c.args.nest.now) (sym c.in-Some.ensures.found.1) c.requires.among) (at_none (¬ IsShaped G x) (HasOwnShapeAt G x) c.in_ok-shape.field-0 c.in_default-2.is c.in_ok-shape.ensures)

pub addresses_at-requires-clause-within : goal.addresses_at-requires-clause-within
addresses_at-requires-clause-within c i m =
    let G = program_graph c.args.program.now in
    let b = body_there c.in_ok-find_body.field-0 G (at G c.in-Some.place) c.find_body.new.set.found.items c.if-not-branch.false c.in_ok-find_body.ensures.body in
    (b.1.each i (subst (λ (xs : List ℕ). Contains xs i) c.deref.ensures.value m)).0

pub overflow_cast-depth : goal.overflow_cast-depth
overflow_cast-depth c =
    let round = c.in_ok-round.round in
    let s = c.requires.nest in
    let few = few_round (program_graph c.args.program.now) c.args.nest.now round.items c.args.x s c.requires.among (c.in_ok-round.ensures s.root s.is) in
    omega (arith, c.len-depth.ensures, round.ok.0)

pub returns-clause-level : goal.returns-clause-level
returns-clause-level c h is =
    let G = program_graph c.args.program.now in
    let x = c.args.x in
    let there = at G c.in-Some.place in
    let found = c.find_body.new.set.found.items in
    let round = c.in_ok-round.round in
    let n : length round.items ≡ c.len-depth.result = omega (arith, c.len-depth.ensures, round.ok.0) in
    let s = at_some (¬ IsShaped G there) (HasOwnShapeAt G there) c.in_ok-shape.field-0 c.in-Some-2.shape c.in-Some-2.is c.in_ok-shape.ensures in
    let b = body_there c.in_ok-find_body.field-0 G there found c.if-not-branch.false c.in_ok-find_body.ensures.body in
    let words = subst (λ (z : ℕ). AreAt G (InBody G z) found) c.in-Some.ensures.found.1 b.1 in
    let list = subst (λ (xs : List ℕ). IsListOf (IsAmong G xs) c.in_ok-body.body.items) c.deref.ensures.value c.in_ok-body.ensures in
    record {
      shape = shape_there G there x c.address_of.result c.address_of-2.result c.in-Some-2.shape s c.in-Some.ensures.found.1 c.address_of.ensures c.address_of-2.ensures;
      body = subst (IsListOf (InBody G x)) (sym c.new.ensures) (set_list G (InBody G x) found c.in_ok-body.body.items words list);
      depth = record { members = round.items; are = c.in_ok-round.ensures h is; count = n };
    }

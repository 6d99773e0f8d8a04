use Rattle.std.proofs.lemmas.Bool.{false≢true}
use Rattle.loop_data.specs.Bodies.{InBody}
use Rattle.loop_shapes.specs.Places.{at}
use Rattle.loop_shapes.specs.Program.{program_graph}
use Rattle.loop_shapes.proofs.Flagged.{short_by}
use Rattle.loop_shapes.proofs.OuterLoops.{under_acyclic}
use Rattle.loop_shapes.proofs.Unsound.{shaped_small, body_there, body_large}
use Rattle.loop_shapes.proofs.nest.flags_at.Goals as goal

pub returns-then-not-is_header_at-clause-shaped : goal.returns-then-not-is_header_at-clause-shaped
returns-then-not-is_header_at-clause-shaped c = (λ t. absurd (false≢true t), λ s. absurd (false≢true (c.if-not-is_header_at.ensures.1 (record { source = s.back; closed = s.shape.one_back.closed }))))

pub returns-then-not-branch-clause-shaped : goal.returns-then-not-branch-clause-shaped
returns-then-not-branch-clause-shaped c =
    let G = program_graph c.args.program.now in
    let x = at G c.args.place in
    let large = body_large c.in_ok-find_body.field-0 G x c.find_body.new.set.found.items c.if-not-branch.true c.in_ok-find_body.ensures.body in
    (λ t. absurd (false≢true t), λ s. absurd (large (shaped_small G x s)))

pub own_shape_at-requires-clause-known : goal.own_shape_at-requires-clause-known
own_shape_at-requires-clause-known c t =
    let G = program_graph c.args.program.now in
    under_acyclic G c.requires.program.net.from_starts c.args.acyclic.now (at G c.args.place) (c.is_under-known.ensures t) c.requires.acyclic

pub returns-in-Some-clause-crowded : goal.returns-in-Some-clause-crowded
returns-in-Some-clause-crowded c t =
    let G = program_graph c.args.program.now in
    let x = at G c.args.place in
    let found = c.find_body.new.set.found.items in
    let there = body_there c.in_ok-find_body.field-0 G x found c.if-not-branch.false c.in_ok-find_body.ensures.body in
    record { short = short_by G (InBody G x) found there.1 there.0; loops = c.in_ok-crowded.ensures x there.1 t }

pub returns-in-None-clause-crowded : goal.returns-in-None-clause-crowded
returns-in-None-clause-crowded c t =
    let G = program_graph c.args.program.now in
    let x = at G c.args.place in
    let found = c.find_body.new.set.found.items in
    let there = body_there c.in_ok-find_body.field-0 G x found c.if-not-branch.false c.in_ok-find_body.ensures.body in
    record { short = short_by G (InBody G x) found there.1 there.0; loops = c.in_ok-crowded.ensures x there.1 t }

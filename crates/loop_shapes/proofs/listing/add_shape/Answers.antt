use Rattle.loop_shapes.specs.Below.{IsUnlisted, IsListedAt}
use Rattle.loop_shapes.specs.Places.{at}
use Rattle.loop_shapes.specs.Program.{program_graph}
use Rattle.loop_shapes.proofs.Answered.{at_some, at_none}
use Rattle.loop_shapes.proofs.Listings.{below_push, below_skip}
use Rattle.loop_shapes.proofs.listing.add_shape.Goals as goal

pub returns-in_ok-push-in-Some : goal.returns-in_ok-push-in-Some
returns-in_ok-push-in-Some c =
    let G = program_graph c.args.program.now in
    let x = at G c.args.place in
    below_push G c.requires.program.net.ordered c.args.place c.requires.within c.args.all.now.items c.push.new.self.items c.in-Some.shape c.in_ok-push-in-Some.ensures.items (at_some (IsUnlisted G x) (IsListedAt G x) c.in_ok-shape.field-0 c.in-Some.shape c.in-Some.is c.in_ok-shape.ensures) c.requires.below

pub returns-in-None : goal.returns-in-None
returns-in-None c =
    let G = program_graph c.args.program.now in
    let x = at G c.args.place in
    below_skip G c.args.place c.args.all.now.items (at_none (IsUnlisted G x) (IsListedAt G x) c.in_ok-shape.field-0 c.in-None.is c.in_ok-shape.ensures) c.requires.below

use Rattle.std.proofs.Common.{◌≤◌, length, ap, sym, subst, arith}
use Rattle.loop_shapes.specs.Below.{AreLoopsBelow}
use Rattle.loop_shapes.specs.Numbers.{AreNodes}
use Rattle.loop_shapes.specs.Places.{count_of}
use Rattle.loop_shapes.specs.Program.{program_graph}
use Rattle.loop_shapes.proofs.Listings.{below_none, below_all}
use Rattle.loop_shapes.proofs.listing.shapes_of.Goals as goal

pub numbers_of-requires-clause-steps : goal.numbers_of-requires-clause-steps
numbers_of-requires-clause-steps c = subst (AreNodes (program_graph c.args.program.now)) (sym c.as_slice.ensures.value) c.requires.program.next

pub loop-place-init : goal.loop-place-init
loop-place-init c =
    let G = program_graph c.args.program.now in
    subst (AreLoopsBelow G 0) (sym c.new-all.ensures.items) (below_none G)

pub returns : goal.returns
returns c =
    let G = program_graph c.args.program.now in
    let n = ap length c.requires.program.net.addresses_are in
    let t = c.loop-place-test.false in
    let v = c.args.program.now.net.at in
    let le : count_of G ≤ c.loop-place.place = omega (arith, v.ok.0, c.len-place-end.ensures) in
    below_all G c.loop-place.place c.loop-place.all.items le c.loop-place.invariant

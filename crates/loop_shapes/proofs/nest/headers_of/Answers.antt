use Rattle.std.proofs.Common.{◌<◌, ℕ, List, length, sym, subst, arith}
use Rattle.std.proofs.lemmas.List.Elements.{Contains-get_or}
use Rattle.loop_data.specs.Bodies.{InBody}
use Rattle.loop_shapes.specs.Net.{AreAt}
use Rattle.loop_shapes.specs.Places.{count_of}
use Rattle.loop_shapes.specs.Program.{program_graph}
use Rattle.loop_shapes.specs.Search.{IsIndexed}
use Rattle.loop_shapes.proofs.Headers.{headers_none, headers_more, headers_many, headers_all}
use Rattle.loop_shapes.proofs.Searches.{within_slots}
use Rattle.loop_shapes.proofs.nest.headers_of.Goals as goal

pub add_header-requires-clause-within : goal.add_header-requires-clause-within
add_header-requires-clause-within c =
    let s = c.requires.set in
    let places = c.as_slice-place-items.result.now in
    within_slots (count_of (program_graph c.args.program.now)) places c.args.set.now.slots.items s.count (subst (λ (xs : List ℕ). IsIndexed xs c.args.set.now.slots.items) (sym c.as_slice-place-items.ensures.value) s.indexed) _ (Contains-get_or places c.loop-place.place-index 0 c.loop-place-test.true)

pub loop-place-init : goal.loop-place-init
loop-place-init c = headers_none (program_graph c.args.program.now) c.new-all.result.items c.new-all.ensures.items

pub loop-place-preserved : goal.loop-place-preserved
loop-place-preserved c =
    let G = program_graph c.args.program.now in
    let s = c.requires.set in
    let places = c.as_slice-place-items.result.now in
    let slots = c.args.set.now.slots.items in
    let indexed = subst (λ (xs : List ℕ). IsIndexed xs slots) (sym c.as_slice-place-items.ensures.value) s.indexed in
    headers_more G c.requires.program.net.ordered places slots indexed (within_slots (count_of G) places slots s.count indexed) c.loop-place.place-index c.loop-place-test.true c.loop-place.all.items c.add_header.new.all.items c.loop-place.invariant c.in_ok-add_header.ensures

pub returns-then-len-gt-LOOPS : goal.returns-then-len-gt-LOOPS
returns-then-len-gt-LOOPS c h b =
    let G = program_graph c.args.program.now in
    let s = c.requires.set in
    let places = c.as_slice-place-items.result.now in
    let slots = c.args.set.now.slots.items in
    let same = sym c.as_slice-place-items.ensures.value in
    let indexed = subst (λ (xs : List ℕ). IsIndexed xs slots) same s.indexed in
    let t = c.if-len-gt-LOOPS.true in
    let more : 4 < length c.loop-place.all.items = omega (arith, c.len.ensures, c.loop-place.all.ok.0) in
    headers_many G c.requires.program.net.ordered places slots indexed (within_slots (count_of G) places slots s.count indexed) c.loop-place.place-index c.loop-place-test.true h c.loop-place.all.items (subst (AreAt G (InBody G h)) same b) c.loop-place.invariant more

pub returns : goal.returns
returns c h b =
    let G = program_graph c.args.program.now in
    headers_all G c.as_slice-place-items.result.now c.loop-place.place-index c.loop-place.all.items c.loop-place-test.false c.loop-place.invariant h (subst (AreAt G (InBody G h)) (sym c.as_slice-place-items.ensures.value) b)

use Rattle.std.proofs.Common.{◌++◌, List, ℕ, length, map, ap, ◌∙◌, subst, arith}
use Rattle.std.specs.List.{Contains, slice_index}
use Rattle.loop_data.specs.Bodies.{InPart}
use Rattle.loop_shapes.specs.Net.{graph_of}
use Rattle.loop_shapes.specs.Places.{at}
use Rattle.loop_shapes.proofs.Parts.{part_small}
use Rattle.loop_shapes.proofs.Unions.{more_part, part_from_more}
use Rattle.loop_shapes.proofs.Choices.{listed}
use Rattle.loop_shapes.proofs.entry.part_list.Goals as goal

pub push_addresses-requires : goal.push_addresses-requires
push_addresses-requires c i m =
    let p = part_small (graph_of c.args.net.now) c.args.header c.args.source c.part.new.set.found.items c.in_ok-part.field-0 c.if-not-branch.false c.in_ok-part.ensures.part in
    let l = (p.1.each i (subst (λ (xs : List ℕ). Contains xs i) c.deref.ensures.value m)).0 in
    let e = ap length (c.as_slice.ensures.value ∙ c.requires.net.addresses_are) in
    omega arith

pub returns : goal.returns
returns c =
    let G = graph_of c.args.net.now in
    let h = c.args.header in
    let u = c.args.source in
    let found = c.part.new.set.found.items in
    let p = part_small G h u found c.in_ok-part.field-0 c.if-not-branch.false c.in_ok-part.ensures.part in
    let here = c.as_slice.ensures.value ∙ c.requires.net.addresses_are in
    let old = c.new-all.result.items in
    let same = ap (λ (xs : List ℕ). old ++ map (slice_index xs) c.deref.result.now) here ∙ ap (λ (xs : List ℕ). old ++ map (at G) xs) c.deref.ensures.value in
    let all = c.push_addresses.new.all.items in
    listed (InPart G (at G h) (at G u)) all c.in_order.result.items (part_from_more (InPart G (at G h) (at G u)) old all c.new-all.ensures.items (more_part G h u found old all p (c.in_ok-push_addresses.ensures ∙ same))) c.in_order.ensures

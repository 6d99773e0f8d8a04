use Rattle.std.proofs.Common.{◌++◌, List, ℕ, length, map, ap, ◌∙◌, subst, arith}
use Rattle.std.specs.List.{Contains, slice_index}
use Rattle.std.proofs.lemmas.Result.{on_ok_weaker}
use Rattle.loop_shapes.specs.Net.{graph_of}
use Rattle.loop_shapes.specs.Places.{at}
use Rattle.loop_shapes.proofs.Parts.{part_small}
use Rattle.loop_shapes.proofs.Unions.{more_part}
use Rattle.loop_shapes.proofs.body.add_part.Goals as goal

pub push_addresses-requires : goal.push_addresses-requires
push_addresses-requires c i m =
    let p = part_small (graph_of c.args.net.now) c.args.header c.args.source c.part.new.set.found.items c.in_ok-part.field-0 c.if-not-branch.false c.in_ok-part.ensures.part in
    let l = (p.1.each i (subst (λ (xs : List ℕ). Contains xs i) c.deref.ensures.value m)).0 in
    let e = ap length (c.as_slice.ensures.value ∙ c.requires.net.addresses_are) in
    omega arith

pub returns : goal.returns
returns c =
    let G = graph_of c.args.net.now in
    let found = c.part.new.set.found.items in
    let p = part_small G c.args.header c.args.source found c.in_ok-part.field-0 c.if-not-branch.false c.in_ok-part.ensures.part in
    let here = c.as_slice.ensures.value ∙ c.requires.net.addresses_are in
    let same = ap (λ (xs : List ℕ). c.args.all.now.items ++ map (slice_index xs) c.deref.result.now) here ∙ ap (λ (xs : List ℕ). c.args.all.now.items ++ map (at G) xs) c.deref.ensures.value in
    on_ok_weaker c.push_addresses.result (λ e. more_part G c.args.header c.args.source found c.args.all.now.items c.push_addresses.new.all.items p (e ∙ same)) c.push_addresses.ensures

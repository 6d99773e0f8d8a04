use Rattle.std.proofs.Common.{ℕ, List, ◌++◌, length, map, ap, ◌∙◌, arith}
use Rattle.std.specs.List.{slice_index}
use Rattle.loop_shapes.specs.Net.{graph_of}
use Rattle.loop_shapes.proofs.AddressLists.{among_list}
use Rattle.loop_shapes.proofs.body.addresses_at.Goals as goal

pub push_addresses-requires : goal.push_addresses-requires
push_addresses-requires c i m =
    let l = c.requires.within i m in
    let e = ap length (c.as_slice.ensures.value ∙ c.requires.net.addresses_are) in
    omega arith

pub returns : goal.returns
returns c =
    let G = graph_of c.args.net.now in
    let here = c.as_slice.ensures.value ∙ c.requires.net.addresses_are in
    let e = c.in_ok-push_addresses.ensures ∙ ap (λ (xs : List ℕ). xs ++ map (slice_index c.as_slice.result.now) c.args.places.now) c.new-all.ensures.items ∙ ap (λ (xs : List ℕ). map (slice_index xs) c.args.places.now) here in
    among_list G c.args.places.now c.push_addresses.new.all.items c.in_order.result.items e c.in_order.ensures

use Rattle.std.proofs.Common.{◌<◌, List, ℕ, length, get_or, ap, ◌∙◌, arith}
use Rattle.std.proofs.lemmas.List.{get_or_default}
use Rattle.loop_shapes.proofs.net.address_of.Goals as goal

pub index-requires : goal.index-requires
index-requires c =
    let same = ap length c.requires.net.addresses_are in
    let l = c.requires.within in
    omega (arith, c.args.net.now.at.ok.0)

pub returns : goal.returns
returns c =
    let xs = c.args.net.now.at.items in
    let same = ap length c.requires.net.addresses_are in
    let l = c.requires.within in
    let m : c.args.place < length xs = omega arith in
    c.index.ensures ∙ get_or_default xs c.args.place c.index.result.now 0 m ∙ ap (λ (ys : List ℕ). get_or ys c.args.place 0) c.requires.net.addresses_are

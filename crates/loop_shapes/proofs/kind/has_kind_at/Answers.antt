use Rattle.std.proofs.Common.{◌<◌, ◌∙◌, ℕ, length, get_or, sym, subst, arith}
use Rattle.std.proofs.lemmas.List.{get_or_default}
use Rattle.loop_shapes.specs.declared.kind.Class.{Class}
use Rattle.loop_shapes.specs.declared.kind.Class.TheVariants.{Jump, Nothing}
use Rattle.loop_shapes.specs.Class.{HasPairing, IsWordOfClass}
use Rattle.loop_shapes.specs.Net.{graph_of}
use Rattle.loop_shapes.specs.Places.{at}
use Rattle.loop_shapes.proofs.Classes.{kind_says}
use Rattle.loop_shapes.proofs.kind.has_kind_at.Goals as goal

pub returns : goal.returns
returns c =
    let G = graph_of c.args.net.now in
    let place = c.args.place in
    let classes = c.args.classes.now in
    let n = c.requires.classes.count in
    let w = c.requires.within in
    let l : place < length classes = omega arith in
    let class = get_or classes place (Jump 0) in
    let is : IsWordOfClass G (at G place) class = subst (IsWordOfClass G (at G place)) (get_or_default classes place Nothing (Jump 0) l) (c.requires.classes.each place w) in
    kind_says G c.requires.net.ordered (at G place) c.args.kind class c.pairing.result c.does.result is (subst (λ (x : ℕ). HasPairing G x class c.pairing.result) c.address_of-x.ensures c.pairing.ensures) c.does.ensures

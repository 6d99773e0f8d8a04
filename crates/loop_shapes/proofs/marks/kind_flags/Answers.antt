use Rattle.std.proofs.Common.{◌≡◌, ◌<◌, ℕ, length, ap, sym, ◌∙◌, subst, arith}
use Rattle.loop_shapes.specs.Kinds.{HasKind}
use Rattle.loop_shapes.specs.Net.{graph_of}
use Rattle.loop_shapes.specs.Places.{at, count_of}
use Rattle.loop_shapes.proofs.Nests.{flags_push}
use Rattle.loop_shapes.proofs.marks.kind_flags.Goals as goal

pub loop-place-preserved : goal.loop-place-preserved
loop-place-preserved c =
    let G = graph_of c.args.net.now in
    flags_push (λ i. HasKind c.args.kind G (at G i)) c.loop-place.all.items c.has_kind_at.result c.loop-place.place c.push.new.self.items c.in_ok-push.ensures.items c.loop-place.invariant c.has_kind_at.ensures

pub returns : goal.returns
returns c =
    let G = graph_of c.args.net.now in
    let inv = c.loop-place.invariant in
    let n = ap length c.requires.net.addresses_are in
    let l = c.loop-place.auto.place-end in
    let t = c.loop-place-test.false in
    let v = c.args.net.now.at in
    let e : c.loop-place.place ≡ count_of G = omega (arith, v.ok.0, c.len-place-end.ensures) in
    record { count = inv.0 ∙ e; each = λ i m. inv.1 i (subst (λ (k : ℕ). i < k) (sym e) m) }

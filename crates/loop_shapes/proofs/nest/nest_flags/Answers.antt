use Rattle.std.proofs.Common.{◌≡◌, ◌<◌, ℕ, length, ap, sym, ◌∙◌, subst, arith}
use Rattle.loop_shapes.specs.Outer.{IsCrowded}
use Rattle.loop_shapes.specs.Places.{at, count_of}
use Rattle.loop_shapes.specs.Program.{program_graph}
use Rattle.loop_data.specs.Shape.{IsShaped}
use Rattle.loop_shapes.proofs.Nests.{flags_push}
use Rattle.loop_shapes.proofs.OuterLoops.{known_push, known_all}
use Rattle.loop_shapes.proofs.nest.nest_flags.Goals as goal

pub loop-place-preserved : goal.loop-place-preserved
loop-place-preserved c =
    let G = program_graph c.args.program.now in
    (flags_push (λ i. IsShaped G (at G i)) c.loop-place.shaped.items c.in_ok-flags.flags.0 c.loop-place.place c.push.new.self.items c.in_ok-push.ensures.items c.loop-place.invariant.0 c.in_ok-flags.ensures.shaped, known_push G (IsCrowded G) c.loop-place.place c.loop-place.crowded.items c.push-in-loop-place.new.self.items c.in_ok-flags.flags.1 c.in_ok-push-2.ensures.items c.in_ok-flags.ensures.crowded c.loop-place.invariant.1)

pub returns : goal.returns
returns c =
    let G = program_graph c.args.program.now in
    let inv = c.loop-place.invariant.0 in
    let n = ap length c.requires.program.net.addresses_are in
    let l = c.loop-place.auto.place-end in
    let t = c.loop-place-test.false in
    let v = c.args.program.now.net.at in
    let e : c.loop-place.place ≡ count_of G = omega (arith, v.ok.0, c.len-place-end.ensures) in
    record { shaped = record { count = inv.0 ∙ e; each = λ i m. inv.1 i (subst (λ (k : ℕ). i < k) (sym e) m) }; crowded = known_all G (IsCrowded G) c.loop-place.place c.loop-place.crowded.items e c.loop-place.invariant.1 }

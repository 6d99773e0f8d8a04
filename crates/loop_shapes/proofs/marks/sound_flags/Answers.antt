use Rattle.std.proofs.Common.{◌≡◌, length, ap, arith}
use Rattle.loop_shapes.specs.Outer.{IsSound}
use Rattle.loop_shapes.specs.Places.{count_of}
use Rattle.loop_shapes.specs.Program.{program_graph}
use Rattle.loop_shapes.proofs.OuterLoops.{known_none, known_push, known_all}
use Rattle.loop_shapes.proofs.marks.sound_flags.Goals as goal

pub loop-place-init : goal.loop-place-init
loop-place-init c =
    let G = program_graph c.args.program.now in
    known_none G (IsSound G) c.new-all.result.items c.new-all.ensures.items

pub loop-place-preserved : goal.loop-place-preserved
loop-place-preserved c =
    let G = program_graph c.args.program.now in
    known_push G (IsSound G) c.loop-place.place c.loop-place.all.items c.push.new.self.items c.in_ok-is_sound_outer.field-0 c.in_ok-push.ensures.items c.in_ok-is_sound_outer.ensures c.loop-place.invariant

pub returns : goal.returns
returns c =
    let G = program_graph c.args.program.now in
    let n = ap length c.requires.program.net.addresses_are in
    let l = c.loop-place.auto.place-end in
    let t = c.loop-place-test.false in
    let v = c.args.program.now.net.at in
    let e : c.loop-place.place ≡ count_of G = omega (arith, v.ok.0, c.len-place-end.ensures) in
    known_all G (IsSound G) c.loop-place.place c.loop-place.all.items e c.loop-place.invariant

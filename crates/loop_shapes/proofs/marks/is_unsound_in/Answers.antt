use Rattle.std.proofs.Common.{refl}
use Rattle.std.proofs.lemmas.Bool.{false≢true}
use Rattle.loop_shapes.specs.Places.{at}
use Rattle.loop_shapes.specs.Program.{program_graph}
use Rattle.loop_shapes.proofs.OuterLoops.{under_sound}
use Rattle.loop_shapes.proofs.marks.is_unsound_in.Goals as goal

pub returns-then-is_under : goal.returns-then-is_under
returns-then-is_under c =
    let G = program_graph c.args.program.now in
    (λ t. absurd (false≢true t), λ n. absurd (under_sound G c.requires.program.net.from_starts c.args.sound.now (at G c.args.place) (c.if-is_under.ensures refl) c.requires.sound n))

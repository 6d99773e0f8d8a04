use Rattle.std.proofs.Common.{ℕ, Some, subst}
use Rattle.loop_data.specs.Bodies.{IsHeader}
use Rattle.loop_shapes.specs.Places.{at, count_of}
use Rattle.loop_shapes.specs.Program.{program_graph}
use Rattle.loop_shapes.proofs.Rounds.{read_entry, same_test}
use Rattle.loop_shapes.proofs.outer.is_outer.Goals as goal

pub returns-in-Some : goal.returns-in-Some
returns-in-Some c t =
    let G = program_graph c.args.program.now in
    let a = c.requires.program.around.outermost in
    let o = c.in-Some.outer in
    let e = read_entry c.args.program.now.around.outermost.items c.args.place (count_of G) c.index.result.now (Some o) c.requires.within a.count c.index.ensures c.in-Some.is in
    let b = (a.some c.args.place o c.requires.within e).holds in
    let same = (same_test o c.args.place).0 t in
    subst (λ (i : ℕ). IsHeader G (at G i)) same (record { source = b.source; closed = b.closed })

use Rattle.std.proofs.Common.{Some, sym, ◌∙◌, arith}
use Rattle.loop_shapes.specs.Places.{count_of}
use Rattle.loop_shapes.specs.Program.{program_graph}
use Rattle.loop_shapes.proofs.Rounds.{read_entry}
use Rattle.loop_shapes.proofs.outer.is_under.Goals as goal

pub flag_at-requires : goal.flag_at-requires
flag_at-requires c =
    let G = program_graph c.args.program.now in
    let a = c.requires.program.around.outermost in
    let e = read_entry c.args.program.now.around.outermost.items c.args.place (count_of G) c.index.result.now (Some c.in-Some.outer) c.requires.within a.count c.index.ensures c.in-Some.is in
    let l = (a.some c.args.place c.in-Some.outer c.requires.within e).place in
    let n = c.requires.count in
    omega arith

pub returns-in-Some : goal.returns-in-Some
returns-in-Some c t =
    let G = program_graph c.args.program.now in
    let a = c.requires.program.around.outermost in
    let e = read_entry c.args.program.now.around.outermost.items c.args.place (count_of G) c.index.result.now (Some c.in-Some.outer) c.requires.within a.count c.index.ensures c.in-Some.is in
    let r = a.some c.args.place c.in-Some.outer c.requires.within e in
    record { place = c.in-Some.outer; within = r.place; set = sym c.flag_at.ensures ∙ t; holds = r.order }

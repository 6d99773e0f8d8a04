use Rattle.std.proofs.Common.{arith}
use Rattle.loop_data.specs.LoopCode.{code_of}
use Rattle.loop_data.specs.Lookups.{cell_map, form_at}
use Rattle.affine_addresses.proofs.AccessLists.{has_room, access_more, least_irregular, all_accesses}
use Rattle.affine_addresses.proofs.list.accesses_of.Goals as goal

pub add_access-requires-clause-room : goal.add_access-requires-clause-room
add_access-requires-clause-room c =
    has_room (code_of c.args.graph.now (cell_map c.args.cells.now)) c.args.body.now c.loop-i.i _ c.loop-i-test.true c.loop-i.invariant.count c.requires.room

pub loop-i-preserved : goal.loop-i-preserved
loop-i-preserved c =
    access_more c.args.levels.now c.args.body.now (code_of c.args.graph.now (cell_map c.args.cells.now)) (form_at c.args.points.now) c.requires.ordered c.loop-i.i c.loop-i-test.true c.loop-i.list.items c.add_access.new.list.items c.in-Ok.ensures.added c.loop-i.invariant

pub returns-clause-accesses : goal.returns-clause-accesses
returns-clause-accesses c =
    all_accesses c.args.levels.now c.args.body.now (code_of c.args.graph.now (cell_map c.args.cells.now)) (form_at c.args.points.now) c.loop-i.i c.loop-i.list.items (let e = c.loop-i-test.false in let f = c.loop-i.auto.i-end in omega arith) c.loop-i.invariant

pub returns-in-Err-clause-irregular : goal.returns-in-Err-clause-irregular
returns-in-Err-clause-irregular c =
    let r = c.in-Err.ensures.refused in
    least_irregular c.args.levels.now c.args.body.now (code_of c.args.graph.now (cell_map c.args.cells.now)) (form_at c.args.points.now) c.requires.ordered c.loop-i.i c.loop-i-test.true c.loop-i.list.items c.in-Err.error.at r.0 r.1 c.loop-i.invariant

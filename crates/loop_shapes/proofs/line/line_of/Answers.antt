use Rattle.std.proofs.Common.{ℕ, subst}
use Rattle.loop_shapes.specs.Net.{graph_of}
use Rattle.loop_shapes.specs.Places.{at}
use Rattle.loop_data.specs.Listed.{HasVerdict}
use Rattle.loop_shapes.proofs.ListedLines.{no_edges, limit_line, entry_line, some_large, all_small}
use Rattle.loop_shapes.proofs.line.line_of.Goals as goal

pub returns-in_default : goal.returns-in_default
returns-in_default c = no_edges (graph_of c.args.net.now) c.args.header c.args.row.now c.requires.row c.in_default.ensures

pub has_large-requires-clause-row : goal.has_large-requires-clause-row
has_large-requires-clause-row c i m = (c.requires.row.each i m).0

pub returns-then-branch : goal.returns-then-branch
returns-then-branch c = limit_line (graph_of c.args.net.now) c.args.header c.args.row.now c.requires.row (some_large (graph_of c.args.net.now) c.args.header c.args.row.now c.in_ok-has_large.field-0 c.if-branch.true c.in_ok-has_large.ensures) c.address_of-at.result c.address_of-at.ensures

pub part_list-requires-clause-source : goal.part_list-requires-clause-source
part_list-requires-clause-source c = (c.requires.row.each c.in-Some.source c.in-Some.ensures.holds).0

pub returns : goal.returns
returns c =
    let G = graph_of c.args.net.now in
    let h = c.args.header in
    let s = c.in-Some.source in
    let v = c.in_ok-entry_of.field-0 in
    let small = all_small G h c.args.row.now c.in_ok-has_large.field-0 c.if-branch.false c.in_ok-has_large.ensures in
    let verdict = subst (λ (q : ℕ). HasVerdict G (at G h) q v) c.address_of-from.ensures (subst (λ (q : ℕ). HasVerdict G q c.address_of-from.result v) c.address_of-at.ensures c.in_ok-entry_of.ensures) in
    entry_line G c.requires.net.ordered h c.args.row.now c.requires.row s c.in-Some.ensures small v verdict

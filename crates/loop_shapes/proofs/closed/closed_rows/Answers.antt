use Rattle.std.proofs.Common.{◌≡◌, ◌<◌, ◌+◌, ℕ, List, ◌≤◌, length, true, false, ap, sym, subst, arith}
use Rattle.std.specs.declared.vec.Vec.{Vec}
use Rattle.std.specs.declared.alloc.Global.{Global}
use Rattle.loop_shapes.specs.Net.{graph_of}
use Rattle.loop_shapes.specs.Places.{count_of}
use Rattle.loop_shapes.proofs.Rounds.{rounds_all}
use Rattle.loop_shapes.proofs.ClosedRows.{rows_more}
use Rattle.loop_shapes.proofs.closed.closed_rows.Goals as goal
use Rattle.loop_shapes.specs.Lines.{IsRowOf}
use Rattle.loop_data.specs.Bodies.{IsClosed}
use Rattle.loop_data.specs.Flows.{row_at, rows}

pub loop-header-preserved : goal.loop-header-preserved
loop-header-preserved c = (
  subst (λ (vs : List (Vec ℕ Global)). (length (rows vs) ≡ c.loop-header.header + 1) × ((j : ℕ) → j < c.loop-header.header + 1 → IsRowOf (graph_of c.args.net.now) (IsClosed (graph_of c.args.net.now)) j (row_at (rows vs) j))) (sym c.in_ok-push.ensures.items)
      (rows_more (IsRowOf (graph_of c.args.net.now) (IsClosed (graph_of c.args.net.now))) c.loop-header.all.items c.in_ok-closed_row.field-0 c.loop-header.header c.loop-header.invariant.0 c.in_ok-closed_row.ensures.closed),
  c.in_ok-closed_row.ensures.around,
)

pub returns-clause-around : goal.returns-clause-around
returns-clause-around c =
    let G = graph_of c.args.net.now in
    let n = c.requires.net in
    let e = ap length n.addresses_are in
    let t = c.loop-header-test.false in
    let v = c.args.net.now.at in
    let le : count_of G ≤ c.loop-header.header = omega (arith, v.ok.0, c.len-header-end.ensures) in
    let a = c.loop-header.invariant.1 in
    record { innermost = rounds_all G n.from_starts n.ordered true c.loop-header.header c.loop-header.around.innermost.items le a.innermost; outermost = rounds_all G n.from_starts n.ordered false c.loop-header.header c.loop-header.around.outermost.items le a.outermost }

use Rattle.std.proofs.Common.{◌≡◌, ◌<◌, ◌+◌, ℕ, List, length, ap, ◌∙◌, sym, subst, arith}
use Rattle.std.specs.declared.vec.Vec.{Vec}
use Rattle.std.specs.declared.alloc.Global.{Global}
use Rattle.loop_data.specs.Listed.{IsListed}
use Rattle.loop_shapes.specs.Lines.{IsRowOf}
use Rattle.loop_shapes.specs.Places.{count_of}
use Rattle.loop_shapes.specs.Program.{program_graph}
use Rattle.loop_shapes.proofs.ClosedRows.{rows_more}
use Rattle.loop_shapes.proofs.listed.listed_rows.Goals as goal
use Rattle.loop_data.specs.Flows.{row_at, rows}

pub loop-to-preserved : goal.loop-to-preserved
loop-to-preserved c =
    let G = program_graph c.args.program.now in
    subst (λ (vs : List (Vec ℕ Global)). (length (rows vs) ≡ c.loop-to.to + 1) × ((g : ℕ) → g < c.loop-to.to + 1 → IsRowOf G (IsListed G) g (row_at (rows vs) g))) (sym c.in_ok-push.ensures.items) (rows_more (IsRowOf G (IsListed G)) c.loop-to.all.items c.in_ok-listed_row.field-0 c.loop-to.to c.loop-to.invariant c.in_ok-listed_row.ensures)

pub returns : goal.returns
returns c =
    let G = program_graph c.args.program.now in
    let inv = c.loop-to.invariant in
    let n = ap length c.requires.program.net.addresses_are in
    let l = c.loop-to.auto.to-end in
    let t = c.loop-to-test.false in
    let v = c.args.program.now.net.at in
    let e : c.loop-to.to ≡ count_of G = omega (arith, v.ok.0, c.len-to-end.ensures) in
    record { count = inv.0 ∙ e; each = λ g m. inv.1 g (subst (λ (k : ℕ). g < k) (sym e) m) }

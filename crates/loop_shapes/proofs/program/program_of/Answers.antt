use Rattle.std.proofs.Common.{◌≡◌, None, List, ℕ, length, replicate, true, false, ap, ◌∙◌, subst, arith}
use Rattle.std.specs.List.{Contains}
use Rattle.std.specs.declared.vec.Vec.{Vec}
use Rattle.std.specs.declared.alloc.Global.{Global}
use Rattle.strong_components.specs.declared.graph.Successors.{Successors}
use Rattle.loop_shapes.specs.Net.{graph_of}
use Rattle.loop_shapes.specs.Open.{AreCut}
use Rattle.loop_shapes.proofs.Cutting.{open_by}
use Rattle.loop_shapes.proofs.Parts.{row_within}
use Rattle.loop_shapes.specs.Places.{count_of}
use Rattle.loop_shapes.proofs.Rounds.{no_rounds}
use Rattle.loop_shapes.proofs.program.program_of.Goals as goal
use Rattle.loop_data.specs.Flows.{row_at, rows}

pub closed_rows-requires-clause-around : goal.closed_rows-requires-clause-around
closed_rows-requires-clause-around c =
    let G = graph_of c.args.net in
    let e = ap length c.requires.net.addresses_are in
    let n : c.len.result ≡ count_of G = omega (arith, c.args.net.at.ok.0, c.len.ensures) in
    let a = c.in_ok-around.ensures in
    record { innermost = no_rounds G true _ (a.innermost ∙ ap (λ (k : ℕ). replicate k None) n); outermost = no_rounds G false _ (a.outermost ∙ ap (λ (k : ℕ). replicate k None) n) }

pub without-requires : goal.without-requires
without-requires c a b m =
    let G = graph_of c.args.net in
    let h = c.in_ok-closed.ensures.closed in
    let x = subst (λ (vs : List (Vec ℕ Global)). Contains (row_at (rows vs) b) a) c.as_slice-4.ensures.value m in
    let l = row_within (rows c.in_ok-closed.closed.items) b a x in
    let n = h.count in
    let k = ((h.each b (omega arith)).each a x).0 in
    let q = c.in_ok-next.ensures.count in
    let e = ap (λ (vs : List Successors). length vs) c.as_slice-3.ensures.value in
    omega arith

pub returns-clause-program : goal.returns-clause-program
returns-clause-program c =
    let G = graph_of c.args.net in
    let cut = subst (λ (vs : List (Vec ℕ Global)). AreCut (rows vs) c.in_ok-next.next.items c.in_ok-open_next.open_next.items) c.as_slice-4.ensures.value (subst (λ (vs : List Successors). AreCut (rows c.as_slice-4.result.now) vs c.in_ok-open_next.open_next.items) c.as_slice-3.ensures.value c.in_ok-open_next.ensures) in
    record { net = c.requires.net; closed = c.in_ok-closed.ensures.closed; around = c.in_ok-closed.ensures.around; next = c.in_ok-next.ensures; open_edges = open_by G (rows c.in_ok-closed.closed.items) c.in_ok-next.next.items c.in_ok-open_next.open_next.items c.in_ok-next.ensures c.in_ok-closed.ensures.closed cut; astray = c.in_ok-astray.ensures }

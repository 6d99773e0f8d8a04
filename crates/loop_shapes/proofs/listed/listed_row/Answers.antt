use Rattle.std.proofs.Common.{ℕ, List, [], get_or, refl, ap, sym, ◌∙◌, subst}
use Rattle.std.specs.List.{Contains}
use Rattle.std.specs.declared.vec.Vec.{Vec}
use Rattle.std.specs.declared.alloc.Global.{Global}
use Rattle.std.proofs.lemmas.Bool.{false≢true}
use Rattle.std.proofs.lemmas.List.Elements.{Contains-get_or}
use Rattle.loop_shapes.specs.Gains.{Gained}
use Rattle.loop_shapes.specs.Program.{program_graph}
use Rattle.loop_shapes.proofs.Gains.{Among, gained_none, gained_more}
use Rattle.loop_shapes.proofs.ListedRows.{Chosen, none_listed, listed_by}
use Rattle.loop_shapes.proofs.listed.listed_row.Goals as goal
use Rattle.loop_data.specs.Flows.{row_at, rows}

pub add_listed-requires-clause-from : goal.add_listed-requires-clause-from
add_listed-requires-clause-from c =
    let s = c.requires.program.net.sources in
    let same = c.row-from-items.ensures ∙ ap (λ (vs : List (Vec ℕ Global)). row_at (rows vs) c.args.to) c.as_slice.ensures.value in
    let x = get_or c.row-from-items.result.now c.loop-from.from-index 0 in
    let l = (s.each c.args.to x (subst (λ (xs : List ℕ). Contains xs x) same (Contains-get_or c.row-from-items.result.now c.loop-from.from-index 0 c.loop-from-test.true))).0 in
    l

pub loop-from-init : goal.loop-from-init
loop-from-init c = subst (λ (zs : List ℕ). Gained (Among (Chosen (program_graph c.args.program.now) c.args.numbers.now c.args.to) []) [] zs) (sym c.new-all.ensures.items) (gained_none (Chosen (program_graph c.args.program.now) c.args.numbers.now c.args.to) [])

pub loop-from-preserved : goal.loop-from-preserved
loop-from-preserved c = gained_more (Chosen (program_graph c.args.program.now) c.args.numbers.now c.args.to) c.row-from-items.result.now c.loop-from.from-index [] c.loop-from.all.items c.add_listed.new.row.items c.loop-from-test.true c.loop-from.invariant c.in_ok-add_listed.ensures

pub returns : goal.returns
returns c =
    let G = program_graph c.args.program.now in
    let n = c.requires.program.net in
    let same = c.row-from-items.ensures ∙ ap (λ (vs : List (Vec ℕ Global)). row_at (rows vs) c.args.to) c.as_slice.ensures.value in
    listed_by G n.ordered (rows c.args.program.now.net.before.items) n.sources c.args.numbers.now c.requires.numbers c.args.to c.requires.within (λ h. false≢true (c.if-is_header_at.ensures.1 h)) c.row-from-items.result.now same c.loop-from.from-index c.loop-from-test.false c.loop-from.all.items c.loop-from.invariant

pub returns-then-is_header_at : goal.returns-then-is_header_at
returns-then-is_header_at c = none_listed (program_graph c.args.program.now) c.args.to c.new-all.result.items c.new-all.ensures.items (c.if-is_header_at.ensures.0 refl)

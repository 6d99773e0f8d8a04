use Rattle.std.proofs.Common.{◌∙◌, ◌||◌, false, get_or, ap, ℕ, Option, List}
use Rattle.rv64_decode.specs.declared.instr.Instr.{Instr}
use Rattle.loop_data.specs.Locations.{instr_writes}
use Rattle.loop_data.specs.LoopCode.{code_of, instr_among}
use Rattle.loop_data.specs.Lookups.{cell_map, use_of}
use Rattle.loop_data.proofs.ValueFills.{writes_more}
use Rattle.loop_data.proofs.value_places.mark_body.Goals as goal

pub loop-u-preserved : goal.loop-u-preserved
loop-u-preserved c r l =
    let i = c.loop-u.u-index in
    let u = get_or c.args.body.now i 0 in
    let old = get_or c.loop-u.flags r false in
    writes_more (code_of c.args.graph.now (cell_map c.args.cells.now)) c.args.body.now i r (get_or c.args.flags.now r false) old (get_or c.mark_word.new.flags r false) c.loop-u-test.true (c.loop-u.invariant r l)
    (c.mark_word.ensures r l ∙ ap (λ (j : Option Instr). old || instr_writes j c.use_at.result r) c.instr_next.ensures ∙ ap (λ (k : Option ℕ). old || instr_writes (instr_among c.args.graph.now.words u) k r) (c.use_at.ensures ∙ ap (λ (us : List (ℕ × ℕ)). use_of us u) c.as_slice-uses.ensures.value))

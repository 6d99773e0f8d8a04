use Rattle.std.proofs.Common.{◌∙◌, ◌||◌, None, Bool, if◌then◌else◌, ap}
use Rattle.loop_data.specs.LoopCode.{any_writes, code_of}
use Rattle.loop_data.specs.Lookups.{cell_map, fact_in}
use Rattle.loop_data.proofs.ValueFills.{none_set}
use Rattle.loop_data.proofs.value_places.forget_body.Goals as goal

pub returns : goal.returns
returns c r l =
    let writes = any_writes (code_of c.args.graph.now (cell_map c.args.cells.now)) c.args.body.now r in
    c.forget.ensures r l ∙ ap (λ (b : Bool). if b then None else fact_in c.args.of.now r) (c.mark_body.ensures r l ∙ ap (λ (b : Bool). b || writes) (none_set 48 r))

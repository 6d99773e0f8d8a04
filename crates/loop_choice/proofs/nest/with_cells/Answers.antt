use Rattle.std.proofs.Common.{sym, subst}
use Rattle.loop_data.specs.Lookups.{cell_map}
use Rattle.induction.specs.Results.{IsRefusal, IsLeastCarried}
use Rattle.loop_choice.proofs.Outcomes.{by_classes}
use Rattle.loop_choice.proofs.nest.with_cells.Goals as goal

pub returns-in-Err-Carried : goal.returns-in-Err-Carried
returns-in-Err-Carried c =
    let G = c.args.graph.now in
    let levels = c.args.shape.now.levels in
    let refused = subst (IsRefusal G levels (cell_map c.args.cells)) c.in-Err-Carried.field-0-is c.in-Err-Carried.ensures.err in
    let least = subst (IsLeastCarried G levels (cell_map c.args.cells)) (sym c.in-Err-Carried.loc-is) refused in
    by_classes G levels c.args.cells _ c.carried.result c.requires.sound least c.carried.ensures

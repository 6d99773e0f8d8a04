use Rattle.std.proofs.Common.{◌∙◌, List, Bool, true, set, refl, sym, subst, length, ◌<◌, ap}
use Rattle.std.specs.List.{All}
use Rattle.std.proofs.lemmas.List.{length-map}
use Rattle.loop_data.specs.Flows.{rows, items_of, IsSet, IsMarked}
use Rattle.loop_data.proofs.FlowOrders.{marked_more, all_in_row, set_in_row}
use Rattle.loop_data.proofs.flow.visit.Goals as goal

pub are_set-requires : goal.are_set-requires
are_set-requires c = all_in_row (rows c.args.sources.now) c.args.p c.row.result.now (length c.as_slice.result.now) c.row.ensures (ap length c.as_slice.ensures.value ∙ c.requires.marked.count) c.requires.rows

pub returns-clause-marked : goal.returns-clause-marked
returns-clause-marked c =
    let flags = c.args.flags.now.items in
    let p = c.args.p in
    let all = subst (λ (fs : List Bool). All (IsSet fs) c.row.result.now) c.as_slice.ensures.value (c.if-not-are_set.ensures.0 refl) in
    let within = subst (λ m. p < m) (sym (length-map c.args.sources.now items_of)) c.requires.within in
    subst (IsMarked (rows c.args.sources.now) (set flags p true)) (sym c.in_ok-push.ensures.items)
    (marked_more (rows c.args.sources.now) flags c.args.order.now.items p within (λ s. absurd (cc)) c.requires.rows (set_in_row (rows c.args.sources.now) p flags c.row.result.now c.row.ensures all) c.requires.marked)

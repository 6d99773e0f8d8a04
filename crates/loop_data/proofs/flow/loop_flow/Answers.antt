use Rattle.std.proofs.Common.{◌∙◌, List, ℕ, length, sym, ap, subst}
use Rattle.std.specs.List.Sorted.{IsStrictlyIncreasing}
use Rattle.loop_data.specs.declared.shape.Level.{Level}
use Rattle.loop_data.specs.Nests.{In}
use Rattle.loop_data.specs.Flows.{HasSources, HasRowRank}
use Rattle.loop_data.proofs.FlowEdges.{row_rank, levels_ordered, listed_in}
use Rattle.loop_data.proofs.flow.loop_flow.Goals as goal

pub flow_of-requires-clause-levels : goal.flow_of-requires-clause-levels
flow_of-requires-clause-levels c = levels_ordered c.args.graph.now c.args.levels.now c.requires.nest

pub flow_of-requires-clause-ordered : goal.flow_of-requires-clause-ordered
flow_of-requires-clause-ordered c =
    let l = c.index-levels-level.result in
    let e = c.as_slice.ensures ∙ ap (λ (z : Level). z.body) (sym c.index-levels-level.is) in
    let i = listed_in c.args.levels.now c.args.level l c.requires.within (sym c.index-levels-level.is) in
    subst (λ (xs : List ℕ). IsStrictlyIncreasing xs) (sym e) (c.requires.nest.ordered l (subst (λ (xs : List Level). In xs l) c.requires.nest.are i))

pub flow_of-requires-clause-ranked : goal.flow_of-requires-clause-ranked
flow_of-requires-clause-ranked c =
    let l = c.index-levels-level.result in
    let e = c.as_slice.ensures ∙ ap (λ (z : Level). z.body) (sym c.index-levels-level.is) in
    let i = listed_in c.args.levels.now c.args.level l c.requires.within (sym c.index-levels-level.is) in
    subst (λ (xs : List ℕ). (all : List (List ℕ)) → HasSources c.args.graph.now c.args.levels.now xs (length xs) all → HasRowRank all) (sym e)
    (row_rank c.args.graph.now c.args.levels.now c.requires.nest l i)

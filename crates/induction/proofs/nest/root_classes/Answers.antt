use Rattle.std.proofs.Common.{List, subst}
use Rattle.loop_data.specs.declared.shape.Level.{Level}
use Rattle.induction.specs.Rows.{TellsRow, IsLeastAt}
use Rattle.loop_data.specs.Lookups.{cell_map}
use Rattle.loop_data.proofs.ValuePlaces.{few_of}
use Rattle.induction.proofs.NestClasses.{is_at, levels_rise, few_levels, root_row_is, least_is}
use Rattle.induction.proofs.nest.root_classes.Goals as goal

pub root_row-requires-clause-levels : goal.root_row-requires-clause-levels
root_row-requires-clause-levels c = levels_rise c.args.graph.now c.args.shape.now.levels c.as_slice-levels.result.now c.requires.nest c.as_slice-levels.ensures

pub returns-in-Ok-clause-ok : goal.returns-in-Ok-clause-ok
returns-in-Ok-clause-ok c =
    let l = c.index-levels-0.result in
    let w = c.in_ok-words.words in
    let few = few_levels c.args.graph.now c.args.shape.now.levels c.requires.nest in
    let at = is_at c.args.graph.now (cell_map c.args.cells.now) c.args.shape.now.levels c.as_slice-levels.result.now 0 l w c.requires.nest few.1 c.as_slice-levels.ensures c.index-levels-0.is c.in_ok-words.ensures (few_of c.args.cells.now c.requires.cells) in
    root_row_is c.args.graph.now (cell_map c.args.cells.now) c.args.shape.now.levels l w c.in-Ok.row at
    (subst (λ (ls : List Level). TellsRow ls l w c.in-Ok.row) c.as_slice-levels.ensures c.in-Ok.ensures.ok)

pub returns-clause-err : goal.returns-clause-err
returns-clause-err c =
    let l = c.index-levels-0.result in
    let w = c.in_ok-words.words in
    let few = few_levels c.args.graph.now c.args.shape.now.levels c.requires.nest in
    let at = is_at c.args.graph.now (cell_map c.args.cells.now) c.args.shape.now.levels c.as_slice-levels.result.now 0 l w c.requires.nest few.1 c.as_slice-levels.ensures c.index-levels-0.is c.in_ok-words.ensures (few_of c.args.cells.now c.requires.cells) in
    least_is c.args.graph.now (cell_map c.args.cells.now) c.args.shape.now.levels l w c.in-Err.loc at
    (subst (λ (ls : List Level). IsLeastAt ls l w c.in-Err.loc) c.as_slice-levels.ensures c.in-Err.ensures.err)

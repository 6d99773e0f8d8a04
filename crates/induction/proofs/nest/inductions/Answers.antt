use Rattle.std.proofs.Common.{List, subst}
use Rattle.loop_data.specs.declared.shape.Level.{Level}
use Rattle.induction.specs.Rows.{TellsInnerRow}
use Rattle.loop_data.specs.Lookups.{cell_map}
use Rattle.loop_data.proofs.ValuePlaces.{few_of}
use Rattle.induction.proofs.NestClasses.{is_at, levels_rise, level_rises, inner_row_is}
use Rattle.induction.proofs.nest.inductions.Goals as goal

pub inner_row-requires-clause-levels : goal.inner_row-requires-clause-levels
inner_row-requires-clause-levels c = levels_rise c.args.graph.now c.args.shape.now.levels c.as_slice-levels.result.now c.requires.nest c.as_slice-levels.ensures

pub inner_row-requires-clause-level : goal.inner_row-requires-clause-level
inner_row-requires-clause-level c =
    let l = c.index-levels-level.result in
    level_rises c.args.graph.now (cell_map c.args.cells.now) c.args.shape.now.levels c.args.level l c.in_ok-words.words
    (is_at c.args.graph.now (cell_map c.args.cells.now) c.args.shape.now.levels c.as_slice-levels.result.now c.args.level l c.in_ok-words.words c.requires.nest c.requires.within c.as_slice-levels.ensures c.index-levels-level.is c.in_ok-words.ensures (few_of c.args.cells.now c.requires.cells))

pub returns : goal.returns
returns c =
    let l = c.index-levels-level.result in
    let w = c.in_ok-words.words in
    let at = is_at c.args.graph.now (cell_map c.args.cells.now) c.args.shape.now.levels c.as_slice-levels.result.now c.args.level l w c.requires.nest c.requires.within c.as_slice-levels.ensures c.index-levels-level.is c.in_ok-words.ensures (few_of c.args.cells.now c.requires.cells) in
    inner_row_is c.args.graph.now (cell_map c.args.cells.now) c.args.shape.now.levels c.args.level l w c.inner_row.result at
    (subst (λ (ls : List Level). TellsInnerRow ls l w c.inner_row.result) c.as_slice-levels.ensures c.inner_row.ensures)

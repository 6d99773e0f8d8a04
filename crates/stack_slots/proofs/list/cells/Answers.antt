use Rattle.std.proofs.Common.{List, sym, ◌∙◌, ap, subst}
use Rattle.loop_data.specs.declared.shape.Level.{Level}
use Rattle.loop_data.specs.LoopCode.{code_of}
use Rattle.loop_data.specs.LoopWords.{AreNest}
use Rattle.loop_data.specs.Locations.{no_cells}
use Rattle.loop_data.specs.Lookups.{cell_map}
use Rattle.stack_slots.proofs.Points.{words_by, first_is, cells_in_end, words_in_order}
use Rattle.stack_slots.proofs.list.cells.Goals as goal

pub returns : goal.returns
returns c =
    let G = c.args.graph.now in
    let ls = c.as_slice-levels.result.now in
    let nest = subst (λ (xs : List Level). AreNest G xs) (sym c.as_slice-levels.ensures) c.requires.nest in
    let body = c.as_slice-body.ensures ∙ ap (λ (l : Level). l.body) (first_is G ls nest c.index-levels-0.result) in
    let words = c.as_slice-2.ensures.value ∙ c.in_ok-words.ensures ∙ ap (words_by (code_of G no_cells) c.as_slice-body.result.now) c.as_slice.ensures.value in
    cells_in_end G ls c.args.shape.now.levels nest c.as_slice-levels.ensures c.no_cells-none.result c.no_cells-none.ensures.none c.in_ok-values.values.items c.as_slice-body.result.now c.as_slice-2.result.now c.cells_of.result body c.in_ok-values.ensures words c.cells_of.ensures

pub cells_of-requires-clause-ordered : goal.cells_of-requires-clause-ordered
cells_of-requires-clause-ordered c =
    let G = c.args.graph.now in
    let ls = c.as_slice-levels.result.now in
    let nest = subst (λ (xs : List Level). AreNest G xs) (sym c.as_slice-levels.ensures) c.requires.nest in
    let words = c.as_slice-2.ensures.value ∙ c.in_ok-words.ensures ∙ ap (words_by (code_of G no_cells) c.as_slice-body.result.now) c.as_slice.ensures.value in
    words_in_order G ls c.args.shape.now.levels nest c.as_slice-levels.ensures (cell_map c.no_cells-none.result) c.in_ok-values.values.items c.in_ok-values.ensures (code_of G no_cells) c.as_slice-body.result.now c.as_slice-2.result.now words

use Rattle.std.proofs.Common.{◌≡◌, ◌<◌, ℕ, List, length, get_or, ap, sym, ◌∙◌, subst}
use Rattle.std.specs.List.Sorted.{IsStrictlyIncreasing}
use Rattle.loop_data.specs.declared.shape.Level.{Level}
use Rattle.loop_data.specs.Flows.{rows, IsFlow}
use Rattle.loop_data.specs.Lookups.{cell_map}
use Rattle.loop_data.specs.Results.{AreFactsOf}
use Rattle.induction.specs.declared.words.Words.{Words}
use Rattle.induction.specs.Masks.{has_bit, bit_after, AreMasks}
use Rattle.induction.specs.Words.{AreLoopWords}
use Rattle.induction.proofs.WordLists.{rows_within, rises_at, same_level, words_are}
use Rattle.induction.proofs.words.words_of.Goals as goal

pub masks_of-requires-clause-within : goal.masks_of-requires-clause-within
masks_of-requires-clause-within c =
    let l = c.index-levels-level.result in
    rows_within c.args.graph.now (cell_map c.args.cells.now) c.as_slice-levels.result.now l.body c.in_ok-flow.flow (c.in_ok-flow.ensures l (sym c.index-levels-level.is))

pub mask_past-always-requires-clause-ordered : goal.mask_past-always-requires-clause-ordered
mask_past-always-requires-clause-ordered c =
    let l = c.index-levels-level.result in
    let e = c.as_slice-levels.ensures in
    let at : l ≡ get_or c.args.shape.now.levels c.args.level l = c.index-levels-level.is ∙ ap (λ (ls : List Level). get_or ls c.args.level l) e in
    subst (λ (xs : List ℕ). IsStrictlyIncreasing xs) (sym c.as_slice-body.ensures) (rises_at c.args.graph.now c.args.shape.now.levels c.args.level l c.requires.nest c.requires.within at)

pub returns : goal.returns
returns c m f =
    let l = c.index-levels-level.result in
    let e = c.as_slice-levels.ensures in
    let at : l ≡ get_or c.args.shape.now.levels c.args.level l = c.index-levels-level.is ∙ ap (λ (ls : List Level). get_or ls c.args.level l) e in
    let w : Words = record { flow = c.in_ok-flow.flow; points = c.in_ok-points.points; masks = c.in_ok-masks.masks; always = c.mask_past-always.result } in
    let flow = subst (λ (ls : List Level). IsFlow c.args.graph.now (cell_map c.args.cells.now) ls l.body c.in_ok-flow.flow) e (c.in_ok-flow.ensures l (sym c.index-levels-level.is)) in
    let points = subst (λ (ls : List Level). AreFactsOf c.args.graph.now ls (cell_map c.args.cells.now) c.args.level c.in_ok-points.points.items) e c.in_ok-points.ensures in
    let b = c.as_slice-body.ensures in
    let masks = subst (λ (xs : List ℕ). AreMasks l.header xs w.flow (rows w.flow.sources.items) w.masks.items) b c.in_ok-masks.ensures in
    let always : (p : ℕ) → p < length l.body → get_or l.body p 0 ≡ l.back → (r : ℕ) → r < 48 → has_bit w.always r ≡ bit_after w.flow w.masks.items p r =
    λ p lp q r lr.
    c.mask_past-always.ensures p (subst (λ (xs : List ℕ). p < length xs) (sym b) lp) (ap (λ (xs : List ℕ). get_or xs p 0) b ∙ q) r lr
    ∙ ap (λ (xs : List ℕ). bit_after w.flow xs p r) c.as_slice.ensures.value in
    subst (λ (x : Level). AreLoopWords c.args.graph.now (cell_map c.args.cells.now) c.args.shape.now.levels x w) (same_level c.args.shape.now.levels c.args.level l m c.requires.within at f)
    (words_are c.args.graph.now (cell_map c.args.cells.now) c.args.shape.now.levels c.args.level l w (sym at) flow points masks always)

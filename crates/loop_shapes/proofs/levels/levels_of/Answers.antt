use Rattle.std.proofs.Common.{ℕ, List, [], ◌∷◌, ◌++◌, get_or, refl, ap, sym, ◌∙◌, subst}
use Rattle.std.specs.List.{Contains}
use Rattle.std.proofs.lemmas.List.Elements.{Contains-get_or, All-nil}
use Rattle.loop_data.specs.declared.shape.Level.{Level}
use Rattle.loop_data.specs.Loops.{IsLevel}
use Rattle.loop_shapes.specs.Difference.{InDifference}
use Rattle.loop_shapes.specs.Program.{program_graph}
use Rattle.loop_data.specs.Sets.{IsListOf}
use Rattle.loop_shapes.proofs.LevelLists.{level_push, level_more, levels_by}
use Rattle.loop_shapes.proofs.levels.levels_of.Goals as goal

pub loop-x-init : goal.loop-x-init
loop-x-init c =
    let G = program_graph c.args.program.now in
    let h = c.args.header in
    let v = c.in_ok-level.field-0 in
    let e = c.in_ok-push.ensures.items ∙ ap (λ (q : List Level). q ++ v ∷ []) c.new-all.ensures.items in
    level_push G h [] c.push.new.self.items v h [] e c.in_ok-level.ensures.header (c.in_ok-level.ensures.level h c.requires.is) (refl, All-nil (IsLevel G h))

pub level-requires-in-loop-x-clause-among : goal.level-requires-in-loop-x-clause-among
level-requires-in-loop-x-clause-among c =
    let x = get_or c.as_slice-x-items.result.now c.loop-x.x-index 0 in
    (c.in_ok-inner.ensures.each x (subst (λ (q : List ℕ). Contains q x) c.as_slice-x-items.ensures.value (Contains-get_or c.as_slice-x-items.result.now c.loop-x.x-index 0 c.loop-x-test.true))).among

pub loop-x-preserved : goal.loop-x-preserved
loop-x-preserved c =
    let G = program_graph c.args.program.now in
    let h = c.args.header in
    level_more G h c.as_slice-x-items.result.now c.loop-x.x-index c.loop-x.all.items c.push-in-loop-x.new.self.items c.in_ok-level-2.field-0 c.loop-x-test.true c.in_ok-push-2.ensures.items c.in_ok-level-2.ensures.header (c.in_ok-level-2.ensures.level h c.requires.is) c.loop-x.invariant

pub returns : goal.returns
returns c =
    let G = program_graph c.args.program.now in
    let h = c.args.header in
    levels_by G h c.args.nest.now c.as_slice-x-items.result.now c.loop-x.x-index c.loop-x.all.items c.requires.is (subst (IsListOf (InDifference c.args.nest.now (h ∷ []))) (sym c.as_slice-x-items.ensures.value) c.in_ok-inner.ensures) c.loop-x-test.false c.loop-x.invariant

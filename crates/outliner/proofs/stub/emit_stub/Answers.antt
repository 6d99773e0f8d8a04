use Rattle.std.proofs.Common.{◌+◌, ◌++◌, ◌∙◌, ap, subst, refl, length}
use Rattle.loop_data.specs.Lookups.{roles_by}
use Rattle.outliner.specs.Moves.{moved, AreDivided}
use Rattle.outliner.specs.Sizes.{loop_code}
use Rattle.outliner.proofs.Whole.{moved_alike, is_stub, stub_few, read_root}
use Rattle.outliner.proofs.stub.emit_stub.Goals as goal

pub returns-clause-words : goal.returns-clause-words
returns-clause-words c = λ root inner e.
    let B = loop_code c.args.graph.now c.args.plan.now.cells in
    let same = read_root c.as_slice.result.now root inner _ (c.as_slice.ensures ∙ e) c.index-as_slice-0.is in
    let fork = c.args.place + 7 + length c.args.check.now in
    let d = subst (λ l. AreDivided l B (moved c.args.plan.now.classes.root) fork c.in_ok-divided.divided.items c.in_ok-divided.refused) same c.in_ok-divided.ensures in
    is_stub root B (moved c.args.plan.now.classes.root) (roles_by B c.args.plan.now.shape.levels c.args.plan.now.classes root) c.args.place fork c.in_ok-divided.refused c.args.check.now _ c.push_save.new.code.items c.extend_from_slice.new.self.items c.extend_from_slice-2.new.self.items c.in_ok-aimed.aimed.items c.in_ok-divided.divided.items
    c.new-code.ensures.items c.in_ok-push_save.ensures (c.in_ok-extend_from_slice.ensures.items ∙ ap (λ xs. c.push_save.new.code.items ++ xs) c.as_slice-2.ensures.value) (c.in_ok-extend_from_slice-2.ensures.items ∙ ap (λ xs. c.extend_from_slice.new.self.items ++ xs) c.as_slice-3.ensures.value)
    c.are_words.ensures c.in_ok-aimed.ensures.many refl c.in_ok-aimed.ensures.aims d (moved_alike B c.args.plan.now.shape.levels c.args.plan.now.classes root inner e)

pub returns-clause-short : goal.returns-clause-short
returns-clause-short c =
    stub_few c.args.check.now _ c.push_save.new.code.items c.extend_from_slice.new.self.items c.extend_from_slice-2.new.self.items c.in_ok-aimed.aimed.items c.in_ok-divided.divided.items c.in_ok-divided.refused
    c.new-code.ensures.items c.in_ok-push_save.ensures (c.in_ok-extend_from_slice.ensures.items ∙ ap (λ xs. c.push_save.new.code.items ++ xs) c.as_slice-2.ensures.value) (c.in_ok-extend_from_slice-2.ensures.items ∙ ap (λ xs. c.extend_from_slice.new.self.items ++ xs) c.as_slice-3.ensures.value)
    c.in_ok-aimed.ensures.many c.in_ok-divided.ensures.last c.in_ok-divided.ensures.few

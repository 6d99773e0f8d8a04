use Rattle.std.proofs.Common.{ℕ, ◌≤◌, List, length, sym, subst}
use Rattle.loop_division.proofs.Planned.{kept_nest, kept_cells, kept_room, kept_offsets, kept_words, kept_few}
use Rattle.loop_division.proofs.stubs.stub_of.Goals as goal

pub tests_of-requires : goal.tests_of-requires
tests_of-requires c = kept_room c.nests.ensures c.args.elf.now c.args.graph.now c.args.shape.now c.in_ok-both.both.0
    c.plan-plan.result.now c.in_ok-both.both.1 c.plan-plan.ensures c.requires.loadable c.requires.graph c.requires.shape
    c.in_ok-both.ensures c.judged_checks_are_told.ensures.room c.check.result.now c.check.ensures

pub emit_stub-requires-clause-nest : goal.emit_stub-requires-clause-nest
emit_stub-requires-clause-nest c = kept_nest c.nests.ensures c.args.elf.now c.args.graph.now c.args.shape.now
    c.in_ok-both.both.0 c.plan-plan.result.now c.in_ok-both.both.1 c.plan-plan.ensures c.requires.loadable c.requires.graph
    c.requires.shape c.in_ok-both.ensures

pub emit_stub-requires-clause-cells : goal.emit_stub-requires-clause-cells
emit_stub-requires-clause-cells c = kept_cells c.nests.ensures c.args.elf.now c.args.graph.now c.args.shape.now
    c.in_ok-both.both.0 c.plan-plan.result.now c.in_ok-both.both.1 c.plan-plan.ensures c.requires.loadable c.requires.graph
    c.requires.shape c.in_ok-both.ensures c.cells_are_found.ensures.numbered

pub emit_stub-requires-clause-offsets : goal.emit_stub-requires-clause-offsets
emit_stub-requires-clause-offsets c = kept_offsets c.nests.ensures c.args.elf.now c.args.graph.now c.args.shape.now
    c.in_ok-both.both.0 c.plan-plan.result.now c.in_ok-both.both.1 c.plan-plan.ensures c.requires.loadable c.requires.graph
    c.requires.shape c.in_ok-both.ensures c.judged_checks_are_told.ensures.room

pub returns-clause-words : goal.returns-clause-words
returns-clause-words c = kept_words c.nests.ensures c.args.elf.now c.args.graph.now c.args.shape.now
    c.in_ok-both.both.0 c.plan-plan.result.now c.in_ok-both.both.1 c.plan-plan.ensures c.requires.loadable c.requires.graph
    c.requires.shape c.in_ok-both.ensures c.check.result.now c.in_ok-tests.tests.items c.as_slice.result.now
    c.in_ok-words.words.items c.as_slice-2.result.now c.args.p c.check.ensures c.as_slice.ensures.value
    c.as_slice-2.ensures.value c.in_ok-tests.ensures.tell c.are_short.ensures
    (λ root inner e. let s = rw c.in_ok-words.was at (c.emit_stub.ensures.words root inner e) in s)

pub returns-clause-few : goal.returns-clause-few
returns-clause-few c = kept_few c.nests.ensures c.args.elf.now c.args.graph.now c.args.shape.now
    c.in_ok-both.both.0 c.plan-plan.result.now c.in_ok-both.both.1 c.plan-plan.ensures c.requires.loadable c.requires.graph
    c.requires.shape c.in_ok-both.ensures c.cells_are_found.ensures.numbered c.as_slice.result.now
    c.in_ok-words.words.items c.args.p
    (subst (λ (ts : List ℕ). length ts ≤ 200000) (sym c.as_slice.ensures.value) c.in_ok-tests.ensures.few)
    (λ root inner e. let s = rw c.in_ok-words.was at (c.emit_stub.ensures.words root inner e) in s)

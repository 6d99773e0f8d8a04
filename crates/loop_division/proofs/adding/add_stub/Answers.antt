use Rattle.std.proofs.Common.{[], ◌∷◌, ◌++◌, refl, sym, ap, subst, ◌∙◌}
use Rattle.image_writer.specs.declared.image.Entry.{Entry}
use Rattle.loop_division.specs.Stubs.{AreWordsOf}
use Rattle.loop_division.proofs.Added.{parallel_here, found_here, next_added}
use Rattle.loop_division.proofs.adding.add_stub.Goals as goal

pub stub_of-requires-clause-shape : goal.stub_of-requires-clause-shape
stub_of-requires-clause-shape c = parallel_here c.args.graph.now c.args.shapes.now c.args.place c.index-shapes-place.result
    c.index-shapes-place.is c.requires.parallel

pub returns-clause-added : goal.returns-clause-added
returns-clause-added c = λ places rest a.
    next_added c.args.elf.now c.args.graph.now c.args.shapes.now c.index-shapes-place.result c.args.place places rest
    c.args.added.now.entries.items c.push.new.self.items c.args.added.now.code.items c.keep.new.code.items
    c.as_slice-words.result.now c.args.added.now.count _
    (found_here c.args.graph.now c.args.shapes.now c.args.place c.index-shapes-place.result c.index-shapes-place.is
    c.requires.parallel)
    (subst (AreWordsOf c.args.elf.now c.args.graph.now c.index-shapes-place.result c.args.added.now.count)
    (sym c.as_slice-words.ensures.value) c.in_ok-stub.ensures.words)
    (c.in_ok-push.ensures.items ∙ ap (λ (e : Entry). c.args.added.now.entries.items ++ (e ∷ [])) c.entry_at.ensures)
    refl c.in_ok-keep.ensures a

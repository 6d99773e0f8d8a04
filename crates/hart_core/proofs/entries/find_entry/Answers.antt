use Rattle.std.proofs.Common.{ℕ, sym, rules}
use Rattle.std.proofs.lemmas.List.Sorted.{answers_always}
use Rattle.image_writer.specs.declared.image.Entry.{Entry}
use Rattle.hart_core.specs.Entering.{entry_at}
use Rattle.hart_core.proofs.Searched.{entry_found, no_entry_found}
use Rattle.hart_core.proofs.entries.find_entry.Goals as goal

pub returns-in-Ok : goal.returns-in-Ok
unfolding entry_at
returns-in-Ok c =
    let e = c.in-Ok.ensures in
    sym (entry_found c.args.entries.now c.args.pc c.in-Ok.i _ c.requires.ascending e.bound (e.position (λ (v : Entry). v.header) (answers_always _ _ _ (λ f a r g called. search rules))))

pub returns-in-Err : goal.returns-in-Err
unfolding entry_at
returns-in-Err c =
    let e = c.in-Err.ensures in
    sym (no_entry_found c.args.entries.now c.args.pc c.in-Err.field-0 c.requires.ascending e.bound (e.position (λ (v : Entry). v.header) (answers_always _ _ _ (λ f a r g called. search rules))))

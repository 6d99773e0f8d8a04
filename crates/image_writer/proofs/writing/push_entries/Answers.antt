use Rattle.std.proofs.Common.{◌++◌, ℕ, List, take, get_or, ap, sym, ◌∙◌}
use Rattle.std.proofs.lemmas.List.{take_more, flat_map_more}
use Rattle.std.proofs.lemmas.List.Elements.{All-more}
use Rattle.std.specs.List.{flat_map}
use Rattle.image_writer.specs.declared.image.Entry.{Entry}
use Rattle.image_writer.specs.Image.{entry_bytes, IsEntry}
use Rattle.image_writer.proofs.writing.push_entries.Goals as goal

pub loop-entry-preserved : goal.loop-entry-preserved
loop-entry-preserved c =
    let i : ℕ = c.loop-entry.entry-index in
    let all : List Entry = c.args.entries.now in
    let none : Entry = record { header = 0; stub = 0 } in
    let more = take_more all i none c.loop-entry-test.true in (
      c.in_ok-push_entry.ensures.bytes
          ∙ ap (λ (xs : List ℕ). xs ++ entry_bytes (get_or all i none)) c.loop-entry.invariant.0
          ∙ flat_map_more entry_bytes c.args.out.now.items (take i all) (get_or all i none)
          ∙ ap (λ (xs : List Entry). c.args.out.now.items ++ flat_map entry_bytes xs) (sym more),
      All-more IsEntry all i none c.loop-entry-test.true c.loop-entry.invariant.1 c.in_ok-push_entry.ensures.fits,
    )

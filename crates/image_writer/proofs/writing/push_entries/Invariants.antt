use Rattle.std.proofs.Common.{◌≡◌, ◌++◌, take, All}
use Rattle.std.specs.List.{flat_map}
use Rattle.image_writer.specs.Image.{entry_bytes, IsEntry}
use Rattle.image_writer.proofs.writing.push_entries.Given as goal

abbrev pub invariant-loop-entry : goal.invariant-loop-entry
invariant-loop-entry l =
    (l.out.items ≡ l.fn.out.items ++ flat_map entry_bytes (take l.entry-index l.entries))
    × All IsEntry (take l.entry-index l.entries)

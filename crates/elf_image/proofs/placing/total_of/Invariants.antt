use Rattle.std.proofs.Common.{◌≡◌, ◌+◌, ◌*◌, ◌^◌, ◌≤◌, drop}
use Rattle.elf_image.specs.Layout.{total_length}
use Rattle.elf_image.specs.Rules.{places_of}
use Rattle.elf_image.proofs.placing.total_of.Given as goal

abbrev pub invariant-loop-index : goal.invariant-loop-index
invariant-loop-index l = record {
  sum : l.total + total_length (places_of (drop l.index l.headers)) ≡ total_length (places_of l.headers);
  fits : l.total ≤ l.index * 2 ^ 66;
}

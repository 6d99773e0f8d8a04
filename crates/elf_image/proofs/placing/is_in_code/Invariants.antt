use Rattle.std.proofs.Common.{◌≡◌, drop}
use Rattle.elf_image.specs.Layout.{in_code}
use Rattle.elf_image.specs.Rules.{places_of}
use Rattle.elf_image.proofs.placing.is_in_code.Given as goal

abbrev pub invariant-loop-header : goal.invariant-loop-header
invariant-loop-header l = in_code (places_of (drop l.header-index l.headers)) l.addr ≡ in_code (places_of l.headers) l.addr

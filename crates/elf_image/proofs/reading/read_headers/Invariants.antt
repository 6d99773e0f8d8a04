use Rattle.std.proofs.Common.{◌≡◌, ◌+◌, ◌-◌, ◌*◌, ◌++◌}
use Rattle.elf_image.specs.Header.{program_headers_from}
use Rattle.elf_image.proofs.reading.read_headers.Given as goal

abbrev pub invariant-loop-index : goal.invariant-loop-index
invariant-loop-index l =
    l.headers.items ++ program_headers_from l.bytes (l.file.phoff + 56 * l.index) (l.file.phnum - l.index) ≡ program_headers_from l.bytes l.file.phoff l.file.phnum

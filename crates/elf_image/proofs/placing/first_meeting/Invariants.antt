use Rattle.std.proofs.Common.{◌≡◌, drop}
use Rattle.elf_image.specs.Rules.{meet, first_place}
use Rattle.elf_image.proofs.placing.first_meeting.Given as goal

abbrev pub invariant-loop-index : goal.invariant-loop-index
invariant-loop-index l = first_place (meet l.header) l.index (drop l.index l.headers) ≡ first_place (meet l.header) l.from (drop l.from l.headers)

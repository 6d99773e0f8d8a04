use Rattle.std.proofs.Common.{◌≡◌, drop}
use Rattle.elf_image.specs.Rules.{breaks, first_place}
use Rattle.elf_image.proofs.rules.refusal_by_rule.Given as goal

abbrev pub invariant-loop-index : goal.invariant-loop-index
invariant-loop-index l = first_place (breaks l.rule l.size) l.index (drop l.index l.headers) ≡ first_place (breaks l.rule l.size) 0 l.headers

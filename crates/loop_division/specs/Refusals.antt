-- Why an executable has no division.
use Rattle.std.specs.Prelude.{◌≡◌, ◌+◌}
use Rattle.elf_image.specs.declared.image.Elf.{Elf}
use Rattle.flow_recovery.specs.Refusals.{word_limit}
use Rattle.loop_division.specs.declared.refusal.DivideErr.{DivideErr}
use Rattle.loop_division.specs.declared.refusal.DivideErr.TheVariants.{TooManyWords, TooManyLoops, CodeTooLong, OutOfMemory}
use Rattle.loop_division.specs.LoopVerdicts.{ReachesTooMany, ChoosesTooMany}
use Rattle.loop_division.specs.Division.{IsTooLong}

-- what an error says of the executable; of want of memory nothing is said
abbrev pub IsRefused : Elf → DivideErr → Type 0
IsRefused elf (TooManyWords count) = (count ≡ word_limit + 1) × ReachesTooMany elf
IsRefused elf (TooManyLoops count) = ChoosesTooMany elf count
IsRefused elf (CodeTooLong words) = IsTooLong elf words
IsRefused elf OutOfMemory = Unit {0}

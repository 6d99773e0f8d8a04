-- Why the steps of a rewriting fail.
use Rattle.std.specs.Prelude.{ℕ, ◌≡◌, ◌+◌, List}
use Rattle.elf_image.specs.declared.image.Elf.{Elf}
use Rattle.flow_recovery.specs.Refusals.{word_limit}
use Rattle.loop_division.specs.Division.{IsTooLong}
use Rattle.loop_division.specs.LoopVerdicts.{ReachesTooMany, ChoosesTooMany}
use Rattle.rewriter.specs.declared.rewriting.RewriteErr.{RewriteErr}
use Rattle.rewriter.specs.declared.rewriting.RewriteErr.TheVariants.{Elf as NotRead, TooManyWords, TooManyLoops}
use Rattle.rewriter.specs.declared.rewriting.RewriteErr.TheVariants.{CodeTooLong, OutOfMemory}
use Rattle.rewriter.specs.Rewriting.{IsUnread}

-- some bytes hold no executable, or there was no memory
abbrev pub IsReadRefusal : List ℕ → RewriteErr → Type 0
IsReadRefusal bytes (NotRead why) = IsUnread bytes why
IsReadRefusal bytes OutOfMemory = Unit {0}
IsReadRefusal bytes _ = ⊥

-- an executable has no division, or there was no memory
abbrev pub IsDivideRefusal : Elf → RewriteErr → Type 0
IsDivideRefusal elf (NotRead why) = ⊥
IsDivideRefusal elf (TooManyWords count) = (count ≡ word_limit + 1) × ReachesTooMany elf
IsDivideRefusal elf (TooManyLoops count) = ChoosesTooMany elf count
IsDivideRefusal elf (CodeTooLong words) = IsTooLong elf words
IsDivideRefusal elf OutOfMemory = Unit {0}

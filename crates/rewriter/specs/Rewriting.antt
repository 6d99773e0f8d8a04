-- The image of an executable, or why its bytes have none.
use Rattle.std.specs.Prelude.{ℕ, ◌≡◌, ◌≢◌, ◌+◌, List, length, Result, Ok, Err}
use Rattle.elf_image.specs.declared.image.Elf.{Elf}
use Rattle.elf_image.specs.declared.rules.ElfErr.{ElfErr}
use Rattle.elf_image.specs.declared.rules.ElfErr.TheVariants.{OutOfMemory as NoMemory}
use Rattle.elf_image.specs.Reading.{reading_of}
use Rattle.flow_recovery.specs.Refusals.{word_limit}
use Rattle.image_writer.specs.declared.image.Entry.{Entry}
use Rattle.image_writer.specs.Image.{image_bytes}
use Rattle.loop_division.specs.Division.{IsDivision, IsTooLong}
use Rattle.loop_division.specs.LoopVerdicts.{ReachesTooMany, ChoosesTooMany}
use Rattle.rewriter.specs.declared.rewriting.Rewritten.{Rewritten}
use Rattle.rewriter.specs.declared.rewriting.RewriteErr.{RewriteErr}
use Rattle.rewriter.specs.declared.rewriting.RewriteErr.TheVariants.{Elf as NotRead, TooManyWords, TooManyLoops}
use Rattle.rewriter.specs.declared.rewriting.RewriteErr.TheVariants.{CodeTooLong, OutOfMemory}

-- an original with these entries and added words
abbrev pub rewritten_with : List ℕ → List Entry → List ℕ → Rewritten
rewritten_with original entries code =
    record { bytes = image_bytes original entries code; entries = length entries; words = length code }

-- some bytes with the entries and the added words of the division of the executable in them
pub record IsImage (original : List ℕ) (made : Rewritten) : Type 0 where
  pub elf : Elf
  pub read : reading_of original ≡ Ok elf
  pub entries : List Entry
  pub code : List ℕ
  pub division : IsDivision elf entries code
  pub is : made ≡ rewritten_with original entries code

-- some bytes hold an executable, of which this is said
pub record HoldsElf (original : List ℕ) (Said : Elf → Type 0) : Type 0 where
  pub elf : Elf
  pub read : reading_of original ≡ Ok elf
  pub said : Said elf

-- some bytes hold no executable, for this reason
abbrev pub IsUnread : List ℕ → ElfErr → Type 0
IsUnread original why = (reading_of original ≡ Err why) × (why ≢ NoMemory)

-- why some bytes have no image: of the first reason that applies
abbrev pub HasNoImage : List ℕ → RewriteErr → Type 0
HasNoImage original (NotRead why) = IsUnread original why
HasNoImage original (TooManyWords count) =
    (count ≡ word_limit + 1) × HoldsElf original ReachesTooMany
HasNoImage original (TooManyLoops count) = HoldsElf original (λ elf. ChoosesTooMany elf count)
HasNoImage original (CodeTooLong words) = HoldsElf original (λ elf. IsTooLong elf words)
HasNoImage original OutOfMemory = ⊥

-- the image of the executable in some bytes, why there is none, or that there was no memory
abbrev pub IsRewriting : List ℕ → Result Rewritten RewriteErr → Type 0
IsRewriting original (Ok made) = IsImage original made
IsRewriting original (Err OutOfMemory) = Unit {0}
IsRewriting original (Err why) = HasNoImage original why

-- there is one answer but for want of memory
abbrev pub OneRewritingLaw : Type 0
OneRewritingLaw = (original : List ℕ) (a b : Result Rewritten RewriteErr) → IsRewriting original a
    → IsRewriting original b → a ≢ Err OutOfMemory → b ≢ Err OutOfMemory → a ≡ b

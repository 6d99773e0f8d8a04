-- Which files are admitted to be run, and as which images.
use Rattle.std.specs.Prelude.{ℕ, suc, ◌≡◌, ◌≢◌, ◌⊎◌, ◌==◌, if◌then◌else◌, List, [], ◌∷◌, Option, Some, None, Result, Ok, Err}
use Rattle.elf_image.specs.Reading.{reading_of}
use Rattle.image_writer.specs.declared.image.Entry.{Entry}
use Rattle.image_writer.specs.declared.image.Image.{Image}
use Rattle.image_writer.specs.declared.splitting.Split.TheVariants.{Plain, BadMark, Parts}
use Rattle.image_writer.specs.Image.{image_bytes}
use Rattle.image_writer.specs.Split.{split_of}
use Rattle.loop_division.specs.Division.{IsDivision}
use Rattle.rewriter.specs.declared.rewriting.Rewritten.{Rewritten}
use Rattle.rewriter.specs.declared.rewriting.RewriteErr.{RewriteErr}
use Rattle.rewriter.specs.declared.rewriting.RewriteErr.TheVariants.{Elf as NotRead, OutOfMemory as NoRoom}
use Rattle.rewriter.specs.declared.admission.AdmitErr.{AdmitErr}
use Rattle.rewriter.specs.declared.admission.AdmitErr.TheVariants.{BadMark as IsBad, Original, Altered, OutOfMemory}
use Rattle.rewriter.specs.Rewriting.{IsImage, IsUnread, HasNoImage}

abbrev pub one_more : Option ℕ → Option ℕ
one_more None = None
one_more (Some n) = Some (suc n)

-- the first place at which two lists differ: that of different items, or the end of the shorter
abbrev pub first_difference : List ℕ → List ℕ → Option ℕ
first_difference [] [] = None
first_difference [] (y ∷ ys) = Some 0
first_difference (x ∷ xs) [] = Some 0
first_difference (x ∷ xs) (y ∷ ys) = if x == y then one_more (first_difference xs ys) else Some 0

-- a file without a mark holds an executable, which is run without entries
pub record IsPlain (bytes : List ℕ) (image : Image) : Type 0 where
  pub unmarked : split_of bytes ≡ Plain
  pub read : reading_of bytes ≡ Ok image.elf
  pub entries : image.entries ≡ []
  pub code : image.code ≡ []

-- a marked file has this original part
pub record HasOriginal (bytes original : List ℕ) : Type 0 where
  pub entries : List Entry
  pub code : List ℕ
  pub split : split_of bytes ≡ Parts original entries code

-- a marked file is the image of the executable in its original part
pub record IsDividedFile (bytes : List ℕ) (image : Image) : Type 0 where
  pub original : List ℕ
  pub marked : HasOriginal bytes original
  pub read : reading_of original ≡ Ok image.elf
  pub division : IsDivision image.elf image.entries image.code
  pub same : image_bytes original image.entries image.code ≡ bytes

-- a marked file is not that image, and this is the first place at which it differs
pub record IsAltered (bytes : List ℕ) (offset : ℕ) : Type 0 where
  pub original : List ℕ
  pub marked : HasOriginal bytes original
  pub made : Rewritten
  pub image : IsImage original made
  pub differs : first_difference made.bytes bytes ≡ Some offset

-- the executable of a file without a mark is not read
abbrev pub IsUnreadPlain : List ℕ → RewriteErr → Type 0
IsUnreadPlain bytes (NotRead why) = (split_of bytes ≡ Plain) × IsUnread bytes why
IsUnreadPlain bytes _ = ⊥

-- the original part of a marked file has no image
pub record IsUnmade (bytes : List ℕ) (why : RewriteErr) : Type 0 where
  pub original : List ℕ
  pub marked : HasOriginal bytes original
  pub none : HasNoImage original why

-- why a file is not admitted
abbrev pub IsNotAdmitted : List ℕ → AdmitErr → Type 0
IsNotAdmitted bytes IsBad = split_of bytes ≡ BadMark
IsNotAdmitted bytes (Original why) = IsUnreadPlain bytes why ⊎ IsUnmade bytes why
IsNotAdmitted bytes (Altered offset) = IsAltered bytes offset
IsNotAdmitted bytes OutOfMemory = ⊥

-- what a refusal to rewrite is where a file is to be admitted
abbrev pub not_made : RewriteErr → AdmitErr
not_made NoRoom = OutOfMemory
not_made why = Original why

-- the image as which a file is admitted, why it is not, or that there was no memory
abbrev pub IsAdmission : List ℕ → Result Image AdmitErr → Type 0
IsAdmission bytes (Ok image) = IsPlain bytes image ⊎ IsDividedFile bytes image
IsAdmission bytes (Err OutOfMemory) = Unit {0}
IsAdmission bytes (Err why) = IsNotAdmitted bytes why

-- there is one answer but for want of memory
abbrev pub OneAdmissionLaw : Type 0
OneAdmissionLaw = (bytes : List ℕ) (a b : Result Image AdmitErr) → IsAdmission bytes a → IsAdmission bytes b
    → a ≢ Err OutOfMemory → b ≢ Err OutOfMemory → a ≡ b

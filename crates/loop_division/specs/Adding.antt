-- What is known while stubs are added one after the other.
use Rattle.std.specs.Prelude.{ℕ, ◌≡◌, ◌≤◌, List, ◌++◌, length, Some, slice_get}
use Rattle.elf_image.specs.declared.image.Elf.{Elf}
use Rattle.loop_data.specs.declared.graph.Graph.{Graph}
use Rattle.loop_data.specs.declared.shape.LoopShape.{LoopShape}
use Rattle.loop_data.specs.declared.verdict.Verdict.TheVariants.{Parallel}
use Rattle.loop_choice.specs.Judging.{IsOneOfLoops}
use Rattle.loop_choice.specs.Verdicts.{IsVerdict}
use Rattle.image_writer.specs.declared.image.Entry.{Entry}
use Rattle.image_writer.specs.Image.{word_limit}
use Rattle.loop_division.specs.Stubs.{Stub, AreStubs, entries_of, words_of}

-- a listed loop that is Parallel
pub record IsParallelLoop (G : Graph) (shape : LoopShape) : Type 0 where
  pub listed : IsOneOfLoops G shape
  pub parallel : IsVerdict G shape Parallel

-- the loop at a place of the list is one
pub record IsParallelAt (G : Graph) (shapes : List LoopShape) (place : ℕ) : Type 0 where
  pub shape : LoopShape
  pub is : slice_get shapes place ≡ Some shape
  pub loop : IsParallelLoop G shape

-- of the loops at these places, the stubs of all but the rest are done, whatever stubs the rest have: with those behind
-- them they are the stubs of all. The entries and the number of words are those of the stubs that are done, and so are
-- the words that are kept, as long as they are not too many
pub record AreAdded (elf : Elf) (G : Graph) (shapes : List LoopShape) (places rest : List ℕ) (entries : List Entry)
    (code : List ℕ) (count : ℕ) : Type 0 where
  pub done : List Stub
  pub stand : (stubs : List Stub) → AreStubs elf G shapes rest count stubs
      → AreStubs elf G shapes places 0 (done ++ stubs)
  pub entries_are : entries ≡ entries_of 0 done
  pub count_is : count ≡ length (words_of done)
  pub kept : count ≤ word_limit → code ≡ words_of done

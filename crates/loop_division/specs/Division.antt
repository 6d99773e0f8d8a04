-- The division of an executable: the entries and the added words of its image.
use Rattle.std.specs.Prelude.{ℕ, ◌≡◌, ◌≤◌, ◌<◌, List, length, map}
use Rattle.std.specs.List.Sorted.{IsStrictlyIncreasing}
use Rattle.elf_image.specs.declared.image.Elf.{Elf}
use Rattle.loop_data.specs.declared.graph.Graph.{Graph}
use Rattle.loop_data.specs.declared.shape.LoopShape.{LoopShape}
use Rattle.loop_choice.specs.declared.judged.Judged.{Judged}
use Rattle.loop_choice.specs.Choice.{AreChosen, most_chosen}
use Rattle.image_writer.specs.declared.image.Entry.{Entry}
use Rattle.image_writer.specs.Image.{word_limit}
use Rattle.loop_division.specs.LoopVerdicts.{AreVerdicts}
use Rattle.loop_division.specs.Stubs.{Stub, AreStubs, entries_of, words_of}

-- the stubs of the chosen loops of an executable, by header, in which each word has its place among all added words
pub record AreStubsOf (elf : Elf) (stubs : List Stub) : Type 0 where
  pub graph : Graph
  pub shapes : List LoopShape
  pub all : List Judged
  pub verdicts : AreVerdicts elf graph shapes all
  pub places : List ℕ
  pub chosen : AreChosen all places
  pub stand : AreStubs elf graph shapes places 0 stubs

-- an entry for each of them, and all their words, if there is room for so many
pub record IsDivision (elf : Elf) (entries : List Entry) (code : List ℕ) : Type 0 where
  pub stubs : List Stub
  pub are : AreStubsOf elf stubs
  pub entries_are : entries ≡ entries_of 0 stubs
  pub code_is : code ≡ words_of stubs
  pub room : length code ≤ word_limit

-- there are so many words, which is too many
pub record IsTooLong (elf : Elf) (words : ℕ) : Type 0 where
  pub stubs : List Stub
  pub are : AreStubsOf elf stubs
  pub count : words ≡ length (words_of stubs)
  pub many : word_limit < words

-- entries have ascending headers, and there are not too many
pub record AreInOrder (entries : List Entry) : Type 0 where
  pub ascending : IsStrictlyIncreasing (map (λ (e : Entry). e.header) entries)
  pub few : length entries ≤ most_chosen

-- so it is with those of a division
abbrev pub OrderLaw : Type 0
OrderLaw = (elf : Elf) (entries : List Entry) (code : List ℕ) → IsDivision elf entries code → AreInOrder entries

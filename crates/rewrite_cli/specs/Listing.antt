-- What a list of loops has.
use Rattle.std.specs.Prelude.{ℕ, suc, ◌≡◌, ◌==◌, ◌+◌, Bool, List, [], ◌∷◌, ◌++◌}
use Rattle.std.specs.List.{list_any}
use Rattle.elf_image.specs.declared.image.Elf.{Elf}
use Rattle.loop_data.specs.declared.graph.Graph.{Graph}
use Rattle.loop_data.specs.declared.shape.LoopShape.{LoopShape}
use Rattle.flow_recovery.specs.Refusals.{word_limit}
use Rattle.loop_choice.specs.declared.judged.Judged.{Judged}
use Rattle.loop_choice.specs.Choice.{AreChosen}
use Rattle.loop_division.specs.LoopVerdicts.{AreVerdicts, ReachesTooMany, ChoosesTooMany}
use Rattle.report_text.specs.Lines.{loop_line}

-- the lines of all loops, or that too many words are reached or too many loops chosen
pub data Listing : Type 0 where
  Lines : (lines : List ℕ) → Listing
  TooMany : (count : ℕ) → Listing
  TooManyChosen : (count : ℕ) → Listing

-- ---- lines

-- a place is one of these
abbrev pub is_among : List ℕ → ℕ → Bool
is_among places place = list_any (λ p. p == place) places

-- a line for each loop from a place on, in their order: those at the chosen places are chosen
abbrev pub lines_from : ℕ → List ℕ → List Judged → List ℕ
lines_from place chosen [] = []
lines_from place chosen (j ∷ all) = loop_line j (is_among chosen place) ++ lines_from (suc place) chosen all

abbrev pub lines_of : List ℕ → List Judged → List ℕ
lines_of chosen all = lines_from 0 chosen all

-- the lines of the loops of an executable of which not too many words are reached and not too many loops chosen
pub record AreLines (elf : Elf) (lines : List ℕ) : Type 0 where
  pub graph : Graph
  pub shapes : List LoopShape
  pub all : List Judged
  pub verdicts : AreVerdicts elf graph shapes all
  pub chosen : List ℕ
  pub are_chosen : AreChosen all chosen
  pub are : lines ≡ lines_of chosen all

abbrev pub IsListing : Elf → Listing → Type 0
IsListing elf (Lines lines) = AreLines elf lines
IsListing elf (TooMany count) = (count ≡ word_limit + 1) × ReachesTooMany elf
IsListing elf (TooManyChosen count) = ChoosesTooMany elf count

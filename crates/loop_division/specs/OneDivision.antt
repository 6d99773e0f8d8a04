-- An executable has one division, or is refused for one reason.
use Rattle.std.specs.Prelude.{ℕ, ◌≡◌, ◌<◌, ◌^◌, List, Some}
use Rattle.elf_image.specs.declared.image.Elf.{Elf}
use Rattle.loop_data.specs.declared.graph.Graph.{Graph}
use Rattle.loop_data.specs.declared.shape.LoopShape.{LoopShape}
use Rattle.loop_choice.specs.declared.judged.Judged.{Judged}
use Rattle.rv64_decode.specs.XTable.{decoded_x}
use Rattle.rv64_decode.specs.declared.xinstr.XInstr.{XInstr}
use Rattle.image_writer.specs.declared.image.Entry.{Entry}
use Rattle.loop_division.specs.Division.{IsDivision, IsTooLong}
use Rattle.loop_division.specs.LoopVerdicts.{AreVerdicts, ReachesTooMany, ChoosesTooMany}

-- an instruction of added code has one word
abbrev pub OneWordLaw : Type 0
OneWordLaw = (i : XInstr) (v w : ℕ) → v < 2 ^ 32 → w < 2 ^ 32 → decoded_x v ≡ Some i → decoded_x w ≡ Some i → v ≡ w

-- two lists of the verdicts of an executable are the same
abbrev pub OneVerdictsLaw : Type 0
OneVerdictsLaw = (elf : Elf) (g h : Graph) (shapes loops : List LoopShape) (all others : List Judged)
    → AreVerdicts elf g shapes all → AreVerdicts elf h loops others → all ≡ others

-- two divisions of an executable are the same
abbrev pub OneDivisionLaw : Type 0
OneDivisionLaw = (elf : Elf) (entries others : List Entry) (code second : List ℕ) → IsDivision elf entries code
    → IsDivision elf others second → (entries ≡ others) × (code ≡ second)

-- and one that has a division is refused for no reason
pub record ApartLaw : Type 0 where
  pub words : (elf : Elf) (entries : List Entry) (code : List ℕ) → IsDivision elf entries code → ¬ ReachesTooMany elf
  pub loops : (elf : Elf) (entries : List Entry) (code : List ℕ) (n : ℕ) → IsDivision elf entries code
      → ¬ ChoosesTooMany elf n
  pub room : (elf : Elf) (entries : List Entry) (code : List ℕ) (n : ℕ) → IsDivision elf entries code
      → ¬ IsTooLong elf n

-- where too many loops are chosen it is by one count, and so where too many words would be added, for which not too many
-- loops are chosen
pub record OneRefusalLaw : Type 0 where
  pub loops : (elf : Elf) (m n : ℕ) → ChoosesTooMany elf m → ChoosesTooMany elf n → m ≡ n
  pub room : (elf : Elf) (m n : ℕ) → IsTooLong elf m → IsTooLong elf n → m ≡ n
  pub apart : (elf : Elf) (m n : ℕ) → ChoosesTooMany elf m → ¬ IsTooLong elf n

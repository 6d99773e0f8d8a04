-- Words by what matters of them to loops.
use Rattle.std.specs.Prelude.{ℕ, ◌≡◌, ◌<◌, ◌↔◌, List, length, slice_index_or, ◌==◌, ◌&&◌, ◌||◌, not, Bool, true, false, Option, Some, None, IsTrue}
use Rattle.std.specs.List.{Contains}
use Rattle.rv64_decode.specs.Table.{decoded}
use Rattle.rv64_decode.specs.declared.instr.Instr.{Instr}
use Rattle.rv64_decode.specs.declared.instr.Instr.TheVariants.{Upper, Branch, Jal, Jalr, Ecall}
use Rattle.rv64_decode.specs.declared.instr.UpperOp.TheVariants.{Auipc}
use Rattle.loop_data.specs.declared.graph.Word.{Word}
use Rattle.loop_data.specs.declared.graph.Graph.{Graph}
use Rattle.loop_shapes.specs.declared.kind.Class.{Class}
use Rattle.loop_shapes.specs.declared.kind.Class.TheVariants.{Jump, RegisterJump, Ask, Nothing, Fork, UpperPc, Other}
use Rattle.loop_shapes.specs.declared.kind.Kind.{Kind}
use Rattle.loop_shapes.specs.declared.kind.Kind.TheVariants.{Calls, Asks, JumpsAnywhere, IsNothing, Branches}
use Rattle.loop_data.specs.Instructions.{IsPaired}
use Rattle.loop_shapes.specs.Places.{at, count_of}

-- the class of an instruction
abbrev pub class_of : Option Instr → Class
class_of None = Nothing
class_of (Some (Jal rd imm)) = Jump rd
class_of (Some (Jalr rd rs1 imm)) = RegisterJump rd rs1
class_of (Some Ecall) = Ask
class_of (Some (Branch op rs1 rs2 imm)) = Fork
class_of (Some (Upper Auipc rd imm)) = UpperPc rd
class_of (Some _) = Other

-- the reached word at x has this class
pub record IsWordOfClass (G : Graph) (x : ℕ) (class : Class) : Type 0 where
  pub word : Word
  pub among : Contains G.words word
  pub at : word.at ≡ x
  pub is : class_of (decoded word.bits) ≡ class

-- where the word is a jump through a register, whether the word before sets it
abbrev pub HasPairing : Graph → ℕ → Class → Bool → Type 0
HasPairing G x (RegisterJump rd rs1) paired = IsTrue paired ↔ IsPaired G x rs1
HasPairing G x _ paired = Unit {0}

-- what a word of a class does
abbrev pub does_of : Kind → Class → Bool → Bool
does_of Calls (Jump rd) paired = not (rd == 0)
does_of Calls (RegisterJump rd rs1) paired = not (rd == 0) && paired
does_of Asks Ask paired = true
does_of JumpsAnywhere (RegisterJump rd rs1) paired = (rd == 0) || not paired
does_of IsNothing Nothing paired = true
does_of Branches Fork paired = true
does_of _ _ paired = false

-- the classes of the words, by their places
pub record AreClasses (G : Graph) (classes : List Class) : Type 0 where
  pub count : length classes ≡ count_of G
  pub each : (i : ℕ) → i < count_of G → IsWordOfClass G (at G i) (slice_index_or classes i Nothing)

-- The copies of a loop's words, one after the other as they are appended.
use Rattle.std.specs.Prelude.{ℕ, ◌≡◌, ◌+◌, ◌<◌, ◌≤◌, ◌^◌, List, length, Some, slice_get, slice_index, ℤ}
use Rattle.rv64_decode.specs.Row.{plus_offset, signed64}
use Rattle.rv64_decode.specs.declared.instr.UpperOp.TheVariants.{Auipc}
use Rattle.rv64_decode.specs.declared.instr.Instr.TheVariants.{Upper}
use Rattle.rv64_decode.specs.declared.xinstr.XInstr.{XInstr}
use Rattle.loop_data.specs.declared.graph.Graph.{Graph}
use Rattle.loop_data.specs.declared.shape.Level.{Level}
use Rattle.loop_data.specs.Executing.{AreProgramWords, AreCellWords}
use Rattle.loop_data.specs.Instructions.{Means}
use Rattle.loop_data.specs.Locations.{CellMap}
use Rattle.loop_data.specs.LoopCode.{LoopCode, code_of}
use Rattle.loop_data.specs.LoopWords.{AreNest}
use Rattle.loop_data.specs.Lookups.{AreFew}
use Rattle.loop_data.specs.Nests.{Holds}
use Rattle.stub_laws.specs.Code.{readings, somes}
use Rattle.check_numbers.specs.Sums.{IsShort}
use Rattle.turn_copies.specs.Copies.{Placed, Copies, in_order, end_in, body_code}
use Rattle.turn_copies.specs.Bodies.{IsBody, IsOrdered}

-- words that stand for instructions stand in the code, and so do these instructions
abbrev pub PlacedLaw : Type 0
PlacedLaw = (code words : List ℕ) (p : ℕ) (is : List XInstr) → readings words ≡ somes is
    → ((j : ℕ) → j < length words → slice_get code (p + j) ≡ Some (slice_index words j)) → Placed code p is

-- the copies of a body that are put down in order are its copies
abbrev pub BodyLaw : Type 0
BodyLaw = (code : List ℕ) (l : Level) (B : LoopCode) (p : ℕ) → IsBody l B → IsOrdered l B
    → end_in l B l.body p ≤ 2 ^ 32 → Placed code p (body_code l B p) → Copies code l B (in_order l B p)

-- where they end is behind all of them
abbrev pub SizeLaw : Type 0
SizeLaw = (l : Level) (B : LoopCode) (p : ℕ) → p + length (body_code l B p) ≡ end_in l B l.body p

-- each auipc of a loop gives a signed number of 32 bits
abbrev pub HasShortValues : Graph → Level → Type 0
HasShortValues G l = (u rd : ℕ) (imm : ℤ) → Holds l u → Means G u (Some (Upper Auipc rd imm))
    → IsShort (signed64 (plus_offset u imm))

-- the root of a nest is such a body
abbrev pub NestLaw : Type 0
NestLaw = (G : Graph) (levels : List Level) (C : CellMap) (nest : AreNest G levels) → AreProgramWords G
    → AreCellWords nest.root (code_of G C) → AreFew C → HasShortValues G nest.root
    → ((u : ℕ) → Holds nest.root u → u < 2 ^ 63)
    → IsBody nest.root (code_of G C) × IsOrdered nest.root (code_of G C)

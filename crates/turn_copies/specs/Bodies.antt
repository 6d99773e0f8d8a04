-- What is known of a loop whose turns are executed apart: of its words, and of a run that arrives at it.
use Rattle.std.specs.Prelude.{ℕ, ◌≡◌, ◌≢◌, ◌<◌, ◌%◌, ◌^◌, ◌⊎◌, true, false, ℤ, Some}
use Rattle.std.specs.List.Sorted.{IsStrictlyIncreasing}
use Rattle.rv64_decode.specs.Fetched.{instr_at}
use Rattle.rv64_decode.specs.Range.{AreWords, AreBytes}
use Rattle.rv64_decode.specs.Row.{plus_offset, next_pc, signed64}
use Rattle.rv64_decode.specs.declared.instr.BranchOp.{BranchOp}
use Rattle.rv64_decode.specs.declared.instr.UpperOp.TheVariants.{Auipc}
use Rattle.rv64_decode.specs.declared.instr.Instr.{Instr}
use Rattle.rv64_decode.specs.declared.instr.Instr.TheVariants.{Upper, Branch}
use Rattle.rv64_decode.specs.declared.outcome.Next.TheVariants.{At}
use Rattle.loop_data.specs.declared.shape.Level.{Level}
use Rattle.loop_data.specs.Executing.{AreCellWords, AreWhole}
use Rattle.loop_data.specs.Independent.{Role, Independent}
use Rattle.loop_data.specs.LoopCode.{LoopCode}
use Rattle.loop_data.specs.LoopWords.{IsPlainInstr, next_words}
use Rattle.loop_data.specs.Lookups.{AreFew}
use Rattle.loop_data.specs.Nests.{has, Holds}
use Rattle.loop_data.specs.Runs.{State, run, walk, instr}
use Rattle.loop_data.specs.Turns.{turn}
use Rattle.check_numbers.specs.Sums.{IsShort}

-- an auipc gives a signed number of 32 bits
abbrev pub HasShortValue : ℕ → Instr → Type 0
HasShortValue u (Upper Auipc rd imm) = IsShort (signed64 (plus_offset u imm))
HasShortValue u i = Unit {0}

-- the word at an address stands for an instruction that leads on by itself
pub record IsBodyWord (B : LoopCode) (u : ℕ) : Type 0 where
  pub does : Instr
  pub is : B.instr u ≡ Some does
  pub plain : IsPlainInstr does
  pub short : HasShortValue u does

-- one of the two words to which a branch leads is outside the loop
pub record IsLeft (l : Level) (B : LoopCode) : Type 0 where
  pub op : BranchOp
  pub rs1 : ℕ
  pub rs2 : ℕ
  pub imm : ℤ
  pub is : B.instr l.exit ≡ Some (Branch op rs1 rs2 imm)
  pub out : (has l.body (plus_offset l.exit imm) ≡ false) ⊎ (has l.body (next_pc l.exit) ≡ false)

-- the words of a loop
pub record IsBody (l : Level) (B : LoopCode) : Type 0 where
  pub header : Holds l l.header
  pub words : (u : ℕ) → Holds l u → IsBodyWord B u
  pub left : IsLeft l B
  pub cells : AreCellWords l B
  pub few : AreFew B.cells

-- they stand in address order, below 2 ^ 63 and at multiples of 4, and all but the one at which the loop is left lead
-- on inside
pub record IsOrdered (l : Level) (B : LoopCode) : Type 0 where
  pub ordered : IsStrictlyIncreasing l.body
  pub low : (u : ℕ) → Holds l u → u < 2 ^ 63
  pub aligned : (u : ℕ) → Holds l u → u % 4 ≡ 0
  pub inside : (u v : ℕ) (i : Instr) → Holds l u → u ≢ l.exit → B.instr u ≡ Some i → has (next_words i u) v ≡ true
      → Holds l v

-- the first p turns from a state that has arrived at the loop are independent, and execute its words. Registers are
-- words and bytes bytes, and areas begin and end at multiples of 8
pub record IsDivided (l : Level) (B : LoopCode) (roles : ℕ → Role) (s : State) (p : ℕ) : Type 0 where
  pub independent : Independent l B.cells roles s p
  pub start : s.next ≡ At l.header
  pub registers : AreWords s.regs
  pub bytes : AreBytes s.memory
  pub whole : AreWhole s.memory
  pub first : (u : ℕ) → Holds l u → instr_at s.memory u ≡ B.instr u
  pub words : (n : ℕ) → turn l s n < p → instr (run s n) ≡ B.instr (walk s n)

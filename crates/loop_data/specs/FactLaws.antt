-- When the facts at the words of a loop are true of a run.
use Rattle.std.specs.Prelude.{ℕ, ◌≡◌, ◌<◌, ◌≤◌, Bool, true, false, List, Option, Some, ℤ, ◌+ℤ◌}
use Rattle.rv64_decode.specs.declared.instr.Instr.{Instr}
use Rattle.rv64_decode.specs.declared.instr.Instr.TheVariants.{Alu, AluImm, Store}
use Rattle.rv64_decode.specs.declared.instr.AluOp.TheVariants.{Addw, Subw}
use Rattle.rv64_decode.specs.declared.instr.ImmOp.TheVariants.{Addiw}
use Rattle.rv64_decode.specs.declared.instr.StoreOp.TheVariants.{Sw}
use Rattle.rv64_decode.specs.declared.outcome.Next.TheVariants.{At}
use Rattle.linear_forms.specs.Forms.{Alike}
use Rattle.loop_data.specs.declared.graph.Graph.{Graph}
use Rattle.loop_data.specs.declared.shape.Level.{Level}
use Rattle.loop_data.specs.Nests.{Nest, nest_of, IsNest, Among, Holds}
use Rattle.loop_data.specs.LoopWords.{AreNest}
use Rattle.loop_data.specs.Runs.{State, walk}
use Rattle.loop_data.specs.Turns.{turn, IsArrival}
use Rattle.loop_data.specs.Locations.{CellMap}
use Rattle.loop_data.specs.LoopCode.{LoopCode, code_of, writes}
use Rattle.loop_data.specs.Facts.{Fact, Number, Offset, fact_after}
use Rattle.loop_data.specs.FactPass.{AreFacts}
use Rattle.loop_data.specs.Executing.{AreProgramWords, AreCellWords, Executes, AreAtCells, LeavesCells, value_at, arrival, IsOf32Bits}

-- the value that a fact gives, where the locations have these values at the arrival
abbrev pub fact_value : (ℕ → ℤ) → Fact → ℤ
fact_value base (Number z) = z
fact_value base (Offset q z) = base q +ℤ z

-- each location with a fact at the word of visit n has the value that the fact gives, over those at the last
-- arrival at the loop's header
abbrev pub FactsHoldAt : Level → CellMap → (ℕ → ℕ → Option Fact) → State → ℕ → Type 0
FactsHoldAt l C V s n = (r : ℕ) (x : Fact) → V (walk s n) r ≡ Some x
    → Alike (value_at C s n r) (fact_value (value_at C s (arrival l s n)) x)

-- a sum or a difference of numbers of 32 bits, or a store of one
abbrev pub is_short_sum : Option Instr → Bool
is_short_sum (Some (Alu Addw rd rs1 rs2)) = true
is_short_sum (Some (Alu Subw rd rs1 rs2)) = true
is_short_sum (Some (AluImm Addiw rd rs1 imm)) = true
is_short_sum (Some (Store Sw rs1 rs2 imm)) = true
is_short_sum _ = false

-- what such a word writes since that arrival and before visit n, and the pass sees as the value of a location and
-- a number, loses no bits
abbrev pub KeepsBits : Level → LoopCode → (ℕ → ℕ → Option Fact) → State → ℕ → Type 0
KeepsBits l B V s n = (m r q : ℕ) (z : ℤ) → arrival l s n ≤ m → m < n → is_short_sum (B.instr (walk s m)) ≡ true
    → writes B (walk s m) r ≡ true → fact_after B (walk s m) (V (walk s m)) r ≡ Some (Offset q z)
    → IsOf32Bits (value_at B.cells s (arrival l s n) q +ℤ z)

-- where a run executes the words of a loop of a nest, those that use a cell access its bytes and no others write
-- them, and no such word loses bits, the facts of the loop's pass hold
abbrev pub FactLaw : Type 0
FactLaw = (G : Graph) (levels : List Level) (nest : AreNest G levels) → AreProgramWords G →
    let N = nest_of G nest.root nest.inner in
    (C : CellMap) →
    let B = code_of G C in
    (l : Level) (V : ℕ → ℕ → Option Fact) (s : State) (n : ℕ) → Among N l → AreFacts N B l V → AreCellWords l B
    → Executes l B s n → AreAtCells C s n → LeavesCells C s n → KeepsBits l B V s n → FactsHoldAt l C V s n

-- `arrival` is a visit at which a turn arrived, that of visit n, and none later than this
abbrev pub ArrivalLaw : Type 0
ArrivalLaw = (l : Level) (s : State) (n : ℕ) → s.next ≡ At l.header
    → IsArrival l s (turn l s n) (arrival l s n) × (arrival l s n ≤ n)

-- the equations of the pass over a loop have a solution
abbrev pub SomePassLaw : Type 0
SomePassLaw = (N : Nest) (B : LoopCode) (l : Level) → IsNest N → Among N l
    → (V : ℕ → ℕ → Option Fact) × AreFacts N B l V

-- and no other at the words of the loop
abbrev pub OnePassLaw : Type 0
OnePassLaw = (N : Nest) (B : LoopCode) (l : Level) (V W : ℕ → ℕ → Option Fact) → IsNest N → Among N l
    → AreFacts N B l V → AreFacts N B l W → (v r : ℕ) → Holds l v → V v r ≡ W v r

-- The words of loops, and what the levels of a loop promise.
use Rattle.std.specs.Prelude.{ℕ, ◌≡◌, ◌≤◌, ◌↔◌, ◌%◌, true, List, [], ◌∷◌, length, map, Some}
use Rattle.std.specs.List.{Contains}
use Rattle.std.specs.List.Sorted.{IsStrictlyIncreasing}
use Rattle.rv64_decode.specs.Row.{plus_offset, next_pc}
use Rattle.rv64_decode.specs.declared.instr.Instr.{Instr}
use Rattle.rv64_decode.specs.declared.instr.Instr.TheVariants.{Branch, Jal, Jalr, Ecall, Ebreak}
use Rattle.loop_data.specs.declared.graph.Graph.{Graph}
use Rattle.loop_data.specs.declared.shape.Level.{Level}
use Rattle.loop_data.specs.Paths.{Leads}
use Rattle.loop_data.specs.Instructions.{Means, IsBranch}
use Rattle.loop_data.specs.Nests.{has, Among, nest_of, IsNest}

-- the words to which an instruction leads in a loop
abbrev pub next_words : Instr → ℕ → List ℕ
next_words (Branch op rs1 rs2 imm) pc = next_pc pc ∷ plus_offset pc imm ∷ []
next_words (Jal rd imm) pc = plus_offset pc imm ∷ []
next_words (Jalr rd rs1 imm) pc = []
next_words Ecall pc = []
next_words Ebreak pc = []
next_words _ pc = next_pc pc ∷ []

-- an instruction that leads to those words alone
abbrev pub IsPlainInstr : Instr → Type 0
IsPlainInstr (Jal rd imm) = rd ≡ 0
IsPlainInstr (Jalr rd rs1 imm) = ⊥
IsPlainInstr Ecall = ⊥
IsPlainInstr Ebreak = ⊥
IsPlainInstr _ = Unit {0}

-- a word of a loop
pub record IsLoopWord (G : Graph) (u : ℕ) : Type 0 where
  pub instr : Instr
  pub means : Means G u (Some instr)
  pub plain : IsPlainInstr instr
  pub aligned : u % 4 ≡ 0
  pub leads : (v : ℕ) → Leads G u v ↔ Contains (next_words instr u) v

-- what the levels of a listed loop without an early verdict promise: the root first, and then its inner
-- loops, in order of their headers
pub record AreNest (G : Graph) (levels : List Level) : Type 0 where
  pub root : Level
  pub inner : List Level
  pub are : levels ≡ root ∷ inner
  pub few : length inner ≤ 3
  pub inner_ordered : IsStrictlyIncreasing (map (λ (l : Level). l.header) inner)
  pub nest : IsNest (nest_of G root inner)
  pub ordered : (l : Level) → Among (nest_of G root inner) l → IsStrictlyIncreasing l.body
  pub short : length root.body ≤ 256
  pub words : (u : ℕ) → has root.body u ≡ true → IsLoopWord G u
  pub branches : (l : Level) → Among (nest_of G root inner) l → IsBranch G l.exit

-- and the root is the loop at h
pub record AreNestAt (G : Graph) (h : ℕ) (levels : List Level) : Type 0 where
  pub nest : AreNest G levels
  pub root_header : nest.root.header ≡ h

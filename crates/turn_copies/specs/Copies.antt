-- The words of a loop's body as they are copied into added code: what stands for each, and all of them one after the
-- other. A cell is a slot there, a branch and a jump lead to the copy of their target, and where they lead to the
-- loop's header, to the place behind a turn.
use Rattle.std.specs.Prelude.{ℕ, suc, ◌≡◌, ◌==◌, ◌&&◌, ◌+◌, ◌≤◌, ◌^◌, if◌then◌else◌, Bool, true, false, List, [], ◌∷◌, ◌++◌, ℤ, pos, Option, Some, None}
use Rattle.rv64_decode.specs.Aim.{distance}
use Rattle.rv64_decode.specs.Hart.{address, fetched}
use Rattle.rv64_decode.specs.Row.{plus_offset, next_pc, signed64}
use Rattle.rv64_decode.specs.declared.instr.ImmOp.TheVariants.{Addiw}
use Rattle.rv64_decode.specs.declared.instr.LoadOp.TheVariants.{Lw}
use Rattle.rv64_decode.specs.declared.instr.UpperOp.TheVariants.{Lui, Auipc}
use Rattle.rv64_decode.specs.declared.instr.Instr.{Instr}
use Rattle.rv64_decode.specs.declared.instr.Instr.TheVariants.{AluImm, Upper, Load, Store, Branch, Jal}
use Rattle.rv64_decode.specs.declared.xinstr.XInstr.{XInstr}
use Rattle.rv64_decode.specs.declared.xinstr.XInstr.TheVariants.{Base, Put, Get}
use Rattle.loop_data.specs.declared.shape.Level.{Level}
use Rattle.loop_data.specs.LoopCode.{LoopCode}
use Rattle.loop_data.specs.Nests.{has, Holds}
use Rattle.stub_laws.specs.Places.{behind}
use Rattle.check_numbers.specs.Parts.{low_part, high_part}

-- these instructions stand in the code from this place on
abbrev pub Placed : List ℕ → ℕ → List XInstr → Type 0
Placed code p [] = Unit {0}
Placed code p (i ∷ is) = (fetched code (address p) ≡ Some i) × Placed code (suc p) is

-- the place of each word's copy, and the place behind a turn
pub record Placing : Type 0 where
  pub place : ℕ → ℕ
  pub next : ℕ

-- where a copy goes on for an address
abbrev pub arrive : Level → Placing → ℕ → ℕ
arrive l c u = if u == l.header then c.next else c.place u

-- a word is the branch at which the loop is left, it accesses a cell, or it is copied for what it is
pub data Kind : Type 0 where
  Leaving : Kind
  OfCell : (k : ℕ) → Kind
  Plain : Kind

abbrev pub kind_by : Bool → Option ℕ → Kind
kind_by true uses = Leaving
kind_by false (Some k) = OfCell k
kind_by false None = Plain

abbrev pub kind_of : Level → LoopCode → ℕ → Kind
kind_of l B u = kind_by (u == l.exit) (B.cells.uses u)

-- of the two words to which a branch leads, the one in the loop
abbrev pub staying : Level → ℕ → Instr → ℕ
staying l u (Branch op rs1 rs2 imm) = if has l.body (plus_offset u imm) then plus_offset u imm else next_pc u
staying l u i = next_pc u

-- a jump from one place to another
abbrev pub jump_to : ℕ → ℕ → XInstr
jump_to to from = Base (Jal 0 (distance to from))

-- a number into a register
abbrev pub number_into : ℕ → ℤ → List XInstr
number_into rd v = Base (Upper Lui rd (high_part v)) ∷ Base (AluImm Addiw rd rd (low_part v)) ∷ []

-- what stands for the instruction at an address, of this kind. Turns that are copied stay in the loop, so that the
-- branch at which it is left is a jump
abbrev pub word_code : Level → Placing → ℕ → Kind → Instr → List XInstr
word_code l c u Leaving i = jump_to (arrive l c (staying l u i)) (c.place u) ∷ []
word_code l c u (OfCell k) (Load Lw rd rs1 imm) = Get rd k ∷ Base (AluImm Addiw rd rd (pos 0)) ∷ []
word_code l c u (OfCell k) (Load op rd rs1 imm) = Get rd k ∷ []
word_code l c u (OfCell k) (Store op rs1 rs2 imm) = Put k rs2 ∷ []
word_code l c u (OfCell k) i = []
word_code l c u Plain (Upper Auipc rd imm) = number_into rd (signed64 (plus_offset u imm))
word_code l c u Plain (Branch op rs1 rs2 imm) =
    Base (Branch op rs1 rs2 (distance (arrive l c (plus_offset u imm)) (c.place u))) ∷ []
word_code l c u Plain (Jal rd imm) = jump_to (arrive l c (plus_offset u imm)) (c.place u) ∷ []
word_code l c u Plain i = Base i ∷ []

-- the word behind an instruction may be the next one
abbrev pub falls_through : Instr → Bool
falls_through (Jal rd imm) = false
falls_through i = true

-- behind a word that may lead on to the header, a jump to the place behind the turn
abbrev pub back_code : Level → Placing → ℕ → ℕ → Instr → List XInstr
back_code l c p u i = if falls_through i && (next_pc u == l.header) then jump_to c.next p ∷ [] else []

abbrev pub copy_by : Level → Placing → ℕ → Kind → Instr → List XInstr
copy_by l c u kind i = word_code l c u kind i ++ back_code l c (behind (c.place u) (word_code l c u kind i)) u i

abbrev pub copy_of : Level → Placing → ℕ → Kind → Option Instr → List XInstr
copy_of l c u kind None = []
copy_of l c u kind (Some i) = copy_by l c u kind i

-- the copy of the word at an address
abbrev pub copy_code : Level → LoopCode → Placing → ℕ → List XInstr
copy_code l B c u = copy_of l c u (kind_of l B u) (B.instr u)

-- the copy of a word leads on to its end
abbrev pub goes_on_by : Kind → Option Instr → Bool
goes_on_by Leaving i = false
goes_on_by kind None = false
goes_on_by kind (Some i) = falls_through i

abbrev pub goes_on : Level → LoopCode → ℕ → Bool
goes_on l B u = goes_on_by (kind_of l B u) (B.instr u)

-- the copies of a loop's words stand in the code at their places: where one may lead on to the next word, which is not
-- the header, that word's copy is behind it
pub record Copies (code : List ℕ) (l : Level) (B : LoopCode) (c : Placing) : Type 0 where
  pub stand : (u : ℕ) → Holds l u → Placed code (c.place u) (copy_code l B c u)
  pub follow : (u : ℕ) → Holds l u → goes_on l B u ≡ true → (next_pc u == l.header) ≡ false
      → c.place (next_pc u) ≡ behind (c.place u) (copy_code l B c u)
  pub near : (u : ℕ) → c.place u ≤ 2 ^ 32
  pub next_near : c.next ≤ 2 ^ 32

-- the number of words of a copy
abbrev pub word_size : Kind → Instr → ℕ
word_size (OfCell k) (Load Lw rd rs1 imm) = 2
word_size (OfCell k) (Load op rd rs1 imm) = 1
word_size (OfCell k) (Store op rs1 rs2 imm) = 1
word_size (OfCell k) i = 0
word_size Plain (Upper Auipc rd imm) = 2
word_size kind i = 1

abbrev pub back_size : Level → ℕ → Instr → ℕ
back_size l u i = if falls_through i && (next_pc u == l.header) then 1 else 0

abbrev pub size_of : Level → ℕ → Kind → Option Instr → ℕ
size_of l u kind None = 0
size_of l u kind (Some i) = word_size kind i + back_size l u i

abbrev pub copy_size : Level → LoopCode → ℕ → ℕ
copy_size l B u = size_of l u (kind_of l B u) (B.instr u)

-- where a word's copy begins, if those of the body begin at this place and stand in order, and where they end
abbrev pub place_in : Level → LoopCode → List ℕ → ℕ → ℕ → ℕ
place_in l B [] p u = p
place_in l B (v ∷ vs) p u = if v == u then p else place_in l B vs (p + copy_size l B v) u

abbrev pub end_in : Level → LoopCode → List ℕ → ℕ → ℕ
end_in l B [] p = p
end_in l B (v ∷ vs) p = end_in l B vs (p + copy_size l B v)

-- the copies in address order, and behind them the end of a turn
abbrev pub in_order : Level → LoopCode → ℕ → Placing
in_order l B p = record { place = place_in l B l.body p; next = end_in l B l.body p }

abbrev pub copies_code : Level → LoopCode → Placing → List ℕ → List XInstr
copies_code l B c [] = []
copies_code l B c (u ∷ us) = copy_code l B c u ++ copies_code l B c us

-- the copies of a loop's body, where the first stands at this place
abbrev pub body_code : Level → LoopCode → ℕ → List XInstr
body_code l B p = copies_code l B (in_order l B p) l.body

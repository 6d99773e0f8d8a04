-- An instruction whose access is not refused goes on.
use Rattle.std.proofs.Common.{◌≡◌, ℕ, ◌%◌, List, [], ◌∷◌, Bool, true, false, if◌then◌else◌, Option, Some, None, Result, Ok, Err, refl, ap, ◌==◌}
use Rattle.rv64_decode.specs.Ask.{Ask, Nothing, Loads, Stores, answer, without_number}
use Rattle.rv64_decode.specs.Area.{Area, why, bytes_of, number_at, readable_of, writable_of, or_refusal}
use Rattle.rv64_decode.specs.Registers.{register, with_register}
use Rattle.rv64_decode.specs.Row.{row, next_pc, plus_offset, onward, jump, loaded, stored, taken}
use Rattle.rv64_decode.specs.declared.instr.Instr.{Instr}
use Rattle.rv64_decode.specs.declared.instr.Instr.TheVariants.{Alu, AluImm, Upper, Load, Store, Branch, Jal, Jalr, Fence, Ecall, Ebreak}
use Rattle.rv64_decode.specs.declared.instr.LoadOp.{LoadOp}
use Rattle.rv64_decode.specs.declared.memory.MemFault.{MemFault}
use Rattle.rv64_decode.specs.declared.outcome.Next.TheVariants.{At}
use Rattle.loop_data.specs.Nests.{has}
use Rattle.loop_data.specs.LoopWords.{next_words, IsPlainInstr}
use Rattle.loop_data.specs.Runs.{unless_denied, granted}
use Rattle.loop_data.proofs.Tests.{is_eq}

-- what is asked is not refused
abbrev pub IsAllowed : List Area → Ask → Type 0
IsAllowed m Nothing = Unit {0}
IsAllowed m (Loads addr width) = why readable_of m addr width ≡ None
IsAllowed m (Stores addr width value) = why writable_of m addr width ≡ None

-- and so it is granted
pub is_granted : (m : List Area) (a : Ask) → IsAllowed m a → granted m a ≡ a
is_granted m Nothing h = refl
is_granted m (Loads addr width) h = ap (λ o. unless_denied (or_refusal o (number_at (bytes_of width) m addr)) (Loads addr width)) h
is_granted m (Stores addr width value) h = ap (λ o. unless_denied (without_number (or_refusal o tt)) (Stores addr width value)) h

abbrev pub IsAnswered : Result ℕ MemFault → Type 0
IsAnswered (Ok n) = Unit {0}
IsAnswered (Err why) = ⊥

pub is_answered : (m : List Area) (a : Ask) → IsAllowed m a → IsAnswered (answer m a)
is_answered m Nothing h = tt
is_answered m (Loads addr width) h = by (why readable_of m addr width) h
  where
    by : (o : Option MemFault) → o ≡ None → IsAnswered (or_refusal o (number_at (bytes_of width) m addr))
    by None e = tt
    by (Some f) e = absurd (cc)
is_answered m (Stores addr width value) h = by (why writable_of m addr width) h
  where
    by : (o : Option MemFault) → o ≡ None → IsAnswered (without_number (or_refusal o tt))
    by None e = tt
    by (Some f) e = absurd (cc)

loaded_on : (op : LoadOp) (rd addr pc : ℕ) (regs : List ℕ) (told : Result ℕ MemFault) → IsAnswered told → (loaded op rd addr pc regs told).next ≡ At (next_pc pc)
loaded_on op rd addr pc regs (Ok n) g = refl
loaded_on op rd addr pc regs (Err why) g = absurd g

stored_on : (addr pc : ℕ) (regs : List ℕ) (told : Result ℕ MemFault) → IsAnswered told → (stored addr pc regs told).next ≡ At (next_pc pc)
stored_on addr pc regs (Ok n) g = refl
stored_on addr pc regs (Err why) g = absurd g

jump_on : (to : ℕ) (old new : List ℕ) → to % 4 ≡ 0 → (jump to old new).next ≡ At to
jump_on to old new e = let k = is_eq (to % 4) 0 e in rw k refl

branch_on : (b : Bool) (pc to : ℕ) (regs : List ℕ) → to % 4 ≡ 0 → (v : ℕ) × ((if b then jump to regs regs else onward pc regs).next ≡ At v)
branch_on true pc to regs e = (to, jump_on to regs regs e)
branch_on false pc to regs e = (next_pc pc, refl)

has_this : (x : ℕ) (xs : List ℕ) → has (x ∷ xs) x ≡ true
has_this x xs = ap (λ b. if b then true else has xs x) (is_eq x x refl)

has_second : (x y : ℕ) → has (x ∷ y ∷ []) y ≡ true
has_second x y = go (x == y)
  where
    go : (b : Bool) → (if b then true else has (y ∷ []) y) ≡ true
    go true = refl
    go false = has_this y []

-- a plain instruction that is answered goes on, where the words to which it leads are aligned
pub goes_on : (i : Instr) (pc : ℕ) (regs : List ℕ) (told : Result ℕ MemFault) → IsPlainInstr i → IsAnswered told → ((v : ℕ) → has (next_words i pc) v ≡ true → v % 4 ≡ 0) → (v : ℕ) × ((row i pc regs told).next ≡ At v)
goes_on (Alu op rd rs1 rs2) pc regs told p g a = (next_pc pc, refl)
goes_on (AluImm op rd rs1 imm) pc regs told p g a = (next_pc pc, refl)
goes_on (Upper op rd imm) pc regs told p g a = (next_pc pc, refl)
goes_on (Load op rd rs1 imm) pc regs told p g a = (next_pc pc, loaded_on op rd _ pc regs told g)
goes_on (Store op rs1 rs2 imm) pc regs told p g a = (next_pc pc, stored_on _ pc regs told g)
goes_on (Branch op rs1 rs2 imm) pc regs told p g a =
    branch_on (taken op (register regs rs1) (register regs rs2)) pc (plus_offset pc imm) regs (a (plus_offset pc imm) (has_second (next_pc pc) (plus_offset pc imm)))
goes_on (Jal rd imm) pc regs told p g a = (plus_offset pc imm, jump_on (plus_offset pc imm) regs (with_register regs rd (next_pc pc)) (a (plus_offset pc imm) (has_this (plus_offset pc imm) [])))
goes_on (Jalr rd rs1 imm) pc regs told p g a = absurd p
goes_on (Fence rd rs1 imm) pc regs told p g a = (next_pc pc, refl)
goes_on Ecall pc regs told p g a = absurd p
goes_on Ebreak pc regs told p g a = absurd p

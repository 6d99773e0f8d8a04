-- Words that are copied as they stand: what they do to a hart.
use Rattle.std.proofs.Common.{◌≡◌, ℕ, suc, ◌<◌, refl, subst, ap, ◌∙◌, arith, Some, Ok, Bool, true, false, List}
use Rattle.std.specs.Prelude.{◌==◌, ◌||◌}
use Rattle.std.specs.Int.{w64, cast_unsigned}
use Rattle.rv64_decode.specs.Area.{Area}
use Rattle.rv64_decode.specs.Ask.{Ask, Nothing, Loads, Stores, answer, after}
use Rattle.rv64_decode.specs.Hart.{address, fetched, act, moved, logged}
use Rattle.rv64_decode.specs.Registers.{register, with_register}
use Rattle.rv64_decode.specs.Row.{alu, alu_imm, plus_offset, asks, row, extended, load_width, store_width, next_pc}
use Rattle.rv64_decode.specs.declared.instr.UpperOp.TheVariants.{Lui, Auipc}
use Rattle.rv64_decode.specs.declared.instr.Instr.{Instr}
use Rattle.rv64_decode.specs.declared.instr.Instr.TheVariants.{Alu, AluImm, Upper, Load, Store, Branch, Jal, Jalr, Fence, Ecall, Ebreak}
use Rattle.rv64_decode.specs.declared.xinstr.XInstr.{XInstr}
use Rattle.rv64_decode.specs.declared.xinstr.XInstr.TheVariants.{Base}
use Rattle.rv64_decode.specs.declared.xinstr.XNext.TheVariants.{Own}
use Rattle.loop_data.specs.Locations.{target, reads_register}
use Rattle.loop_data.proofs.Tests.{is_eq}
use Rattle.stub_laws.specs.Straight.{read, put}
use Rattle.stub_laws.proofs.Small.{fetched_small}
use Rattle.stub_laws.proofs.Steps.{World, Wins, Reaches, Reads, Holds, hart_at, go, next_address, place_small, reads_put}

-- no jump, no branch, no call, no use of pc
abbrev pub IsPlain : Instr → Type 0
IsPlain (Alu op rd rs1 rs2) = Unit {0}
IsPlain (AluImm op rd rs1 imm) = Unit {0}
IsPlain (Upper Lui rd imm) = Unit {0}
IsPlain (Load op rd rs1 imm) = Unit {0}
IsPlain (Store op rs1 rs2 imm) = Unit {0}
IsPlain (Fence rd rs1 imm) = Unit {0}
IsPlain i = ⊥

-- the access, by what the registers read
abbrev pub asked : Instr → (ℕ → ℕ) → Ask
asked (Load op rd rs1 imm) f = Loads (plus_offset (read f rs1) imm) (load_width op)
asked (Store op rs1 rs2 imm) f = Stores (plus_offset (read f rs1) imm) (store_width op) (read f rs2)
asked i f = Nothing

-- the value that is written, from the number that memory answered
abbrev pub given : Instr → (ℕ → ℕ) → ℕ → ℕ
given (Alu op rd rs1 rs2) f n = alu op (read f rs1) (read f rs2)
given (AluImm op rd rs1 imm) f n = alu_imm op (read f rs1) imm
given (Upper op rd imm) f n = cast_unsigned w64 imm
given (Load op rd rs1 imm) f n = extended op n
given i f n = 0

-- the same by a list of registers
abbrev pub given_by : Instr → List ℕ → ℕ → ℕ
given_by (Alu op rd rs1 rs2) regs n = alu op (register regs rs1) (register regs rs2)
given_by (AluImm op rd rs1 imm) regs n = alu_imm op (register regs rs1) imm
given_by (Upper op rd imm) regs n = cast_unsigned w64 imm
given_by (Load op rd rs1 imm) regs n = extended op n
given_by i regs n = 0

-- one register, the memory, and on to the next word
stepped : (w : World) (p : ℕ) (f g : ℕ → ℕ) (i : XInstr) (rd v u : ℕ) (m : List Area) (l : List Ask) (regs slots : List ℕ) → fetched w.code (address p) ≡ Some i → rd < 32
    → act (Some i) (hart_at w p regs slots) ≡ record { pc = next_pc (address p); regs = with_register regs rd u; slots = slots; memory = m; log = l; number = w.number; harts = w.harts } → u ≡ v → Reads regs f → Holds slots g
    → Wins (record w { memory = m; log = l }) (suc p) (put f rd v) g → Reaches w (hart_at w p regs slots)
stepped w p f g i rd v u m l regs slots e small is same a b h =
    let new = with_register regs rd u in
    go w (hart_at w p regs slots) (hart_at (record w { memory = m; log = l }) (suc p) new slots) i e
    (is ∙ ap (λ n. record { pc = n; regs = new; slots = slots; memory = m; log = l; number = w.number; harts = w.harts }) (next_address p (place_small w p i e)))
    (h.by new slots (subst (λ n. Reads new (put f rd n)) same (reads_put regs f rd u small a)) b)

-- what a plain word does
pub plain_law : (w : World) (p n : ℕ) (f g : ℕ → ℕ) (i : Instr) → IsPlain i → fetched w.code (address p) ≡ Some (Base i) → answer w.memory (asked i f) ≡ Ok n
    → Wins (record w { memory = after w.memory (asked i f); log = logged w.log (asked i f) }) (suc p) (put f (target i) (given i f n)) g → Wins w p f g
plain_law w p n f g (Alu op rd rs1 rs2) x e told h = record {
  by = λ regs slots a b.
      let small = fetched_small w.code (address p) _ e in
      stepped w p f g _ rd _ (alu op (register regs rs1) (register regs rs2)) w.memory w.log regs slots e small.0 refl
      (ap (λ y. alu op y (register regs rs2)) (a.each rs1 small.1) ∙ ap (alu op (read f rs1)) (a.each rs2 small.2)) a b h;
}
plain_law w p n f g (AluImm op rd rs1 imm) x e told h = record {
  by = λ regs slots a b.
      let small = fetched_small w.code (address p) _ e in
      stepped w p f g _ rd _ (alu_imm op (register regs rs1) imm) w.memory w.log regs slots e small.0 refl
      (ap (λ y. alu_imm op y imm) (a.each rs1 small.1)) a b h;
}
plain_law w p n f g (Upper Lui rd imm) x e told h = record {
  by = λ regs slots a b.
      stepped w p f g _ rd _ (cast_unsigned w64 imm) w.memory w.log regs slots e (fetched_small w.code (address p) _ e) refl refl a b h;
}
plain_law w p n f g (Upper Auipc rd imm) x e told h = absurd x
plain_law w p n f g (Load op rd rs1 imm) x e told h = record {
  by = λ regs slots a b.
      let small = fetched_small w.code (address p) _ e in
      let i = Load op rd rs1 imm in
      let same : Loads (plus_offset (register regs rs1) imm) (load_width op) ≡ Loads (plus_offset (read f rs1) imm) (load_width op) = ap (λ y. Loads (plus_offset y imm) (load_width op)) (a.each rs1 small.1) in
      stepped w p f g _ rd _ (extended op n) w.memory (logged w.log (asked i f)) regs slots e small.0
      (ap (λ k. moved (hart_at w p regs slots) (Own (row i (address p) regs (answer w.memory k)).next) (row i (address p) regs (answer w.memory k)).regs slots k) same
      ∙ ap (λ r. moved (hart_at w p regs slots) (Own (row i (address p) regs r).next) (row i (address p) regs r).regs slots (asked i f)) told) refl a b h;
}
plain_law w p n f g (Store op rs1 rs2 imm) x e told h = record {
  by = λ regs slots a b.
      let small = fetched_small w.code (address p) _ e in
      let i = Store op rs1 rs2 imm in
      let same : Stores (plus_offset (register regs rs1) imm) (store_width op) (register regs rs2) ≡ Stores (plus_offset (read f rs1) imm) (store_width op) (read f rs2) =
      ap (λ y. Stores (plus_offset y imm) (store_width op) (register regs rs2)) (a.each rs1 small.0) ∙ ap (λ y. Stores (plus_offset (read f rs1) imm) (store_width op) y) (a.each rs2 small.1) in
      stepped w p f g _ 0 0 0 (after w.memory (asked i f)) (logged w.log (asked i f)) regs slots e (omega arith)
      (ap (λ k. moved (hart_at w p regs slots) (Own (row i (address p) regs (answer w.memory k)).next) (row i (address p) regs (answer w.memory k)).regs slots k) same
      ∙ ap (λ r. moved (hart_at w p regs slots) (Own (row i (address p) regs r).next) (row i (address p) regs r).regs slots (asked i f)) told) refl a b h;
}
plain_law w p n f g (Fence rd rs1 imm) x e told h = record {
  by = λ regs slots a b.
      stepped w p f g _ 0 0 0 w.memory w.log regs slots e (omega arith) refl refl a b h;
}
plain_law w p n f g (Branch op rs1 rs2 imm) x e told h = absurd x
plain_law w p n f g (Jal rd imm) x e told h = absurd x
plain_law w p n f g (Jalr rd rs1 imm) x e told h = absurd x
plain_law w p n f g Ecall x e told h = absurd x
plain_law w p n f g Ebreak x e told h = absurd x

-- two sets of registers agree on those that an instruction reads
abbrev pub Sources : Instr → List ℕ → (ℕ → ℕ) → Type 0
Sources i regs f = (r : ℕ) → r < 32 → reads_register i r ≡ true → register regs r ≡ read f r

first_read : (a b : ℕ) → ((a == a) || (b == a)) ≡ true
first_read a b = ap (λ t. t || (b == a)) (is_eq a a refl)

second_read : (a b : ℕ) → ((a == b) || (b == b)) ≡ true
second_read a b = go (a == b) (b == b) (is_eq b b refl)
  where
    go : (t u : Bool) → u ≡ true → (t || u) ≡ true
    go true u e = refl
    go false u e = e

-- the registers that a plain word reads are among the 32
abbrev pub Within : Instr → Type 0
Within (Alu op rd rs1 rs2) = (rd < 32) × (rs1 < 32) × (rs2 < 32)
Within (AluImm op rd rs1 imm) = (rd < 32) × (rs1 < 32)
Within (Upper op rd imm) = rd < 32
Within (Load op rd rs1 imm) = (rd < 32) × (rs1 < 32)
Within (Store op rs1 rs2 imm) = (rs1 < 32) × (rs2 < 32)
Within i = Unit {0}

pub within_copy : (code : List ℕ) (p : ℕ) (i : Instr) → fetched code (address p) ≡ Some (Base i) → Within i
within_copy code p (Alu op rd rs1 rs2) e = fetched_small code (address p) _ e
within_copy code p (AluImm op rd rs1 imm) e = fetched_small code (address p) _ e
within_copy code p (Upper op rd imm) e = fetched_small code (address p) _ e
within_copy code p (Load op rd rs1 imm) e = fetched_small code (address p) _ e
within_copy code p (Store op rs1 rs2 imm) e = fetched_small code (address p) _ e
within_copy code p (Branch op rs1 rs2 imm) e = tt
within_copy code p (Jal rd imm) e = tt
within_copy code p (Jalr rd rs1 imm) e = tt
within_copy code p (Fence rd rs1 imm) e = tt
within_copy code p Ecall e = tt
within_copy code p Ebreak e = tt

pub target_within : (i : Instr) → IsPlain i → Within i → target i < 32
target_within (Alu op rd rs1 rs2) x h = h.0
target_within (AluImm op rd rs1 imm) x h = h.0
target_within (Upper Lui rd imm) x h = h
target_within (Upper Auipc rd imm) x h = absurd x
target_within (Load op rd rs1 imm) x h = h.0
target_within (Store op rs1 rs2 imm) x h = omega arith
target_within (Fence rd rs1 imm) x h = omega arith
target_within (Branch op rs1 rs2 imm) x h = absurd x
target_within (Jal rd imm) x h = absurd x
target_within (Jalr rd rs1 imm) x h = absurd x
target_within Ecall x h = absurd x
target_within Ebreak x h = absurd x

pub same_asks : (i : Instr) (regs : List ℕ) (f : ℕ → ℕ) → IsPlain i → Within i → Sources i regs f → asks i regs ≡ asked i f
same_asks (Load op rd rs1 imm) regs f x h s = ap (λ y. Loads (plus_offset y imm) (load_width op)) (s rs1 h.1 (is_eq rs1 rs1 refl))
same_asks (Store op rs1 rs2 imm) regs f x h s =
    ap (λ y. Stores (plus_offset y imm) (store_width op) (register regs rs2)) (s rs1 h.0 (first_read rs1 rs2))
    ∙ ap (λ y. Stores (plus_offset (read f rs1) imm) (store_width op) y) (s rs2 h.1 (second_read rs1 rs2))
same_asks (Alu op rd rs1 rs2) regs f x h s = refl
same_asks (AluImm op rd rs1 imm) regs f x h s = refl
same_asks (Upper op rd imm) regs f x h s = refl
same_asks (Fence rd rs1 imm) regs f x h s = refl
same_asks (Branch op rs1 rs2 imm) regs f x h s = absurd x
same_asks (Jal rd imm) regs f x h s = absurd x
same_asks (Jalr rd rs1 imm) regs f x h s = absurd x
same_asks Ecall regs f x h s = absurd x
same_asks Ebreak regs f x h s = absurd x

pub same_given : (i : Instr) (regs : List ℕ) (f : ℕ → ℕ) (n : ℕ) → IsPlain i → Within i → Sources i regs f → given_by i regs n ≡ given i f n
same_given (Alu op rd rs1 rs2) regs f n x h s =
    ap (λ y. alu op y (register regs rs2)) (s rs1 h.1 (first_read rs1 rs2)) ∙ ap (alu op (read f rs1)) (s rs2 h.2 (second_read rs1 rs2))
same_given (AluImm op rd rs1 imm) regs f n x h s = ap (λ y. alu_imm op y imm) (s rs1 h.1 (is_eq rs1 rs1 refl))
same_given (Upper op rd imm) regs f n x h s = refl
same_given (Load op rd rs1 imm) regs f n x h s = refl
same_given (Store op rs1 rs2 imm) regs f n x h s = refl
same_given (Fence rd rs1 imm) regs f n x h s = refl
same_given (Branch op rs1 rs2 imm) regs f n x h s = absurd x
same_given (Jal rd imm) regs f n x h s = absurd x
same_given (Jalr rd rs1 imm) regs f n x h s = absurd x
same_given Ecall regs f n x h s = absurd x
same_given Ebreak regs f n x h s = absurd x

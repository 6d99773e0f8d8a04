-- The effect of an instruction with two lists of registers.
use Rattle.std.proofs.Common.{ℕ, zero, suc, ◌≡◌, ◌==◌, ◌-◌, ◌%◌, ◌||◌, Bool, true, false, if◌then◌else◌, List, [], ◌∷◌, length, get_or, set, Result, Ok, Err, refl, sym, ap, subst, ◌∙◌, arith}
use Rattle.std.proofs.Math.Bool.{or-true, true-or}
use Rattle.rv64_decode.specs.Area.{Area}
use Rattle.rv64_decode.specs.Ask.{Loads, Stores, answer}
use Rattle.rv64_decode.specs.Registers.{register, with_register}
use Rattle.rv64_decode.specs.Row.{Outcome, asks, outcome, onward, stopped, jump, loaded, stored, extended, load_width, store_width, taken, plus_offset, alu, alu_imm, next_pc}
use Rattle.rv64_decode.specs.declared.memory.MemFault.{MemFault}
use Rattle.rv64_decode.specs.declared.outcome.Fault.TheVariants.{Target}
use Rattle.rv64_decode.specs.declared.outcome.Next.TheVariants.{At}
use Rattle.rv64_decode.specs.declared.instr.LoadOp.{LoadOp}
use Rattle.rv64_decode.specs.declared.instr.Instr.{Instr}
use Rattle.rv64_decode.specs.declared.instr.Instr.TheVariants.{Alu, AluImm, Upper, Load, Store, Branch, Jal, Jalr, Fence, Ecall, Ebreak}
use Rattle.loop_data.specs.Locations.{writes_register}
use Rattle.loop_data.specs.EffectLaws.{ReadsSame, HasSameEffect}
use Rattle.loop_data.proofs.Tests.{eq_of, is_eq}
use Rattle.loop_data.proofs.FormWords.{keeps}

-- a register that was set to one value in two lists of one length
set_alike : (x y : List ℕ) (r v : ℕ) → length x ≡ length y → get_or (set x r v) r 0 ≡ get_or (set y r v) r 0
set_alike [] [] r v e = refl
set_alike [] (b ∷ y) r v e = absurd (omega arith)
set_alike (a ∷ x) [] r v e = absurd (omega arith)
set_alike (a ∷ x) (b ∷ y) zero v e = refl
set_alike (a ∷ x) (b ∷ y) (suc r) v e = set_alike x y r v (omega arith)

-- a test that holds of the register that is written alone
abbrev is_target : ℕ → ℕ → Bool
is_target rd r = if r == 0 then false else rd == r

written : (x y : List ℕ) (rd r v w : ℕ) → length x ≡ length y → v ≡ w → is_target rd r ≡ true → register (with_register x rd v) r ≡ register (with_register y rd w) r
written x y rd r v w same e = go (r == 0) refl
  where
    go : (b : Bool) → (r == 0) ≡ b → (if b then false else rd == r) ≡ true → register (with_register x rd v) r ≡ register (with_register y rd w) r
    go true z h = absurd (cc)
    go false z h =
        let is : rd ≡ r = eq_of rd r h in
        let at : get_or (set x r v) r 0 ≡ get_or (set y r w) r 0 = set_alike x y r v same ∙ ap (λ u. get_or (set y r u) r 0) e in
        subst (λ t. register (with_register x t v) r ≡ register (with_register y t w) r) (sym is) (rw z at)

no_target : (r : ℕ) → is_target 0 r ≡ true → ⊥
no_target r = go (r == 0) refl
  where
    go : (b : Bool) → (r == 0) ≡ b → (if b then false else 0 == r) ≡ true → ⊥
    go true z h = absurd (cc)
    go false z h = let e = eq_of 0 r h in let f = is_eq r 0 (sym e) in absurd (cc)

-- outcomes that lead to one place, with one value in the register that is written
record AreAlike (rd : ℕ) (o p : Outcome) : Type 0 where
  next : o.next ≡ p.next
  same : (a r : ℕ) → o.next ≡ At a → is_target rd r ≡ true → register o.regs r ≡ register p.regs r

module _ (x y : List ℕ) (size : length x ≡ length y) where
  onward_alike : (pc rd v w : ℕ) → v ≡ w → AreAlike rd (onward pc (with_register x rd v)) (onward pc (with_register y rd w))
  onward_alike pc rd v w e = record { next = refl; same = λ a r h t. written x y rd r v w size e t }

  jump_alike : (to t rd v : ℕ) → to ≡ t → AreAlike rd (jump to x (with_register x rd v)) (jump t y (with_register y rd v))
  jump_alike to t rd v e = subst (λ u. AreAlike rd (jump to x (with_register x rd v)) (jump u y (with_register y rd v))) e (go (to % 4 == 0))
    where
      go : (b : Bool) → AreAlike rd (if b then record { next = At to; regs = with_register x rd v } else stopped Target to x) (if b then record { next = At to; regs = with_register y rd v } else stopped Target to y)
      go true = record { next = refl; same = λ a r h u. written x y rd r v v size refl u }
      go false = record { next = refl; same = λ a r h u. absurd (cc) }

  loaded_alike : (op : LoadOp) (rd addr pc : ℕ) (told : Result ℕ MemFault) → AreAlike rd (loaded op rd addr pc x told) (loaded op rd addr pc y told)
  loaded_alike op rd addr pc (Ok n) = onward_alike pc rd (extended op n) (extended op n) refl
  loaded_alike op rd addr pc (Err why) = record { next = refl; same = λ a r h t. absurd (cc) }

  stored_next : (addr pc : ℕ) (told : Result ℕ MemFault) → (stored addr pc x told).next ≡ (stored addr pc y told).next
  stored_next addr pc (Ok n) = refl
  stored_next addr pc (Err why) = refl

  jump_next : (to : ℕ) → (jump to x x).next ≡ (jump to y y).next
  jump_next to = go (to % 4 == 0)
    where
      go : (b : Bool) → (if b then record { next = At to; regs = x } else stopped Target to x).next ≡ (if b then record { next = At to; regs = y } else stopped Target to y).next
      go true = refl
      go false = refl

  branch_next : (b : Bool) (pc to : ℕ) → (if b then jump to x x else onward pc x).next ≡ (if b then jump to y y else onward pc y).next
  branch_next true pc to = jump_next to
  branch_next false pc to = refl

-- a register that an instruction reads as its first, or as its second
first_read : (a b : ℕ) → ((a == a) || (b == a)) ≡ true
first_read a b = ap (λ t. t || (b == a)) (is_eq a a refl) ∙ true-or (b == a)

second_read : (a b : ℕ) → ((a == b) || (b == b)) ≡ true
second_read a b = ap (λ t. (a == b) || t) (is_eq b b refl) ∙ or-true (a == b)

pub same_effect : (i : Instr) (pc : ℕ) (x y : List ℕ) (m : List Area) → length x ≡ length y → ReadsSame i x y → HasSameEffect i pc x y m
same_effect (Alu op rd rs1 rs2) pc x y m size reads =
    let one = reads rs1 (first_read rs1 rs2) in let two = reads rs2 (second_read rs1 rs2) in
    let e : alu op (register x rs1) (register x rs2) ≡ alu op (register y rs1) (register y rs2) = cc in
    let o = onward_alike x y size pc rd _ _ e in record { question = refl; next = o.next; written = o.same }
same_effect (AluImm op rd rs1 imm) pc x y m size reads =
    let one = reads rs1 (is_eq rs1 rs1 refl) in
    let o = onward_alike x y size pc rd _ _ (ap (λ a. alu_imm op a imm) one) in record { question = refl; next = o.next; written = o.same }
same_effect (Upper op rd imm) pc x y m size reads = let o = onward_alike x y size pc rd _ _ refl in record { question = refl; next = o.next; written = o.same }
same_effect (Jal rd imm) pc x y m size reads =
    let o = jump_alike x y size (plus_offset pc imm) (plus_offset pc imm) rd (next_pc pc) refl in record { question = refl; next = o.next; written = o.same }
same_effect (Jalr rd rs1 imm) pc x y m size reads =
    let one = reads rs1 (is_eq rs1 rs1 refl) in
    let o = jump_alike x y size _ _ rd (next_pc pc) (ap (λ a. plus_offset a imm - plus_offset a imm % 2) one) in record { question = refl; next = o.next; written = o.same }
same_effect (Branch op rs1 rs2 imm) pc x y m size reads =
    let one = reads rs1 (first_read rs1 rs2) in let two = reads rs2 (second_read rs1 rs2) in
    let e : taken op (register x rs1) (register x rs2) ≡ taken op (register y rs1) (register y rs2) = cc in
    let to = plus_offset pc imm in
    record {
      question = refl;
      next = branch_next x y size (taken op (register x rs1) (register x rs2)) pc to ∙ ap (λ b. (if b then jump to y y else onward pc y).next) e;
      written = λ a r h t. absurd (no_target r t);
    }
same_effect (Load op rd rs1 imm) pc x y m size reads =
    let one = reads rs1 (is_eq rs1 rs1 refl) in
    let e : plus_offset (register x rs1) imm ≡ plus_offset (register y rs1) imm = ap (λ a. plus_offset a imm) one in
    let at = plus_offset (register x rs1) imm in
    let o : AreAlike rd (loaded op rd at pc x (answer m (Loads at (load_width op)))) (loaded op rd (plus_offset (register y rs1) imm) pc y (answer m (Loads (plus_offset (register y rs1) imm) (load_width op)))) =
    subst (λ u. AreAlike rd (loaded op rd at pc x (answer m (Loads at (load_width op)))) (loaded op rd u pc y (answer m (Loads u (load_width op))))) e (loaded_alike x y size op rd at pc (answer m (Loads at (load_width op)))) in
    record { question = ap (λ u. Loads u (load_width op)) e; next = o.next; written = o.same }
same_effect (Store op rs1 rs2 imm) pc x y m size reads =
    let one = reads rs1 (first_read rs1 rs2) in let two = reads rs2 (second_read rs1 rs2) in
    let e : plus_offset (register x rs1) imm ≡ plus_offset (register y rs1) imm = ap (λ a. plus_offset a imm) one in
    let asked : Stores (plus_offset (register x rs1) imm) (store_width op) (register x rs2) ≡ Stores (plus_offset (register y rs1) imm) (store_width op) (register y rs2) = cc in
    record {
      question = asked;
      next = stored_next x y size _ pc _ ∙ ap (λ u. (stored u pc y (answer m (Stores (plus_offset (register x rs1) imm) (store_width op) (register x rs2)))).next) e
          ∙ ap (λ q. (stored (plus_offset (register y rs1) imm) pc y (answer m q)).next) asked;
      written = λ a r h t. absurd (no_target r t);
    }
same_effect (Fence rd rs1 imm) pc x y m size reads = record { question = refl; next = refl; written = λ a r h t. absurd (no_target r t) }
same_effect Ecall pc x y m size reads = record { question = refl; next = refl; written = λ a r h t. absurd (no_target r t) }
same_effect Ebreak pc x y m size reads = record { question = refl; next = refl; written = λ a r h t. absurd (no_target r t) }

pub unwritten : (i : Instr) (pc r : ℕ) (x : List ℕ) (m : List Area) → writes_register i r ≡ false → register (outcome i pc x m).regs r ≡ register x r
unwritten i pc r x m h = keeps i pc r x (answer m (asks i x)) h

-- A word that uses a cell is at the cell's address, wherever the forms hold.
use Rattle.std.proofs.Common.{◌≡◌, ℕ, ◌+◌, ◌^◌, ◌<◌, Bool, true, false, List, Option, Some, None, refl, ap, sym, ◌∙◌, subst, arith, pos, ℤ, ◌+ℤ◌}
use Rattle.std.proofs.lemmas.Int.{ints}
use Rattle.std.specs.Int.{w64, cast_unsigned}
use Rattle.rv64_decode.specs.Area.{Area, bytes_of, number_at, why, readable_of, writable_of, load_of, store_of, or_refusal}
use Rattle.rv64_decode.specs.Ask.{Loads, Stores, answer, without_number}
use Rattle.rv64_decode.specs.Form.{IsSigned}
use Rattle.rv64_decode.specs.Range.{IsInRange}
use Rattle.rv64_decode.specs.Registers.{register}
use Rattle.rv64_decode.specs.Row.{row, asks, plus_offset, loaded, stored, load_width, store_width}
use Rattle.rv64_decode.specs.declared.memory.MemFault.{MemFault}
use Rattle.rv64_decode.specs.declared.outcome.Next.TheVariants.{At}
use Rattle.rv64_decode.specs.declared.instr.Instr.{Instr}
use Rattle.rv64_decode.specs.declared.instr.Instr.TheVariants.{Alu, AluImm, Upper, Load, Store, Branch, Jal, Jalr, Fence, Ecall, Ebreak}
use Rattle.rv64_decode.specs.declared.instr.LoadOp.{LoadOp}
use Rattle.linear_forms.specs.Forms.{Alike, LinearForm, exact, pure}
use Rattle.linear_forms.proofs.Sums.{same, alike_from, alike_trans, alike_add, alike_mod, word_alike, word_below}
use Rattle.loop_data.specs.declared.verdict.Cell.{Cell}
use Rattle.loop_data.specs.Nests.{Nest}
use Rattle.loop_data.specs.Runs.{granted, unless_denied}
use Rattle.loop_data.specs.Locations.{first_cell, address, width_of, width_by, loads_cell, stores_cell, moves_cell}
use Rattle.loop_data.specs.LoopCode.{LoopCode}
use Rattle.loop_data.specs.Independent.{IsAccess}
use Rattle.loop_data.specs.Facts.{Fact, Number, fact_read, fact_sum}
use Rattle.loop_data.specs.FormRows.{form_read}
use Rattle.loop_data.specs.Accesses.{Motion, motion_of}
use Rattle.loop_data.specs.FoundCells.{address_by, address_fact, IsFixed, HasFixedBase}
use Rattle.loop_data.proofs.Shorts.{alike_word}
use Rattle.loop_data.proofs.FormWords.{Right, right_sum, right_pure, right_read}
use Rattle.loop_data.proofs.FactForms.{fact_form, IsOver, Agree, agree_number, agree_read, agree_sum}
use Rattle.loop_data.proofs.CellWords.{load_is, store_is, load_of_cell, store_of_cell}

equal_words : (a b : ℕ) (z : ℤ) → a < 2 ^ 64 → b < 2 ^ 64 → Alike (pos a) z → Alike (pos b) z → a ≡ b
equal_words a b z la lb p q = let e = p.is in let f = q.is in let k = p.turns in let l = q.turns in omega (arith, ints)

alike_offset : (a : ℕ) (z : ℤ) → IsSigned 32 z → Alike (pos (plus_offset a z)) (pos a +ℤ z)
alike_offset a z h = alike_trans _ _ _ (alike_mod (a + cast_unsigned w64 z)) (alike_trans _ _ _ (alike_from _ _ (omega (arith, ints))) (alike_add _ _ _ _ (same (pos a)) (alike_word z h)))

offset_below : (a : ℕ) (z : ℤ) → plus_offset a z < 2 ^ 64
offset_below a z = omega arith

over_fixed : (N : Nest) (B : LoopCode) (base : Option ℕ) (z : ℤ) → HasFixedBase N B base → IsOver (IsFixed N B) (address_by base z)
over_fixed N B None z h = tt
over_fixed N B (Some q) z h = h

-- the value of the form of a cell's address
address_value : (N : Nest) (B : LoopCode) (entry : ℕ → ℤ) (t : ℕ → ℕ) (first : List ℕ) (c : Cell) → ((q : ℕ) → q < 32 → entry q ≡ pos (register first q)) → HasFixedBase N B c.base → IsSigned 32 c.offset
    → Alike (pos (address first c)) (exact (fact_form (address_fact c)) entry t)
address_value N B entry t first c starts fixed near = go c.base fixed
  where
    go : (base : Option ℕ) → HasFixedBase N B base → Alike (pos (Rattle.loop_data.specs.Locations.address_by first base c.offset)) (exact (fact_form (address_by base c.offset)) entry t)
    go None h = alike_trans _ _ _ (word_alike c.offset) (alike_from _ _ (omega (arith, ints)))
    go (Some q) h =
        let s = starts q h.0 in
        alike_trans _ _ _ (alike_offset (register first q) c.offset near) (alike_from _ _ (omega (arith, ints)))

address_below : (first : List ℕ) (c : Cell) → address first c < 2 ^ 64
address_below first c = go c.base
  where
    go : (base : Option ℕ) → Rattle.loop_data.specs.Locations.address_by first base c.offset < 2 ^ 64
    go None = word_below c.offset
    go (Some q) = offset_below (register first q) c.offset

-- where the facts before a word tell a cell's address, a register and an offset have it
pub found_at : (N : Nest) (B : LoopCode) (V : ℕ → Option Fact) (F : ℕ → Option LinearForm) (entry : ℕ → ℤ) (t : ℕ → ℕ) (first regs : List ℕ) (c : Cell) (base : ℕ) (offset : ℤ)
    → ((q : ℕ) → q < 32 → entry q ≡ pos (register first q)) → Agree (IsFixed N B) (V base) (F base) → Right entry t (register regs base) (F base) → IsSigned 32 offset
    → fact_sum (fact_read V base) (Some (Number offset)) ≡ Some (address_fact c) → HasFixedBase N B c.base → IsSigned 32 c.offset → plus_offset (register regs base) offset ≡ address first c
found_at N B V F entry t first regs c base offset starts agree right short found fixed near =
    let P = IsFixed N B in
    let e = agree_sum P (fact_read V base) (Some (Number offset)) (form_read F base) (Some (pure offset)) (agree_read P V F base agree) (agree_number P offset) (address_fact c) (over_fixed N B c.base c.offset fixed) found in
    let a = right_sum entry t (register regs base) (cast_unsigned w64 offset) (form_read F base) (Some (pure offset)) (right_read entry t regs F base right) (right_pure entry t offset short) (fact_form (address_fact c)) e in
    equal_words (plus_offset (register regs base) offset) (address first c) (exact (fact_form (address_fact c)) entry t) (offset_below (register regs base) offset) (address_below first c)
    (alike_trans _ _ _ (alike_mod (register regs base + cast_unsigned w64 offset)) a) (address_value N B entry t first c starts fixed near)

load_goes : (op : LoadOp) (rd addr pc v : ℕ) (regs : List ℕ) (m : List Area) (w : _) → (loaded op rd addr pc regs (load_of m addr w)).next ≡ At v → why readable_of m addr w ≡ None
load_goes op rd addr pc v regs m w = go (why readable_of m addr w)
  where
    go : (o : Option MemFault) → (loaded op rd addr pc regs (or_refusal o (number_at (bytes_of w) m addr))).next ≡ At v → o ≡ None
    go None e = refl
    go (Some f) e = absurd (cc)

store_goes : (addr pc v : ℕ) (regs : List ℕ) (m : List Area) (w : _) → (stored addr pc regs (without_number (store_of m addr w))).next ≡ At v → why writable_of m addr w ≡ None
store_goes addr pc v regs m w = go (why writable_of m addr w)
  where
    go : (o : Option MemFault) → (stored addr pc regs (without_number (or_refusal o tt))).next ≡ At v → o ≡ None
    go None e = refl
    go (Some f) e = absurd (cc)

load_wide : (wide : Bool) → load_width (load_of_cell wide) ≡ width_by wide
load_wide true = refl
load_wide false = refl

store_wide : (wide : Bool) → store_width (store_of_cell wide) ≡ width_by wide
store_wide true = refl
store_wide false = refl

-- a word of a cell, after which the run goes on, accesses the cell
pub accesses_cell : (i : Instr) (m : Motion) (c : Cell) (pc v : ℕ) (first regs : List ℕ) (memory : List Area) → motion_of (Some i) ≡ Some m → moves_cell (Some i) c.wide ≡ true
    → plus_offset (register regs m.base) m.offset ≡ address first c → (row i pc regs (answer memory (asks i regs))).next ≡ At v → IsAccess (granted memory (asks i regs)) (address first c) (width_of c)
accesses_cell (Load op rd rs1 imm) m c pc v first regs memory e k a g =
    let q : record { base = rs1; offset = imm; width = load_width op; store = false } ≡ m = cc in
    let x : plus_offset (register regs rs1) imm ≡ address first c = subst (λ (n : Motion). plus_offset (register regs n.base) n.offset ≡ address first c) (sym q) a in
    let y = load_goes op rd (plus_offset (register regs rs1) imm) pc v regs memory (load_width op) g in
    subst (λ o. IsAccess (unless_denied (or_refusal o (number_at (bytes_of (load_width op)) memory (plus_offset (register regs rs1) imm))) (Loads (plus_offset (register regs rs1) imm) (load_width op))) (address first c) (width_of c)) (sym y)
    (x, ap load_width (load_is op c.wide k) ∙ load_wide c.wide)
accesses_cell (Store op rs1 rs2 imm) m c pc v first regs memory e k a g =
    let q : record { base = rs1; offset = imm; width = store_width op; store = true } ≡ m = cc in
    let x : plus_offset (register regs rs1) imm ≡ address first c = subst (λ (n : Motion). plus_offset (register regs n.base) n.offset ≡ address first c) (sym q) a in
    let y = store_goes (plus_offset (register regs rs1) imm) pc v regs memory (store_width op) g in
    subst (λ o. IsAccess (unless_denied (without_number (or_refusal o tt)) (Stores (plus_offset (register regs rs1) imm) (store_width op) (register regs rs2))) (address first c) (width_of c)) (sym y)
    (x, ap store_width (store_is op c.wide k) ∙ store_wide c.wide)
accesses_cell (Alu op rd rs1 rs2) m c pc v first regs memory e k a g = absurd (cc)
accesses_cell (AluImm op rd rs1 imm) m c pc v first regs memory e k a g = absurd (cc)
accesses_cell (Upper op rd imm) m c pc v first regs memory e k a g = absurd (cc)
accesses_cell (Branch op rs1 rs2 imm) m c pc v first regs memory e k a g = absurd (cc)
accesses_cell (Jal rd imm) m c pc v first regs memory e k a g = absurd (cc)
accesses_cell (Jalr rd rs1 imm) m c pc v first regs memory e k a g = absurd (cc)
accesses_cell (Fence rd rs1 imm) m c pc v first regs memory e k a g = absurd (cc)
accesses_cell Ecall m c pc v first regs memory e k a g = absurd (cc)
accesses_cell Ebreak m c pc v first regs memory e k a g = absurd (cc)

-- a word of a cell, at the cell's address, asks for its bytes
pub asks_at : (i : Instr) (m : Motion) (c : Cell) (first regs : List ℕ) → motion_of (Some i) ≡ Some m → moves_cell (Some i) c.wide ≡ true → plus_offset (register regs m.base) m.offset ≡ address first c
    → IsAccess (asks i regs) (address first c) (width_of c)
asks_at (Load op rd rs1 imm) m c first regs e k a =
    let q : record { base = rs1; offset = imm; width = load_width op; store = false } ≡ m = cc in
    (subst (λ (n : Motion). plus_offset (register regs n.base) n.offset ≡ address first c) (sym q) a, ap load_width (load_is op c.wide k) ∙ load_wide c.wide)
asks_at (Store op rs1 rs2 imm) m c first regs e k a =
    let q : record { base = rs1; offset = imm; width = store_width op; store = true } ≡ m = cc in
    (subst (λ (n : Motion). plus_offset (register regs n.base) n.offset ≡ address first c) (sym q) a, ap store_width (store_is op c.wide k) ∙ store_wide c.wide)
asks_at (Alu op rd rs1 rs2) m c first regs e k a = absurd (cc)
asks_at (AluImm op rd rs1 imm) m c first regs e k a = absurd (cc)
asks_at (Upper op rd imm) m c first regs e k a = absurd (cc)
asks_at (Branch op rs1 rs2 imm) m c first regs e k a = absurd (cc)
asks_at (Jal rd imm) m c first regs e k a = absurd (cc)
asks_at (Jalr rd rs1 imm) m c first regs e k a = absurd (cc)
asks_at (Fence rd rs1 imm) m c first regs e k a = absurd (cc)
asks_at Ecall m c first regs e k a = absurd (cc)
asks_at Ebreak m c first regs e k a = absurd (cc)

-- the offset of an access is short, and its register is one
pub motion_range : (i : Instr) (m : Motion) → IsInRange i → motion_of (Some i) ≡ Some m → (m.base < 32) × IsSigned 32 m.offset
motion_range (Load op rd rs1 imm) m d e = let q : record { base = rs1; offset = imm; width = load_width op; store = false } ≡ m = cc in subst (λ (n : Motion). (n.base < 32) × IsSigned 32 n.offset) q ((d.registers).1, d.number)
motion_range (Store op rs1 rs2 imm) m d e = let q : record { base = rs1; offset = imm; width = store_width op; store = true } ≡ m = cc in subst (λ (n : Motion). (n.base < 32) × IsSigned 32 n.offset) q ((d.registers).0, d.number)
motion_range (Alu op rd rs1 rs2) m d e = absurd (cc)
motion_range (AluImm op rd rs1 imm) m d e = absurd (cc)
motion_range (Upper op rd imm) m d e = absurd (cc)
motion_range (Branch op rs1 rs2 imm) m d e = absurd (cc)
motion_range (Jal rd imm) m d e = absurd (cc)
motion_range (Jalr rd rs1 imm) m d e = absurd (cc)
motion_range (Fence rd rs1 imm) m d e = absurd (cc)
motion_range Ecall m d e = absurd (cc)
motion_range Ebreak m d e = absurd (cc)

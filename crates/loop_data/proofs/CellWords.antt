-- What a word does to the cells of a loop.
use Rattle.std.proofs.Common.{◌≡◌, ◌≢◌, ℕ, ℤ, ◌+◌, ◌%◌, ◌^◌, ◌<◌, ◌≤◌, ◌⊎◌, inl, inr, ◌==◌, List, Bool, true, false, if◌then◌else◌, Option, Some, None, refl, ap, sym, ◌∙◌, arith}
use Rattle.std.proofs.lemmas.Bool.Decides.{nat_tests}
use Rattle.std.proofs.lemmas.Bool.{cases_lt}
use Rattle.rv64_decode.specs.Area.{Area, number_at, with_number, bytes_of, why, readable_of, writable_of, load_of, after_store, unless_refused, or_refusal}
use Rattle.rv64_decode.specs.Ask.{Ask, Nothing, Loads, Stores, after, without_number}
use Rattle.rv64_decode.specs.Registers.{register, with_register}
use Rattle.rv64_decode.specs.Row.{asks, plus_offset, loaded, extended32, low32, load_width, store_width}
use Rattle.rv64_decode.specs.declared.memory.Width.{Width}
use Rattle.rv64_decode.specs.declared.memory.Width.TheVariants.{One, Two, Four, Eight}
use Rattle.rv64_decode.specs.declared.memory.MemFault.{MemFault}
use Rattle.rv64_decode.specs.declared.instr.Instr.{Instr}
use Rattle.rv64_decode.specs.declared.instr.Instr.TheVariants.{Alu, AluImm, Upper, Load, Store, Branch, Jal, Jalr, Fence, Ecall, Ebreak}
use Rattle.rv64_decode.specs.declared.instr.LoadOp.{LoadOp}
use Rattle.rv64_decode.specs.declared.instr.LoadOp.TheVariants.{Lb, Lh, Lw, Ld, Lbu, Lhu, Lwu}
use Rattle.rv64_decode.specs.declared.instr.StoreOp.{StoreOp}
use Rattle.rv64_decode.specs.declared.instr.StoreOp.TheVariants.{Sb, Sh, Sw, Sd}
use Rattle.loop_data.specs.declared.verdict.Cell.{Cell}
use Rattle.loop_data.specs.Runs.{granted}
use Rattle.loop_data.specs.Turns.{covers, stores_byte}
use Rattle.loop_data.specs.Locations.{CellMap, cell_at, address, width_by, width_of, content, held, first_cell, loads_cell, stores_cell, moves_cell, writes_cell}
use Rattle.loop_data.specs.Independent.{IsAccess}
use Rattle.loop_data.specs.Executing.{AreWhole}
use Rattle.loop_data.proofs.Tests.{eq_of, is_eq, yes_no}
use Rattle.loop_data.proofs.CellBytes.{number_at-with_number, number_at-same, cut4, cut8, mapped_bytes}

abbrev pub load_of_cell : Bool → LoadOp
load_of_cell true = Ld
load_of_cell false = Lw

abbrev pub store_of_cell : Bool → StoreOp
store_of_cell true = Sd
store_of_cell false = Sw

pub load_is : (op : LoadOp) (wide : Bool) → loads_cell op wide ≡ true → op ≡ load_of_cell wide
load_is Lw false e = refl
load_is Ld true e = refl
load_is Lw true e = absurd (cc)
load_is Ld false e = absurd (cc)
load_is Lb wide e = absurd (cc)
load_is Lh wide e = absurd (cc)
load_is Lbu wide e = absurd (cc)
load_is Lhu wide e = absurd (cc)
load_is Lwu wide e = absurd (cc)

pub store_is : (op : StoreOp) (wide : Bool) → stores_cell op wide ≡ true → op ≡ store_of_cell wide
store_is Sw false e = refl
store_is Sd true e = refl
store_is Sw true e = absurd (cc)
store_is Sd false e = absurd (cc)
store_is Sb wide e = absurd (cc)
store_is Sh wide e = absurd (cc)

-- the access of a word is a cell's, and it is not refused
abbrev pub IsOwn : Instr → List ℕ → List ℕ → List Area → Cell → Type 0
IsOwn (Load op rd rs1 imm) first regs m c =
    (op ≡ load_of_cell c.wide) × (plus_offset (register regs rs1) imm ≡ address first c) × (why readable_of m (address first c) (width_of c) ≡ None)
IsOwn (Store op rs1 rs2 imm) first regs m c =
    (op ≡ store_of_cell c.wide) × (plus_offset (register regs rs1) imm ≡ address first c) × (why writable_of m (address first c) (width_of c) ≡ None) × AreWhole m
IsOwn _ first regs m c = ⊥

-- what a word does to the cells
pub record OnCells (C : CellMap) (u : ℕ) (i : Instr) (first regs : List ℕ) (m : List Area) : Type 0 where
  pub own : (k : ℕ) → C.uses u ≡ Some k → (c : Cell) × (cell_at C.cells k ≡ Some c) × IsOwn i first regs m c
  pub others : (j b : ℕ) (c : Cell) → cell_at C.cells j ≡ Some c → C.uses u ≢ Some j → covers (address first c) (bytes_of (width_of c)) b ≡ true
      → stores_byte (granted m (asks i regs)) b ≡ false

pub own_of : (i : Instr) (first regs : List ℕ) (m : List Area) (c : Cell) → moves_cell (Some i) c.wide ≡ true → IsAccess (granted m (asks i regs)) (address first c) (width_of c) → AreWhole m → IsOwn i first regs m c
own_of (Load op rd rs1 imm) first regs m c e a w = go (why readable_of m x (load_width op)) refl a
  where
    x : ℕ
    x = plus_offset (register regs rs1) imm

    go : (o : Option MemFault) → why readable_of m x (load_width op) ≡ o → IsAccess (Rattle.loop_data.specs.Runs.unless_denied (or_refusal o (number_at (bytes_of (load_width op)) m x)) (Loads x (load_width op))) (address first c) (width_of c)
        → IsOwn (Load op rd rs1 imm) first regs m c
    go None q b = (load_is op c.wide e, b.0, ap (λ y. why readable_of m y (width_of c)) (sym b.0) ∙ ap (why readable_of m x) (sym b.1) ∙ q)
    go (Some f) q b = absurd b
own_of (Store op rs1 rs2 imm) first regs m c e a w = go (why writable_of m x (store_width op)) refl a
  where
    x : ℕ
    x = plus_offset (register regs rs1) imm

    go : (o : Option MemFault) → why writable_of m x (store_width op) ≡ o → IsAccess (Rattle.loop_data.specs.Runs.unless_denied (without_number (or_refusal o tt)) (Stores x (store_width op) (register regs rs2))) (address first c) (width_of c)
        → IsOwn (Store op rs1 rs2 imm) first regs m c
    go None q b = (store_is op c.wide e, b.0, ap (λ y. why writable_of m y (width_of c)) (sym b.0) ∙ ap (why writable_of m x) (sym b.1) ∙ q, w)
    go (Some f) q b = absurd b
own_of (Alu op rd rs1 rs2) first regs m c e a w = absurd a
own_of (AluImm op rd rs1 imm) first regs m c e a w = absurd a
own_of (Upper op rd imm) first regs m c e a w = absurd a
own_of (Branch op rs1 rs2 imm) first regs m c e a w = absurd a
own_of (Jal rd imm) first regs m c e a w = absurd a
own_of (Jalr rd rs1 imm) first regs m c e a w = absurd a
own_of (Fence rd rs1 imm) first regs m c e a w = absurd a
own_of Ecall first regs m c e a w = absurd a
own_of Ebreak first regs m c e a w = absurd a

some_bytes : (w : Width) → 1 ≤ bytes_of w
some_bytes One = omega arith
some_bytes Two = omega arith
some_bytes Four = omega arith
some_bytes Eight = omega arith

covers_is : (addr n b : ℕ) → addr ≤ b → b < addr + n → covers addr n b ≡ true
covers_is addr n b l u = grind (arith, nat_tests)

-- bytes of which none is one of the others lie before or behind them
apart_of : (x addr : ℕ) (w : Width) (n : ℕ) → 1 ≤ n → ((b : ℕ) → covers addr n b ≡ true → covers x (bytes_of w) b ≡ false) → (x + bytes_of w ≤ addr) ⊎ (addr + n ≤ x)
apart_of x addr w n one none = by (cases_lt addr x)
  where
    by : (addr < x) ⊎ (x ≤ addr) → (x + bytes_of w ≤ addr) ⊎ (addr + n ≤ x)
    by (inl l) = go (cases_lt x (addr + n))
      where
        go : (x < addr + n) ⊎ (addr + n ≤ x) → (x + bytes_of w ≤ addr) ⊎ (addr + n ≤ x)
        go (inl u) = let s = some_bytes w in absurd (yes_no _ (covers_is x (bytes_of w) x (omega arith) (omega arith)) (none x (covers_is addr n x (omega arith) u)))
        go (inr u) = inr u
    by (inr l) = go (cases_lt addr (x + bytes_of w))
      where
        go : (addr < x + bytes_of w) ⊎ (x + bytes_of w ≤ addr) → (x + bytes_of w ≤ addr) ⊎ (addr + n ≤ x)
        go (inl u) = absurd (yes_no _ (covers_is x (bytes_of w) addr l u) (none addr (covers_is addr n addr (omega arith) (omega arith))))
        go (inr u) = inl u

-- what is asked, and writes no byte of a cell, leaves the cell
content_off : (wide : Bool) (m : List Area) (ask : Ask) (addr : ℕ) → ((b : ℕ) → covers addr (bytes_of (width_by wide)) b ≡ true → stores_byte (granted m ask) b ≡ false) → content wide (after m ask) addr ≡ content wide m addr
content_off wide m Nothing addr off = refl
content_off wide m (Loads x w) addr off = refl
content_off wide m (Stores x w v) addr off = go (why writable_of m x w) off
  where
    go : (o : Option MemFault) → ((b : ℕ) → covers addr (bytes_of (width_by wide)) b ≡ true → stores_byte (Rattle.loop_data.specs.Runs.unless_denied (without_number (or_refusal o tt)) (Stores x w v)) b ≡ false)
        → content wide (unless_refused o m (with_number (bytes_of w) m x v)) addr ≡ content wide m addr
    go (Some f) none = refl
    go None none = by wide (apart_of x addr w (bytes_of (width_by wide)) (some_bytes (width_by wide)) none)
      where
        by : (wide : Bool) → (x + bytes_of w ≤ addr) ⊎ (addr + bytes_of (width_by wide) ≤ x) → content wide (with_number (bytes_of w) m x v) addr ≡ content wide m addr
        by true a = number_at-with_number (bytes_of w) 8 m x v addr a
        by false a = ap extended32 (number_at-with_number (bytes_of w) 4 m x v addr a)

-- a store to the cell itself
content_own : (wide : Bool) (m : List Area) (addr v : ℕ) → why writable_of m addr (width_by wide) ≡ None → AreWhole m
    → content wide (after_store m addr (width_by wide) v) addr ≡ (if wide then v % 2 ^ 64 else extended32 (low32 v))
content_own true m addr v e w =
    ap (λ o. number_at 8 (unless_refused o m (with_number 8 m addr v)) addr) e ∙ number_at-same 8 m addr v (mapped_bytes writable_of m addr Eight w e) ∙ cut8 v
content_own false m addr v e w =
    ap (λ o. extended32 (number_at 4 (unless_refused o m (with_number 4 m addr v)) addr)) e ∙ ap extended32 (number_at-same 4 m addr v (mapped_bytes writable_of m addr Four w e) ∙ cut4 v)

-- what a load of a cell leaves
pub loaded_cell : (first regs : List ℕ) (m : List Area) (c : Cell) (op : LoadOp) (rd rs1 : ℕ) (imm : ℤ) (pc : ℕ) → IsOwn (Load op rd rs1 imm) first regs m c
    → (loaded op rd (plus_offset (register regs rs1) imm) pc regs (load_of m (plus_offset (register regs rs1) imm) (load_width op))).regs ≡ with_register regs rd (content c.wide m (address first c))
loaded_cell first regs m c op rd rs1 imm pc o =
    ap (λ p. (loaded p rd addr pc regs (load_of m addr (load_width p))).regs) o.0 ∙ ap (λ x. (loaded (load_of_cell c.wide) rd x pc regs (load_of m x (load_width (load_of_cell c.wide)))).regs) o.1 ∙ go c.wide o.2
  where
    addr : ℕ
    addr = plus_offset (register regs rs1) imm

    x : ℕ
    x = address first c

    go : (w : Bool) → why readable_of m x (width_by w) ≡ None → (loaded (load_of_cell w) rd x pc regs (load_of m x (load_width (load_of_cell w)))).regs ≡ with_register regs rd (content w m x)
    go true y = ap (λ o. (loaded Ld rd x pc regs (or_refusal o (number_at 8 m x))).regs) y
    go false y = ap (λ o. (loaded Lw rd x pc regs (or_refusal o (number_at 4 m x))).regs) y

-- what a store to a cell leaves in it
pub stored_cell : (first regs : List ℕ) (m : List Area) (c : Cell) (op : StoreOp) (rs1 rs2 : ℕ) (imm : ℤ) → IsOwn (Store op rs1 rs2 imm) first regs m c
    → content c.wide (after m (asks (Store op rs1 rs2 imm) regs)) (address first c) ≡ (if c.wide then register regs rs2 % 2 ^ 64 else extended32 (low32 (register regs rs2)))
stored_cell first regs m c op rs1 rs2 imm o =
    ap (λ a. content c.wide (after_store m a (store_width op) v) x) o.1 ∙ ap (λ p. content c.wide (after_store m x (store_width p) v) x) o.0 ∙ widths c.wide ∙ content_own c.wide m x v o.2 o.3
  where
    v : ℕ
    v = register regs rs2

    x : ℕ
    x = address first c

    widths : (w : Bool) → content w (after_store m x (store_width (store_of_cell w)) v) x ≡ content w (after_store m x (width_by w) v) x
    widths true = refl
    widths false = refl

-- a word that does not write a cell does not use it, or stores nothing
not_used : (i : Instr) (uses : Option ℕ) (j : ℕ) (first regs : List ℕ) (m : List Area) (o : Option Cell) → writes_cell i uses (first_cell + j) ≡ false
    → (uses ≢ Some j → held first o (after m (asks i regs)) ≡ held first o m) → held first o (after m (asks i regs)) ≡ held first o m
not_used (Store op rs1 rs2 imm) uses j first regs m o e off = off (λ q. yes_no (first_cell + j == first_cell + j) (is_eq (first_cell + j) (first_cell + j) refl) (ap (λ u. writes_cell (Store op rs1 rs2 imm) u (first_cell + j)) (sym q) ∙ e))
not_used (Load op rd rs1 imm) uses j first regs m o e off = refl
not_used (Alu op rd rs1 rs2) uses j first regs m o e off = refl
not_used (AluImm op rd rs1 imm) uses j first regs m o e off = refl
not_used (Upper op rd imm) uses j first regs m o e off = refl
not_used (Branch op rs1 rs2 imm) uses j first regs m o e off = refl
not_used (Jal rd imm) uses j first regs m o e off = refl
not_used (Jalr rd rs1 imm) uses j first regs m o e off = refl
not_used (Fence rd rs1 imm) uses j first regs m o e off = refl
not_used Ecall uses j first regs m o e off = refl
not_used Ebreak uses j first regs m o e off = refl

-- a cell that a word does not write keeps what it holds
pub cell_kept : (C : CellMap) (u j : ℕ) (i : Instr) (first regs : List ℕ) (m : List Area) → OnCells C u i first regs m → writes_cell i (C.uses u) (first_cell + j) ≡ false
    → held first (cell_at C.cells j) (after m (asks i regs)) ≡ held first (cell_at C.cells j) m
cell_kept C u j i first regs m on e = not_used i (C.uses u) j first regs m (cell_at C.cells j) e (λ ne. go (cell_at C.cells j) refl ne)
  where
    go : (o : Option Cell) → cell_at C.cells j ≡ o → C.uses u ≢ Some j → held first o (after m (asks i regs)) ≡ held first o m
    go None k ne = refl
    go (Some c) k ne = content_off c.wide m (asks i regs) (address first c) (λ b. on.others j b c k ne)

-- a word that writes a cell is a store that uses it
pub writer_of : (i : Instr) (uses : Option ℕ) (j : ℕ) → writes_cell i uses (first_cell + j) ≡ true → (op : StoreOp) × (rs1 : ℕ) × (rs2 : ℕ) × (imm : ℤ) × (i ≡ Store op rs1 rs2 imm) × (uses ≡ Some j)
writer_of (Store op rs1 rs2 imm) (Some k) j e = let q = eq_of (first_cell + k) (first_cell + j) e in (op, rs1, rs2, imm, refl, ap Some (omega arith))
writer_of (Store op rs1 rs2 imm) None j e = absurd (cc)
writer_of (Alu op rd rs1 rs2) uses j e = absurd (cc)
writer_of (AluImm op rd rs1 imm) uses j e = absurd (cc)
writer_of (Upper op rd imm) uses j e = absurd (cc)
writer_of (Load op rd rs1 imm) uses j e = absurd (cc)
writer_of (Branch op rs1 rs2 imm) uses j e = absurd (cc)
writer_of (Jal rd imm) uses j e = absurd (cc)
writer_of (Jalr rd rs1 imm) uses j e = absurd (cc)
writer_of (Fence rd rs1 imm) uses j e = absurd (cc)
writer_of Ecall uses j e = absurd (cc)
writer_of Ebreak uses j e = absurd (cc)

-- A hart that follows a turn word by word through the copies.
use Rattle.std.proofs.Common.{◌≡◌, ◌≢◌, ℕ, suc, ◌+◌, ◌%◌, ◌^◌, ◌<◌, ◌≤◌, refl, sym, subst, ap, ◌∙◌, arith, ℤ, pos, Option, Some, None, Ok, Bool, true, false, List, [], ◌∷◌, ◌++◌, length, ◌⊎◌, inl, inr, if◌then◌else◌}
use Rattle.std.specs.Prelude.{◌==◌, ◌&&◌, nat_lt}
use Rattle.std.specs.Int.{w64, cast_unsigned}
use Rattle.std.proofs.lemmas.Bool.Decides.{nat_tests}
use Rattle.std.proofs.lemmas.Grind.{common_steps}
use Rattle.std.proofs.lemmas.Int.{ints}
use Rattle.rv64_decode.specs.Area.{Area, number_at, bytes_of, or_refusal}
use Rattle.rv64_decode.specs.Ask.{Ask, Nothing, Loads, Stores, answer, after}
use Rattle.rv64_decode.specs.Hart.{logged}
use Rattle.rv64_decode.specs.Registers.{register, with_register}
use Rattle.rv64_decode.specs.Row.{asks, plus_offset, next_pc, extended32, alu_imm, signed64}
use Rattle.rv64_decode.specs.declared.memory.MemFault.{MemFault}
use Rattle.rv64_decode.specs.declared.instr.ImmOp.TheVariants.{Addiw}
use Rattle.rv64_decode.specs.declared.instr.Instr.{Instr}
use Rattle.rv64_decode.specs.declared.instr.Instr.TheVariants.{Alu, AluImm, Upper, Load, Store, Branch, Jal, Jalr, Fence, Ecall, Ebreak}
use Rattle.rv64_decode.specs.declared.xinstr.XInstr.{XInstr}
use Rattle.loop_data.specs.declared.shape.Level.{Level}
use Rattle.loop_data.specs.declared.verdict.Cell.{Cell}
use Rattle.loop_data.specs.Independent.{Role}
use Rattle.loop_data.specs.Locations.{cell_at, address as cell_address, width_of, target, first_cell, word_writes, instr_writes, writes_cell, writes_register}
use Rattle.loop_data.specs.LoopCode.{LoopCode}
use Rattle.loop_data.specs.Runs.{State, run, granted, unless_denied}
use Rattle.loop_data.proofs.Tests.{eq_of, ne_of}
use Rattle.stub_laws.specs.Places.{behind}
use Rattle.stub_laws.specs.Straight.{read, put}
use Rattle.stub_laws.proofs.Steps.{World, Wins, jal_law, behind-append}
use Rattle.check_numbers.specs.Parts.{bits}
use Rattle.turn_copies.specs.Memories.{Agree, replayed}
use Rattle.turn_copies.specs.Copies.{Placed, Placing, arrive, jump_to, falls_through, back_code}
use Rattle.turn_copies.specs.Passages.{in_slot, ReadsUnstored, accesses_from}
use Rattle.turn_copies.proofs.Agreeing.{replayed-append}
use Rattle.turn_copies.proofs.Visits.{Known, known_cases}
use Rattle.std.proofs.lemmas.List.{append_assoc}

-- a memory, with the accesses that were made
pub record Past : Type 0 where
  pub memory : List Area
  pub log : List Ask

abbrev pub in_memory : World → Past → World
in_memory w m = record w { memory = m.memory; log = m.log }

-- ---- places of copies

pub placed_front : (code : List ℕ) (p : ℕ) (is js : List XInstr) → Placed code p (is ++ js) → Placed code p is
placed_front code p [] js h = tt
placed_front code p (i ∷ is) js h = (h.0, placed_front code (suc p) is js h.1)

pub placed_back : (code : List ℕ) (p : ℕ) (is js : List XInstr) → Placed code p (is ++ js) → Placed code (behind p is) js
placed_back code p [] js h = h
placed_back code p (i ∷ is) js h = placed_back code (suc p) is js h.1

-- from the end of a word's copy it goes on
pub onward_law : (w : World) (l : Level) (c : Placing) (u : ℕ) (is : List XInstr) (i : Instr) (f g : ℕ → ℕ) → falls_through i ≡ true → c.next ≤ 2 ^ 32 → Placed w.code (behind (c.place u) is) (back_code l c (behind (c.place u) is) u i)
    → ((next_pc u == l.header) ≡ false → c.place (next_pc u) ≡ behind (c.place u) (is ++ back_code l c (behind (c.place u) is) u i))
    → Wins w (arrive l c (next_pc u)) f g → Wins w (behind (c.place u) is) f g
onward_law w l c u is i f g falls near stands follow h = go (next_pc u == l.header) refl
  where
    q : ℕ
    q = behind (c.place u) is

    tail : Bool → Bool → List XInstr
    tail a b = if a && b then jump_to c.next q ∷ [] else []

    go : (b : Bool) → (next_pc u == l.header) ≡ b → Wins w q f g
    go true e =
        let t : back_code l c q u i ≡ jump_to c.next q ∷ [] = ap (λ a. tail a (next_pc u == l.header)) falls ∙ ap (tail true) e in
        let here = subst (Placed w.code q) t stands in
        jal_law w q c.next f g here.0 near (subst (λ x. Wins w x f g) (ap (λ b. if b then c.next else c.place (next_pc u)) e) h)
    go false e =
        let t : back_code l c q u i ≡ [] = ap (λ a. tail a (next_pc u == l.header)) falls ∙ ap (tail true) e in
        let at : c.place (next_pc u) ≡ behind q [] = follow e ∙ behind-append (c.place u) is (back_code l c q u i) ∙ ap (behind q) t in
        subst (λ x. Wins w x f g) (ap (λ b. if b then c.next else c.place (next_pc u)) e ∙ at) h

-- ---- registers of the original and of the copy

pub record Same (B : LoopCode) (roles : ℕ → Role) (us regs : List ℕ) (f : ℕ → ℕ) : Type 0 where
  pub each : (r : ℕ) → r < 32 → Known B roles us r → register regs r ≡ read f r

put_here : (regs : List ℕ) (f : ℕ → ℕ) (t v r : ℕ) → length regs ≡ 32 → t < 32 → r ≡ t → register (with_register regs t v) r ≡ read (put f t v) r
put_here regs f t v r a b c = grind (arith, common_steps, nat_tests)

put_there : (regs : List ℕ) (f : ℕ → ℕ) (t v r : ℕ) → length regs ≡ 32 → t < 32 → r < 32 → r ≢ t → register regs r ≡ read f r → register (with_register regs t v) r ≡ read (put f t v) r
put_there regs f t v r a b c d e = grind (arith, common_steps, nat_tests)

-- the registers that an instruction writes
register_written : (i : Instr) (uses : Option ℕ) (r : ℕ) → r < 32 → instr_writes (Some i) uses r ≡ true → (r ≢ 0) × (r ≡ target i)
register_written i uses r lt e = go (nat_lt r 32) (r == 0) (target i == r) refl refl refl e
  where
    go : (a b c : Bool) → nat_lt r 32 ≡ a → (r == 0) ≡ b → (target i == r) ≡ c → (if a then (if b then false else c) else writes_cell i uses r) ≡ true → (r ≢ 0) × (r ≡ target i)
    go false b c x y z h = absurd (grind (arith, nat_tests))
    go true true c x y z h = absurd (cc)
    go true false true x y z h = (ne_of r 0 y, sym (eq_of (target i) r z))
    go true false false x y z h = absurd (cc)

pub same_put : (B : LoopCode) (roles : ℕ → Role) (u : ℕ) (us regs now : List ℕ) (f : ℕ → ℕ) (i : Instr) (v : ℕ) → B.instr u ≡ Some i → length regs ≡ 32 → target i < 32 → now ≡ with_register regs (target i) v
    → Same B roles us regs f → Same B roles (u ∷ us) now (put f (target i) v)
same_put B roles u us regs now f i v is many small e same = record { each = λ r lt k. sym_at r (go r lt (r == target i) refl (known_cases B roles u us r k)) }
  where
    sym_at : (r : ℕ) → register (with_register regs (target i) v) r ≡ read (put f (target i) v) r → register now r ≡ read (put f (target i) v) r
    sym_at r h = ap (λ x. register x r) e ∙ h

    go : (r : ℕ) → r < 32 → (b : Bool) → (r == target i) ≡ b → (word_writes B.cells u (B.instr u) r ≡ true) ⊎ Known B roles us r → register (with_register regs (target i) v) r ≡ read (put f (target i) v) r
    go r lt true x k = put_here regs f (target i) v r many small (eq_of r (target i) x)
    go r lt false x (inl k) = absurd (ne_of r (target i) x (register_written i (B.cells.uses u) r lt (sym (ap (λ o. instr_writes o (B.cells.uses u) r) is) ∙ k)).1)
    go r lt false x (inr k) = put_there regs f (target i) v r many small lt (ne_of r (target i) x) (same.each r lt k)

-- an instruction that writes no register
pub same_kept : (B : LoopCode) (roles : ℕ → Role) (u : ℕ) (us regs now : List ℕ) (f : ℕ → ℕ) (i : Instr) → B.instr u ≡ Some i → target i ≡ 0 → now ≡ regs → Same B roles us regs f → Same B roles (u ∷ us) now f
same_kept B roles u us regs now f i is none e same = record { each = λ r lt k. ap (λ x. register x r) e ∙ go r lt (known_cases B roles u us r k) }
  where
    go : (r : ℕ) → r < 32 → (word_writes B.cells u (B.instr u) r ≡ true) ⊎ Known B roles us r → register regs r ≡ read f r
    go r lt (inl k) = let h = register_written i (B.cells.uses u) r lt (sym (ap (λ o. instr_writes o (B.cells.uses u) r) is) ∙ k) in absurd (h.0 (h.1 ∙ none))
    go r lt (inr k) = same.each r lt k

-- a register that is written twice
twice_read : (f : ℕ → ℕ) (t v x y r : ℕ) → (t ≢ 0 → y ≡ v) → read (put f t v) r ≡ read (put (put f t x) t y) r
twice_read f t v x y r is = go (r == 0) (r == t) refl refl
  where
    go : (a b : Bool) → (r == 0) ≡ a → (r == t) ≡ b → (if r == 0 then 0 else (if r == t then v else f r)) ≡ (if r == 0 then 0 else (if r == t then y else (if r == t then x else f r)))
    go true b p q = rw p refl
    go false true p q = rw (p, q) (sym (is (λ z. ne_of r 0 p (eq_of r t q ∙ z))))
    go false false p q = rw (p, q) refl

pub same_twice : (B : LoopCode) (roles : ℕ → Role) (us regs : List ℕ) (f : ℕ → ℕ) (t v x y : ℕ) → (t ≢ 0 → y ≡ v) → Same B roles us regs (put f t v) → Same B roles us regs (put (put f t x) t y)
same_twice B roles us regs f t v x y is same = record { each = λ r lt k. same.each r lt k ∙ twice_read f t v x y r is }

pub read_put : (f : ℕ → ℕ) (r v : ℕ) → r ≢ 0 → read (put f r v) r ≡ v
read_put f r v h = go (r == 0) (r == r) refl refl
  where
    go : (t u : Bool) → (r == 0) ≡ t → (r == r) ≡ u → (if r == 0 then 0 else (if r == r then v else f r)) ≡ v
    go true u a b = absurd (h (eq_of r 0 a))
    go false true a b = rw (a, b) refl
    go false false a b = absurd (ne_of r r b refl)

-- ---- numbers

pub word_low : (n v : ℕ) → v % 2 ^ 32 ≡ n → alu_imm Addiw v (pos 0) ≡ extended32 n
word_low n v h = ap extended32 (low n v h)
  where
    low : (n v : ℕ) → v % 2 ^ 32 ≡ n → (v % 2 ^ 32 + cast_unsigned w64 (pos 0) % 2 ^ 32) % 2 ^ 32 ≡ n
    low n v h = omega arith

pub bits_back : (n : ℕ) → n < 2 ^ 64 → bits (signed64 n) ≡ n
bits_back n h = grind (arith, ints)

pub offset_small : (a : ℕ) (z : ℤ) → plus_offset a z < 2 ^ 64
offset_small a z = omega arith

-- ---- accesses

pub logged_append : (xs ys : List Ask) (ask : Ask) → logged (xs ++ ys) ask ≡ xs ++ logged ys ask
logged_append xs ys Nothing = refl
logged_append xs ys (Loads x w) = append_assoc xs ys (Loads x w ∷ [])
logged_append xs ys (Stores x w v) = append_assoc xs ys (Stores x w v ∷ [])

pub replayed_logged : (m : List Area) (asks : List Ask) (ask : Ask) → replayed m (logged asks ask) ≡ after (replayed m asks) ask
replayed_logged m asks Nothing = refl
replayed_logged m asks (Loads x w) = replayed-append m asks (Loads x w ∷ [])
replayed_logged m asks (Stores x w v) = replayed-append m asks (Stores x w v ∷ [])

-- an access that is answered is granted
pub granted_is : (m : List Area) (ask : Ask) (n : ℕ) → answer m ask ≡ Ok n → granted m ask ≡ ask
granted_is m ask n e = ap (λ r. unless_denied r ask) e

-- what a load is answered, and what a store leaves
loaded_is : (o : Option MemFault) (n : ℕ) → o ≡ None → or_refusal o n ≡ Ok n
loaded_is o n e = ap (λ x. or_refusal x n) e

-- ---- the hart at a visit of the turn

pub record Follows (l : Level) (B : LoopCode) (roles : ℕ → Role) (s : State) (t a count n : ℕ) (us : List ℕ) (k : ℕ → ℕ) (start : Past) (f g : ℕ → ℕ) (m : Past) : Type 0 where
  pub same : Same B roles us (run s n).regs f
  pub cells : (j : ℕ) (c : Cell) → cell_at B.cells.cells j ≡ Some c → Known B roles us (first_cell + j) → in_slot c.wide (g j) ≡ number_at (bytes_of (width_of c)) (run s n).memory (cell_address s.regs c)
  pub others : (j : ℕ) → cell_at B.cells.cells j ≡ None → g j ≡ k j
  pub agree : Agree (ReadsUnstored l B.cells s t) (run s n).memory m.memory
  pub log : m.log ≡ start.log ++ accesses_from B.cells s a count
  pub memory : m.memory ≡ replayed start.memory (accesses_from B.cells s a count)

-- a word that is no store to a cell writes none
pub no_cell_written : (i : Instr) (uses : Option ℕ) (j : ℕ) → instr_writes (Some i) uses (first_cell + j) ≡ true → uses ≡ Some j
no_cell_written i uses j e = by (nat_lt (32 + j) 32) refl e
  where
    at : (a b : ℕ) → (32 + a == 32 + b) ≡ true → a ≡ b
    at a b h = grind (arith, nat_tests)

    go : (i : Instr) (uses : Option ℕ) → writes_cell i uses (32 + j) ≡ true → uses ≡ Some j
    go (Store op rs1 rs2 imm) (Some q) h = ap Some (at q j h)
    go (Store op rs1 rs2 imm) None h = absurd (cc)
    go (Alu op rd rs1 rs2) uses h = absurd (cc)
    go (AluImm op rd rs1 imm) uses h = absurd (cc)
    go (Upper op rd imm) uses h = absurd (cc)
    go (Load op rd rs1 imm) uses h = absurd (cc)
    go (Branch op rs1 rs2 imm) uses h = absurd (cc)
    go (Jal rd imm) uses h = absurd (cc)
    go (Jalr rd rs1 imm) uses h = absurd (cc)
    go (Fence rd rs1 imm) uses h = absurd (cc)
    go Ecall uses h = absurd (cc)
    go Ebreak uses h = absurd (cc)

    by : (b : Bool) → nat_lt (32 + j) 32 ≡ b → (if b then writes_register i (32 + j) else writes_cell i uses (32 + j)) ≡ true → uses ≡ Some j
    by true x h = absurd (grind (arith, nat_tests))
    by false x h = go i uses h

pub some_same : (a b : ℕ) → Some a ≡ Some b → a ≡ b
some_same a b e = cc

pub cell_same : (c d : Cell) → Some c ≡ Some d → c ≡ d
cell_same c d e = cc

-- Each word of a turn and its copy.
use Rattle.std.proofs.Common.{◌≡◌, ◌≢◌, ℕ, suc, ◌+◌, ◌%◌, ◌^◌, ◌<◌, ◌≤◌, refl, sym, subst, ap, ◌∙◌, arith, ℤ, pos, Option, Some, None, Ok, Bool, true, false, List, [], ◌∷◌, ◌++◌, ◌⊎◌, inl, inr, if◌then◌else◌}
use Rattle.std.specs.Prelude.{◌==◌, ◌||◌, nat_lt}
use Rattle.std.proofs.lemmas.Bool.Decides.{nat_tests}
use Rattle.rv64_decode.specs.Area.{Area, number_at, bytes_of, why, readable_of, writable_of, or_refusal, unless_refused, with_number}
use Rattle.rv64_decode.specs.Ask.{Ask, Nothing, Loads, Stores, answer, after}
use Rattle.rv64_decode.specs.Hart.{address, logged}
use Rattle.rv64_decode.specs.Registers.{register}
use Rattle.rv64_decode.specs.Row.{asks, plus_offset, next_pc, taken, extended, alu_imm, store_width, signed64}
use Rattle.rv64_decode.specs.declared.instr.BranchOp.{BranchOp}
use Rattle.rv64_decode.specs.declared.instr.ImmOp.TheVariants.{Addiw}
use Rattle.rv64_decode.specs.declared.instr.LoadOp.{LoadOp}
use Rattle.rv64_decode.specs.declared.instr.LoadOp.TheVariants.{Lw, Ld}
use Rattle.rv64_decode.specs.declared.instr.StoreOp.{StoreOp}
use Rattle.rv64_decode.specs.declared.instr.UpperOp.TheVariants.{Lui, Auipc}
use Rattle.rv64_decode.specs.declared.instr.Instr.{Instr}
use Rattle.rv64_decode.specs.declared.instr.Instr.TheVariants.{Alu, AluImm, Upper, Load, Store, Branch, Jal, Jalr, Fence, Ecall, Ebreak}
use Rattle.rv64_decode.specs.declared.xinstr.XInstr.{XInstr}
use Rattle.rv64_decode.specs.declared.xinstr.XInstr.TheVariants.{Base}
use Rattle.rv64_decode.proofs.Sound.{register_below}
use Rattle.loop_data.specs.declared.shape.Level.{Level}
use Rattle.loop_data.specs.declared.verdict.Cell.{Cell}
use Rattle.loop_data.specs.Executing.{AreWhole}
use Rattle.loop_data.specs.Independent.{Role, in_cell, IsAccess}
use Rattle.loop_data.specs.Locations.{cell_at, address as cell_address, width_of, width_by, moves_cell, target, first_cell, reads_register, reads_cell, writes_register, word_writes, word_reads, instr_writes, instr_reads}
use Rattle.loop_data.specs.LoopCode.{LoopCode}
use Rattle.loop_data.specs.Nests.{has, Holds}
use Rattle.loop_data.specs.Runs.{State, run, walk, access, granted}
use Rattle.loop_data.specs.Turns.{turn, seen, loads_byte, stores_byte}
use Rattle.loop_data.proofs.CellBytes.{number_at-same, mapped_bytes, cut4, cut8}
use Rattle.loop_data.proofs.CellWords.{IsOwn, own_of, load_of_cell, store_of_cell}
use Rattle.loop_data.proofs.Tests.{eq_of, ne_of, is_eq, yes_no}
use Rattle.stub_laws.specs.Places.{behind}
use Rattle.stub_laws.specs.Straight.{read, put}
use Rattle.stub_laws.proofs.Small.{fetched_small}
use Rattle.stub_laws.proofs.Steps.{World, Wins, imm_law, lui_law, get_law, put_law, jal_law, branch_to}
use Rattle.check_numbers.specs.Parts.{bits, high_part, low_part}
use Rattle.check_numbers.proofs.Parts.{parts}
use Rattle.turn_copies.specs.Memories.{Agree, replayed}
use Rattle.turn_copies.specs.Copies.{Placed, Placing, arrive, Kind, Leaving, OfCell, Plain, kind_by, kind_of, staying, word_code, falls_through, back_code, copy_by, copy_of, goes_on_by, Copies}
use Rattle.turn_copies.specs.Bodies.{IsBody, IsDivided}
use Rattle.turn_copies.specs.Passages.{in_slot, ReadsUnstored, unless_of_cell, outside_access, accesses_from}
use Rattle.turn_copies.proofs.Agreeing.{LoadsAt, agree_answer, agree_after, agree_hidden}
use Rattle.turn_copies.proofs.PlainWords.{IsPlain, asked, given, given_by, plain_law, Sources, within_copy, target_within, same_asks, same_given}
use Rattle.turn_copies.proofs.Visits.{plain_row, jal_row, branch_row, covers_is, Visited, Known, known_cases, visited, known_read, cell_stays}
use Rattle.turn_copies.proofs.Following.{Past, in_memory, onward_law, Same, same_put, same_kept, same_twice, read_put, word_low, bits_back, offset_small, logged_append, replayed_logged, granted_is, Follows, no_cell_written, some_same, cell_same}
use Rattle.rv64_decode.specs.declared.outcome.Next.TheVariants.{At}

plain_code : (l : Level) (c : Placing) (u : ℕ) (i : Instr) → IsPlain i → word_code l c u Plain i ≡ Base i ∷ []
plain_code l c u (Alu op rd rs1 rs2) x = refl
plain_code l c u (AluImm op rd rs1 imm) x = refl
plain_code l c u (Upper Lui rd imm) x = refl
plain_code l c u (Upper Auipc rd imm) x = absurd x
plain_code l c u (Load op rd rs1 imm) x = refl
plain_code l c u (Store op rs1 rs2 imm) x = refl
plain_code l c u (Fence rd rs1 imm) x = refl
plain_code l c u (Branch op rs1 rs2 imm) x = absurd x
plain_code l c u (Jal rd imm) x = absurd x
plain_code l c u (Jalr rd rs1 imm) x = absurd x
plain_code l c u Ecall x = absurd x
plain_code l c u Ebreak x = absurd x

plain_falls : (i : Instr) → IsPlain i → falls_through i ≡ true
plain_falls (Alu op rd rs1 rs2) x = refl
plain_falls (AluImm op rd rs1 imm) x = refl
plain_falls (Upper Lui rd imm) x = refl
plain_falls (Upper Auipc rd imm) x = absurd x
plain_falls (Load op rd rs1 imm) x = refl
plain_falls (Store op rs1 rs2 imm) x = refl
plain_falls (Fence rd rs1 imm) x = refl
plain_falls (Branch op rs1 rs2 imm) x = absurd x
plain_falls (Jal rd imm) x = absurd x
plain_falls (Jalr rd rs1 imm) x = absurd x
plain_falls Ecall x = absurd x
plain_falls Ebreak x = absurd x

-- a register that an instruction reads is a location that its word reads
read_here : (i : Instr) (uses : Option ℕ) (r : ℕ) → r < 32 → reads_register i r ≡ true → instr_reads (Some i) uses r ≡ true
read_here i uses r lt e = ap (λ b. if b then reads_register i r else reads_cell i uses r) low ∙ e
  where
    low : nat_lt r 32 ≡ true
    low = grind (arith, nat_tests)

load_reads : (op : LoadOp) (rd rs1 : ℕ) (imm : ℤ) (q : ℕ) → instr_reads (Some (Load op rd rs1 imm)) (Some q) (first_cell + q) ≡ true
load_reads op rd rs1 imm q = ap (λ b. if b then reads_register (Load op rd rs1 imm) (32 + q) else (32 + q == 32 + q)) high ∙ is_eq (32 + q) (32 + q) refl
  where
    high : nat_lt (32 + q) 32 ≡ false
    high = grind (arith, nat_tests)

load_writes : (op : LoadOp) (rd rs1 : ℕ) (imm : ℤ) (uses : Option ℕ) (j : ℕ) → instr_writes (Some (Load op rd rs1 imm)) uses (first_cell + j) ≡ false
load_writes op rd rs1 imm uses j = ap (λ b. if b then writes_register (Load op rd rs1 imm) (32 + j) else false) high
  where
    high : nat_lt (32 + j) 32 ≡ false
    high = grind (arith, nat_tests)

-- the number of a cell that was just stored to
stored_number : (wide : Bool) (m : List Area) (x v : ℕ) → v < 2 ^ 64 → why writable_of m x (width_by wide) ≡ None → AreWhole m
    → in_slot wide v ≡ number_at (bytes_of (width_by wide)) (after m (Stores x (width_by wide) v)) x
stored_number true m x v lt e whole =
    sym (ap (λ o. number_at 8 (unless_refused o m (with_number 8 m x v)) x) e ∙ number_at-same 8 m x v (mapped_bytes writable_of m x (width_by true) whole e) ∙ cut8 v ∙ (let h : v % 2 ^ 64 ≡ v = omega arith in h))
stored_number false m x v lt e whole =
    sym (ap (λ o. number_at 4 (unless_refused o m (with_number 4 m x v)) x) e ∙ number_at-same 4 m x v (mapped_bytes writable_of m x (width_by false) whole e) ∙ cut4 v)

-- the number that a load of a cell was answered
loaded_number : (wide : Bool) (rd rs1 : ℕ) (imm : ℤ) (regs : List ℕ) (m : List Area) (x n : ℕ) → plus_offset (register regs rs1) imm ≡ x → why readable_of m x (width_by wide) ≡ None
    → answer m (asks (Load (load_of_cell wide) rd rs1 imm) regs) ≡ Ok n → number_at (bytes_of (width_by wide)) m x ≡ n
loaded_number true rd rs1 imm regs m x n at e told =
    let a : or_refusal (why readable_of m x (width_by true)) (number_at 8 m x) ≡ Ok n = sym (ap (λ y. answer m (Loads y (width_by true))) at) ∙ told in
    let b : Ok (number_at 8 m x) ≡ Ok n = sym (ap (λ o. or_refusal o (number_at 8 m x)) e) ∙ a in
    cc
loaded_number false rd rs1 imm regs m x n at e told =
    let a : or_refusal (why readable_of m x (width_by false)) (number_at 4 m x) ≡ Ok n = sym (ap (λ y. answer m (Loads y (width_by false))) at) ∙ told in
    let b : Ok (number_at 4 m x) ≡ Ok n = sym (ap (λ o. or_refusal o (number_at 4 m x)) e) ∙ a in
    cc

none_uses : (o : Option ℕ) (j : ℕ) → o ≡ None → o ≢ Some j
none_uses o j e h = absurd (cc)

unless_nothing : (o : Option ℕ) → unless_of_cell o Nothing ≡ Nothing
unless_nothing None = refl
unless_nothing (Some k) = refl

-- the copy of a word, apart from the jump behind it
record Copied (code : List ℕ) (l : Level) (c : Placing) (u : ℕ) (kind : Kind) (i : Instr) (is : List XInstr) : Type 0 where
  stands : Placed code (c.place u) (is ++ back_code l c (behind (c.place u) is) u i)
  follow : goes_on_by kind (Some i) ≡ true → (next_pc u == l.header) ≡ false → c.place (next_pc u) ≡ behind (c.place u) (is ++ back_code l c (behind (c.place u) is) u i)

copied : (code : List ℕ) (l : Level) (B : LoopCode) (c : Placing) (u : ℕ) (kind : Kind) (i : Instr) → Copies code l B c → Holds l u → kind_of l B u ≡ kind → B.instr u ≡ Some i → Copied code l c u kind i (word_code l c u kind i)
copied code l B c u kind i h inside k e =
    let same : copy_of l c u (kind_of l B u) (B.instr u) ≡ copy_by l c u kind i = ap (λ x. copy_of l c u x (B.instr u)) k ∙ ap (copy_of l c u kind) e in
    let goes : goes_on_by (kind_of l B u) (B.instr u) ≡ goes_on_by kind (Some i) = ap (λ x. goes_on_by x (B.instr u)) k ∙ ap (goes_on_by kind) e in
    record {
      stands = subst (Placed code (c.place u)) same (h.stand u inside);
      follow = λ g n. h.follow u inside (goes ∙ g) n ∙ ap (behind (c.place u)) same;
    }

as_copied : (code : List ℕ) (l : Level) (c : Placing) (u : ℕ) (kind : Kind) (i : Instr) (is js : List XInstr) → is ≡ js → Copied code l c u kind i is → Copied code l c u kind i js
as_copied code l c u kind i is js e h = subst (Copied code l c u kind i) e h

module _ (w : World) (l : Level) (B : LoopCode) (roles : ℕ → Role) (s : State) (p : ℕ) (body : IsBody l B) (d : IsDivided l B roles s p) (c : Placing) (copies : Copies w.code l B c)
    (t a : ℕ) (k : ℕ → ℕ) (start : Past) where
  abbrev Now : ℕ → ℕ → List ℕ → (ℕ → ℕ) → (ℕ → ℕ) → Past → Type 0
  Now count n us f g m = Follows l B roles s t a count n us k start f g m

  abbrev Later : ℕ → ℕ → List ℕ → Type 0
  Later count n us = (f g : ℕ → ℕ) (m : Past) → Now (suc count) (suc n) (walk s n ∷ us) f g m → Wins (in_memory w m) (arrive l c (walk s (suc n))) f g

  -- a word that asks nothing of memory but a load of a cell, and stores to none
  still : (count n : ℕ) (us : List ℕ) (f f' g : ℕ → ℕ) (m : Past) → a + count ≡ n → (run s (suc n)).memory ≡ (run s n).memory → outside_access B.cells s n ≡ Nothing
      → ((j : ℕ) → word_writes B.cells (walk s n) (B.instr (walk s n)) (first_cell + j) ≡ false) → Same B roles (walk s n ∷ us) (run s (suc n)).regs f' → Now count n us f g m → Now (suc count) (suc n) (walk s n ∷ us) f' g m
  still count n us f f' g m at same_memory none writes same h =
      let quiet : accesses_from B.cells s a (suc count) ≡ accesses_from B.cells s a count = ap (λ x. logged (accesses_from B.cells s a count) (outside_access B.cells s x)) at ∙ ap (logged (accesses_from B.cells s a count)) none in
      record {
        same = same;
        cells = λ j e q kn. h.cells j e q (before j (known_cases B roles (walk s n) us (first_cell + j) kn)) ∙ ap (λ x. number_at (bytes_of (width_of e)) x (cell_address s.regs e)) (sym same_memory);
        others = h.others;
        agree = subst (λ x. Agree (ReadsUnstored l B.cells s t) x m.memory) (sym same_memory) h.agree;
        log = h.log ∙ ap (λ x. start.log ++ x) (sym quiet);
        memory = h.memory ∙ ap (replayed start.memory) (sym quiet);
      }
    where
      before : (j : ℕ) → (word_writes B.cells (walk s n) (B.instr (walk s n)) (first_cell + j) ≡ true) ⊎ Known B roles us (first_cell + j) → Known B roles us (first_cell + j)
      before j (inl x) = absurd (yes_no _ x (writes j))
      before j (inr x) = x

  -- a word that uses no cell and asks nothing
  silent : (count n : ℕ) (us : List ℕ) (f f' g : ℕ → ℕ) (m : Past) (i : Instr) → a + count ≡ n → Visited l B s n i → asks i (run s n).regs ≡ Nothing → ((j : ℕ) → B.cells.uses (walk s n) ≢ Some j)
      → Same B roles (walk s n ∷ us) (run s (suc n)).regs f' → Now count n us f g m → Now (suc count) (suc n) (walk s n ∷ us) f' g m
  silent count n us f f' g m i at v none unused same h =
      let access_none : access (run s n) ≡ Nothing = v.access_is ∙ ap (granted (run s n).memory) none in
      still count n us f f' g m at (v.memory_next ∙ ap (after (run s n).memory) none) (ap (unless_of_cell (B.cells.uses (walk s n))) access_none ∙ unless_nothing (B.cells.uses (walk s n))) no_write same h
    where
      no_write : (j : ℕ) → word_writes B.cells (walk s n) (B.instr (walk s n)) (first_cell + j) ≡ false
      no_write j = go (word_writes B.cells (walk s n) (B.instr (walk s n)) (first_cell + j)) refl
        where
          go : (b : Bool) → word_writes B.cells (walk s n) (B.instr (walk s n)) (first_cell + j) ≡ b → word_writes B.cells (walk s n) (B.instr (walk s n)) (first_cell + j) ≡ false
          go true e = absurd (unused j (no_cell_written i (B.cells.uses (walk s n)) j (sym (ap (λ o. instr_writes o (B.cells.uses (walk s n)) (first_cell + j)) v.is) ∙ e)))
          go false e = e

  -- the registers that a word reads are known
  sources : (n : ℕ) (i : Instr) (f : ℕ → ℕ) → turn l s n < p → Visited l B s n i → Same B roles (seen l s n) (run s n).regs f → Sources i (run s n).regs f
  sources n i f lt v same r b e =
      same.each r b (known_read l B roles s p body d n r lt (ap (λ o. word_reads B.cells (walk s n) o r) v.instr_is ∙ read_here i (B.cells.uses (walk s n)) r b e))

  -- the bytes that a word loads outside the cells
  loads_at : (n : ℕ) (ask : Ask) → turn l s n ≡ t → t < p → B.cells.uses (walk s n) ≡ None → access (run s n) ≡ ask → LoadsAt (ReadsUnstored l B.cells s t) ask
  loads_at n Nothing tn lt none e = tt
  loads_at n (Stores x u v) tn lt none e = tt
  loads_at n (Loads x u) tn lt none e = λ z lo hi. (record { at = n; turn = tn; loads = loaded z lo hi }, λ j q r stored. unstored z lo hi j q r stored (in_cell s q z) refl)
    where
      loaded : (z : ℕ) → x ≤ z → z < x + bytes_of u → loads_byte (access (run s n)) z ≡ true
      loaded z lo hi = ap (λ y. loads_byte y z) e ∙ covers_is x (bytes_of u) z lo hi

      unstored : (z : ℕ) → x ≤ z → z < x + bytes_of u → (j : ℕ) (q : Cell) → cell_at B.cells.cells j ≡ Some q → q.stored ≡ true → (b : Bool) → in_cell s q z ≡ b → in_cell s q z ≡ false
      unstored z lo hi j q r stored true h =
          let early : turn l s n < p = omega arith in
          absurd (yes_no _ (loaded z lo hi) (d.independent.cells.touched n j z q early r stored (none_uses _ j none) h).0)
      unstored z lo hi j q r stored false h = h

  plain_step : (count n : ℕ) (f g : ℕ → ℕ) (m : Past) (i : Instr) → a + count ≡ n → turn l s n ≡ t → t < p → Visited l B s n i → IsPlain i → kind_of l B (walk s n) ≡ Plain → B.cells.uses (walk s n) ≡ None
      → Now count n (seen l s n) f g m → Later count n (seen l s n) → Wins (in_memory w m) (c.place (walk s n)) f g
  plain_step count n f g m i at tn lt v plain kind none h next =
      let u = walk s n in
      let us = seen l s n in
      let regs = (run s n).regs in
      let mem = (run s n).memory in
      let early : turn l s n < p = omega arith in
      let copy = as_copied w.code l c u Plain i (word_code l c u Plain i) (Base i ∷ []) (plain_code l c u i plain) (copied w.code l B c u Plain i copies v.inside kind v.is) in
      let row = plain_row i u (walk s (suc n)) regs mem plain v.next in
      let within = within_copy w.code (c.place u) i copy.stands.0 in
      let read_same = sources n i f early v h.same in
      let ask = asks i regs in
      let same_ask = same_asks i regs f plain within read_same in
      let is_access : access (run s n) ≡ ask = v.access_is ∙ granted_is mem ask row.told row.answered in
      let told : answer m.memory (asked i f) ≡ Ok row.told =
      ap (answer m.memory) (sym same_ask) ∙ sym (agree_answer (ReadsUnstored l B.cells s t) mem m.memory ask h.agree (loads_at n ask tn lt none is_access)) ∙ row.answered in
      let m1 : Past = record { memory = after m.memory ask; log = logged m.log ask } in
      let f1 = put f (target i) (given i f row.told) in
      let outside : outside_access B.cells s (a + count) ≡ ask = ap (outside_access B.cells s) at ∙ ap (λ o. unless_of_cell o (access (run s n))) none ∙ is_access in
      let now : Now (suc count) (suc n) (u ∷ us) f1 g m1 =
      record {
        same = subst (λ x. Same B roles (u ∷ us) (run s (suc n)).regs (put f (target i) x)) (same_given i regs f row.told plain within read_same)
            (same_put B roles u us regs (run s (suc n)).regs f i (given_by i regs row.told) v.is v.words.count (target_within i plain within) (v.regs_next ∙ row.regs_are) h.same);
        cells = λ j e q kn. h.cells j e q (before j v.is none (known_cases B roles u us (first_cell + j) kn)) ∙ sym (cell_stays l B roles s p body d n j e early q (none_uses _ j none));
        others = h.others;
        agree = subst (λ x. Agree (ReadsUnstored l B.cells s t) x (after m.memory ask)) (sym v.memory_next) (agree_after (ReadsUnstored l B.cells s t) mem m.memory ask h.agree);
        log = ap (λ x. logged x ask) h.log ∙ logged_append start.log (accesses_from B.cells s a count) ask ∙ ap (λ x. start.log ++ logged (accesses_from B.cells s a count) x) (sym outside);
        memory = ap (λ x. after x ask) h.memory ∙ sym (replayed_logged start.memory (accesses_from B.cells s a count) ask) ∙ ap (λ x. replayed start.memory (logged (accesses_from B.cells s a count) x)) (sym outside);
      } in
      plain_law (in_memory w m) (c.place u) row.told f g i plain copy.stands.0 told
      (subst (λ x. Wins (record w { memory = after m.memory x; log = logged m.log x }) (suc (c.place u)) f1 g) same_ask
      (onward_law (in_memory w m1) l c u (Base i ∷ []) i f1 g (plain_falls i plain) copies.next_near copy.stands.1 (copy.follow (plain_falls i plain))
      (subst (λ x. Wins (in_memory w m1) (arrive l c x) f1 g) (sym row.next) (next f1 g m1 now))))
    where
      before : (j : ℕ) → B.instr (walk s n) ≡ Some i → B.cells.uses (walk s n) ≡ None → (word_writes B.cells (walk s n) (B.instr (walk s n)) (first_cell + j) ≡ true) ⊎ Known B roles (seen l s n) (first_cell + j) → Known B roles (seen l s n) (first_cell + j)
      before j is none (inl x) = absurd (none_uses _ j none (no_cell_written i (B.cells.uses (walk s n)) j (sym (ap (λ o. instr_writes o (B.cells.uses (walk s n)) (first_cell + j)) is) ∙ x)))
      before j is none (inr x) = x

  auipc_step : (count n : ℕ) (f g : ℕ → ℕ) (m : Past) (rd : ℕ) (imm : ℤ) → a + count ≡ n → Visited l B s n (Upper Auipc rd imm) → kind_of l B (walk s n) ≡ Plain → B.cells.uses (walk s n) ≡ None
      → Now count n (seen l s n) f g m → Later count n (seen l s n) → Wins (in_memory w m) (c.place (walk s n)) f g
  auipc_step count n f g m rd imm at v kind none h next =
      let u = walk s n in
      let us = seen l s n in
      let i = Upper Auipc rd imm in
      let q = c.place u in
      let value = plus_offset u imm in
      let z = signed64 value in
      let copy = copied w.code l B c u Plain i copies v.inside kind v.is in
      let high = bits (high_part z) in
      let f1 = put f rd high in
      let y = alu_imm Addiw (read f1 rd) (low_part z) in
      let f2 = put f1 rd y in
      let is : rd ≢ 0 → y ≡ value = λ ne. ap (λ x. alu_imm Addiw x (low_part z)) (read_put f rd high ne) ∙ parts z v.short ∙ bits_back value (offset_small u imm) in
      let goes : next_pc u ≡ walk s (suc n) = same_at _ _ v.next in
      let once = same_put B roles u us (run s n).regs (run s (suc n)).regs f i value v.is v.words.count (fetched_small w.code (address q) _ copy.stands.0) v.regs_next h.same in
      lui_law (in_memory w m) q f g rd (high_part z) copy.stands.0
      (imm_law (in_memory w m) (suc q) f1 g Addiw rd rd (low_part z) copy.stands.1.0
      (onward_law (in_memory w m) l c u (word_code l c u Plain i) i f2 g refl copies.next_near copy.stands.1.1 (copy.follow refl)
      (subst (λ x. Wins (in_memory w m) (arrive l c x) f2 g) (sym goes)
      (next f2 g m (silent count n us f f2 g m i at v refl (λ j. none_uses _ j none) (same_twice B roles (u ∷ us) (run s (suc n)).regs f rd value high y is once) h)))))
    where
      same_at : (x y : ℕ) → At x ≡ At y → x ≡ y
      same_at x y e = cc

  branch_step : (count n : ℕ) (f g : ℕ → ℕ) (m : Past) (op : BranchOp) (rs1 rs2 : ℕ) (imm : ℤ) → a + count ≡ n → turn l s n < p → Visited l B s n (Branch op rs1 rs2 imm) → kind_of l B (walk s n) ≡ Plain → B.cells.uses (walk s n) ≡ None
      → Now count n (seen l s n) f g m → Later count n (seen l s n) → Wins (in_memory w m) (c.place (walk s n)) f g
  branch_step count n f g m op rs1 rs2 imm at early v kind none h next =
      let u = walk s n in
      let i = Branch op rs1 rs2 imm in
      let copy = copied w.code l B c u Plain i copies v.inside kind v.is in
      let small = fetched_small w.code (address (c.place u)) _ copy.stands.0 in
      let row = branch_row op rs1 rs2 u (walk s (suc n)) imm (run s n).regs (run s n).memory v.next in
      let source = sources n i f early v h.same in
      let one = source rs1 small.0 (first_of_two rs1 rs2) in
      let two = source rs2 small.1 (second_of_two rs1 rs2) in
      let test : taken op (register (run s n).regs rs1) (register (run s n).regs rs2) ≡ taken op (read f rs1) (read f rs2) = ap (λ x. taken op x (register (run s n).regs rs2)) one ∙ ap (taken op (read f rs1)) two in
      let goes : (if taken op (read f rs1) (read f rs2) then plus_offset u imm else next_pc u) ≡ walk s (suc n) = sym (ap (λ b. if b then plus_offset u imm else next_pc u) test) ∙ row.0 in
      let go = next f g m (silent count n (seen l s n) f f g m i at v refl (λ j. none_uses _ j none) (same_kept B roles u (seen l s n) (run s n).regs (run s (suc n)).regs f i v.is refl (v.regs_next ∙ row.1) h.same) h) in
      branch_to (in_memory w m) (c.place u) (arrive l c (plus_offset u imm)) f g op rs1 rs2 copy.stands.0 (near (plus_offset u imm))
      (λ e. subst (λ x. Wins (in_memory w m) (arrive l c x) f g) (sym (sym (ap (λ b. if b then plus_offset u imm else next_pc u) e) ∙ goes)) go)
      (λ e. onward_law (in_memory w m) l c u (word_code l c u Plain i) i f g refl copies.next_near copy.stands.1 (copy.follow refl)
      (subst (λ x. Wins (in_memory w m) (arrive l c x) f g) (sym (sym (ap (λ b. if b then plus_offset u imm else next_pc u) e) ∙ goes)) go))
    where
      near : (x : ℕ) → arrive l c x ≤ 2 ^ 32
      near x = go (x == l.header)
        where
          go : (b : Bool) → (if b then c.next else c.place x) ≤ 2 ^ 32
          go true = copies.next_near
          go false = copies.near x

      first_of_two : (a b : ℕ) → ((a == a) || (b == a)) ≡ true
      first_of_two a b = ap (λ t. t || (b == a)) (is_eq a a refl)

      second_of_two : (a b : ℕ) → ((a == b) || (b == b)) ≡ true
      second_of_two a b = go (a == b) (b == b) (is_eq b b refl)
        where
          go : (t u : Bool) → u ≡ true → (t || u) ≡ true
          go true u e = refl
          go false u e = e

  jump_step : (count n : ℕ) (f g : ℕ → ℕ) (m : Past) (rd : ℕ) (imm : ℤ) → a + count ≡ n → Visited l B s n (Jal rd imm) → kind_of l B (walk s n) ≡ Plain → B.cells.uses (walk s n) ≡ None
      → Now count n (seen l s n) f g m → Later count n (seen l s n) → Wins (in_memory w m) (c.place (walk s n)) f g
  jump_step count n f g m rd imm at v kind none h next =
      let u = walk s n in
      let i = Jal rd imm in
      let copy = copied w.code l B c u Plain i copies v.inside kind v.is in
      let row = jal_row rd u (walk s (suc n)) imm (run s n).regs (run s n).memory v.plain v.next in
      jal_law (in_memory w m) (c.place u) (arrive l c (plus_offset u imm)) f g copy.stands.0 (near (plus_offset u imm))
      (subst (λ x. Wins (in_memory w m) (arrive l c x) f g) (sym row.0)
      (next f g m (silent count n (seen l s n) f f g m i at v refl (λ j. none_uses _ j none) (same_kept B roles u (seen l s n) (run s n).regs (run s (suc n)).regs f i v.is v.plain (v.regs_next ∙ row.1) h.same) h)))
    where
      near : (x : ℕ) → arrive l c x ≤ 2 ^ 32
      near x = go (x == l.header)
        where
          go : (b : Bool) → (if b then c.next else c.place x) ≤ 2 ^ 32
          go true = copies.next_near
          go false = copies.near x

  -- the branch at which the loop is left stays
  leaving_step : (count n : ℕ) (f g : ℕ → ℕ) (m : Past) (op : BranchOp) (rs1 rs2 : ℕ) (imm : ℤ) → a + count ≡ n → Visited l B s n (Branch op rs1 rs2 imm) → kind_of l B (walk s n) ≡ Leaving → ((j : ℕ) → B.cells.uses (walk s n) ≢ Some j)
      → (has l.body (plus_offset (walk s n) imm) ≡ false) ⊎ (has l.body (next_pc (walk s n)) ≡ false) → Holds l (walk s (suc n))
      → Now count n (seen l s n) f g m → Later count n (seen l s n) → Wins (in_memory w m) (c.place (walk s n)) f g
  leaving_step count n f g m op rs1 rs2 imm at v kind unused out inside h next =
      let u = walk s n in
      let i = Branch op rs1 rs2 imm in
      let copy = copied w.code l B c u Leaving i copies v.inside kind v.is in
      let row = branch_row op rs1 rs2 u (walk s (suc n)) imm (run s n).regs (run s n).memory v.next in
      let stays = staying_is (taken op (register (run s n).regs rs1) (register (run s n).regs rs2)) row.0 (has l.body (plus_offset u imm)) refl out in
      jal_law (in_memory w m) (c.place u) (arrive l c (staying l u i)) f g copy.stands.0 (near (staying l u i))
      (subst (λ x. Wins (in_memory w m) (arrive l c x) f g) (sym stays)
      (next f g m (silent count n (seen l s n) f f g m i at v refl unused (same_kept B roles u (seen l s n) (run s n).regs (run s (suc n)).regs f i v.is refl (v.regs_next ∙ row.1) h.same) h)))
    where
      near : (x : ℕ) → arrive l c x ≤ 2 ^ 32
      near x = go (x == l.header)
        where
          go : (b : Bool) → (if b then c.next else c.place x) ≤ 2 ^ 32
          go true = copies.next_near
          go false = copies.near x

      x : ℕ
      x = plus_offset (walk s n) imm

      y : ℕ
      y = next_pc (walk s n)

      staying_is : (e : Bool) → (if e then x else y) ≡ walk s (suc n) → (b : Bool) → has l.body x ≡ b → (has l.body x ≡ false) ⊎ (has l.body y ≡ false) → (if has l.body x then x else y) ≡ walk s (suc n)
      staying_is true e true b o = ap (λ q. if q then x else y) b ∙ e
      staying_is true e false b o = absurd (yes_no _ inside (ap (has l.body) (sym e) ∙ b))
      staying_is false e true b (inl o) = absurd (yes_no _ b o)
      staying_is false e true b (inr o) = absurd (yes_no _ inside (ap (has l.body) (sym e) ∙ o))
      staying_is false e false b o = ap (λ q. if q then x else y) b ∙ e

  -- a load of a cell, by the cell's width
  fetch_step : (count n : ℕ) (f g : ℕ → ℕ) (m : Past) (q : ℕ) (e : Cell) (wide : Bool) (rd rs1 : ℕ) (imm : ℤ) → a + count ≡ n → turn l s n < p → e.wide ≡ wide → Visited l B s n (Load (load_of_cell wide) rd rs1 imm)
      → kind_of l B (walk s n) ≡ OfCell q → B.cells.uses (walk s n) ≡ Some q → cell_at B.cells.cells q ≡ Some e
      → plus_offset (register (run s n).regs rs1) imm ≡ cell_address s.regs e → why readable_of (run s n).memory (cell_address s.regs e) (width_by wide) ≡ None
      → Now count n (seen l s n) f g m → Later count n (seen l s n) → Wins (in_memory w m) (c.place (walk s n)) f g
  fetch_step count n f g m q e wide rd rs1 imm at early is_wide v kind uses cell addr allowed h next = go wide is_wide v addr allowed
    where
      value : (o : Bool) → e.wide ≡ o → Visited l B s n (Load (load_of_cell o) rd rs1 imm) → in_slot o (g q) ≡ number_at (bytes_of (width_by o)) (run s n).memory (cell_address s.regs e)
      value o x v =
          let kn = known_read l B roles s p body d n (first_cell + q) early (ap (λ i. word_reads B.cells (walk s n) i (first_cell + q)) v.instr_is ∙ ap (λ b. instr_reads (Some (Load (load_of_cell o) rd rs1 imm)) b (first_cell + q)) uses ∙ load_reads (load_of_cell o) rd rs1 imm q) in
          subst (λ b. in_slot b (g q) ≡ number_at (bytes_of (width_by b)) (run s n).memory (cell_address s.regs e)) x (h.cells q e cell kn)

      no_write : (o : Bool) → Visited l B s n (Load (load_of_cell o) rd rs1 imm) → (j : ℕ) → word_writes B.cells (walk s n) (B.instr (walk s n)) (first_cell + j) ≡ false
      no_write o v j = ap (λ i. word_writes B.cells (walk s n) i (first_cell + j)) v.is ∙ load_writes (load_of_cell o) rd rs1 imm (B.cells.uses (walk s n)) j

      unseen : outside_access B.cells s n ≡ Nothing
      unseen = ap (λ o. unless_of_cell o (access (run s n))) uses

      go : (o : Bool) → e.wide ≡ o → Visited l B s n (Load (load_of_cell o) rd rs1 imm) → plus_offset (register (run s n).regs rs1) imm ≡ cell_address s.regs e → why readable_of (run s n).memory (cell_address s.regs e) (width_by o) ≡ None
          → Wins (in_memory w m) (c.place (walk s n)) f g
      go true x v addr allowed =
          let u = walk s n in
          let us = seen l s n in
          let i = Load Ld rd rs1 imm in
          let copy = copied w.code l B c u (OfCell q) i copies v.inside kind v.is in
          let row = plain_row i u (walk s (suc n)) (run s n).regs (run s n).memory tt v.next in
          let got : g q ≡ row.told = value true x v ∙ loaded_number true rd rs1 imm (run s n).regs (run s n).memory (cell_address s.regs e) row.told addr allowed row.answered in
          let small = fetched_small w.code (address (c.place u)) _ copy.stands.0 in
          let one = same_put B roles u us (run s n).regs (run s (suc n)).regs f i (extended Ld row.told) v.is v.words.count small.0 (v.regs_next ∙ row.regs_are) h.same in
          let f1 = put f rd (g q) in
          get_law (in_memory w m) (c.place u) f g rd q copy.stands.0
          (onward_law (in_memory w m) l c u (word_code l c u (OfCell q) i) i f1 g refl copies.next_near copy.stands.1 (copy.follow refl)
          (subst (λ y. Wins (in_memory w m) (arrive l c y) f1 g) (sym row.next)
          (next f1 g m (still count n us f f1 g m at v.memory_next unseen (no_write true v) (subst (λ y. Same B roles (u ∷ us) (run s (suc n)).regs (put f rd y)) (sym got) one) h))))
      go false x v addr allowed =
          let u = walk s n in
          let us = seen l s n in
          let i = Load Lw rd rs1 imm in
          let p0 = c.place u in
          let copy = copied w.code l B c u (OfCell q) i copies v.inside kind v.is in
          let row = plain_row i u (walk s (suc n)) (run s n).regs (run s n).memory tt v.next in
          let got : g q % 2 ^ 32 ≡ row.told = value false x v ∙ loaded_number false rd rs1 imm (run s n).regs (run s n).memory (cell_address s.regs e) row.told addr allowed row.answered in
          let small = fetched_small w.code (address p0) _ copy.stands.0 in
          let one = same_put B roles u us (run s n).regs (run s (suc n)).regs f i (extended Lw row.told) v.is v.words.count small.0 (v.regs_next ∙ row.regs_are) h.same in
          let f1 = put f rd (g q) in
          let y = alu_imm Addiw (read f1 rd) (pos 0) in
          let f2 = put f1 rd y in
          let is : rd ≢ 0 → y ≡ extended Lw row.told = λ z. ap (λ b. alu_imm Addiw b (pos 0)) (read_put f rd (g q) z) ∙ word_low row.told (g q) got in
          get_law (in_memory w m) p0 f g rd q copy.stands.0
          (imm_law (in_memory w m) (suc p0) f1 g Addiw rd rd (pos 0) copy.stands.1.0
          (onward_law (in_memory w m) l c u (word_code l c u (OfCell q) i) i f2 g refl copies.next_near copy.stands.1.1 (copy.follow refl)
          (subst (λ z. Wins (in_memory w m) (arrive l c z) f2 g) (sym row.next)
          (next f2 g m (still count n us f f2 g m at v.memory_next unseen (no_write false v) (same_twice B roles (u ∷ us) (run s (suc n)).regs f rd (extended Lw row.told) (g q) y is one) h)))))

  -- a store to a cell
  keep_step : (count n : ℕ) (f g : ℕ → ℕ) (m : Past) (q : ℕ) (e : Cell) (op : StoreOp) (rs1 rs2 : ℕ) (imm : ℤ) → a + count ≡ n → turn l s n ≡ t → t < p → Visited l B s n (Store op rs1 rs2 imm)
      → kind_of l B (walk s n) ≡ OfCell q → B.cells.uses (walk s n) ≡ Some q → cell_at B.cells.cells q ≡ Some e → op ≡ store_of_cell e.wide
      → plus_offset (register (run s n).regs rs1) imm ≡ cell_address s.regs e → why writable_of (run s n).memory (cell_address s.regs e) (width_of e) ≡ None
      → Now count n (seen l s n) f g m → Later count n (seen l s n) → Wins (in_memory w m) (c.place (walk s n)) f g
  keep_step count n f g m q e op rs1 rs2 imm at tn lt v kind uses cell is_op addr allowed h next =
      let u = walk s n in
      let us = seen l s n in
      let i = Store op rs1 rs2 imm in
      let copy = copied w.code l B c u (OfCell q) i copies v.inside kind v.is in
      let row = plain_row i u (walk s (suc n)) (run s n).regs (run s n).memory tt v.next in
      let small = fetched_small w.code (address (c.place u)) _ copy.stands.0 in
      let early : turn l s n < p = omega arith in
      let source = sources n i f early v h.same rs2 small.1 (second_of rs1 rs2) in
      let val = register (run s n).regs rs2 in
      let g1 = put g q (read f rs2) in
      let x = cell_address s.regs e in
      let mem = (run s n).memory in
      let ask : asks i (run s n).regs ≡ Stores x (width_of e) val = ap (λ y. Stores y (store_width op) val) addr ∙ ap (λ o. Stores x (store_width o) val) is_op ∙ ap (λ y. Stores x y val) (widths e.wide) in
      let memory_is : (run s (suc n)).memory ≡ after mem (Stores x (width_of e) val) = v.memory_next ∙ ap (after mem) ask in
      let access_is : access (run s n) ≡ Stores x (width_of e) val = v.access_is ∙ granted_is mem (asks i (run s n).regs) row.told row.answered ∙ ask in
      let quiet : accesses_from B.cells s a (suc count) ≡ accesses_from B.cells s a count = ap (λ y. logged (accesses_from B.cells s a count) (outside_access B.cells s y)) at ∙ ap (λ o. logged (accesses_from B.cells s a count) (unless_of_cell o (access (run s n)))) uses in
      let new : in_slot e.wide (read f rs2) ≡ number_at (bytes_of (width_of e)) (run s (suc n)).memory x =
      ap (in_slot e.wide) (sym source) ∙ stored_number e.wide mem x val (register_below (run s n).regs rs2 v.words) allowed v.whole ∙ ap (λ y. number_at (bytes_of (width_of e)) y x) (sym memory_is) in
      let is_stored : e.stored ≡ true = stored_flag early access_is e.stored refl in
      let now : Now (suc count) (suc n) (u ∷ us) f g1 m =
      record {
        same = same_kept B roles u us (run s n).regs (run s (suc n)).regs f i v.is refl (v.regs_next ∙ row.regs_are) h.same;
        cells = λ j e' is kn. cell_now early v.is new j e' (j == q) refl is kn;
        others = λ j none. other_now j (j == q) refl none ∙ h.others j none;
        agree = subst (λ y. Agree (ReadsUnstored l B.cells s t) y m.memory) (sym memory_is) (agree_hidden (ReadsUnstored l B.cells s t) mem m.memory x val (width_of e) (λ z lo hi r. yes_no _ (covers_is x (bytes_of (width_of e)) z lo hi) (r.1 q e cell is_stored)) h.agree);
        log = h.log ∙ ap (λ y. start.log ++ y) (sym quiet);
        memory = h.memory ∙ ap (replayed start.memory) (sym quiet);
      } in
      put_law (in_memory w m) (c.place u) f g q rs2 copy.stands.0
      (onward_law (in_memory w m) l c u (word_code l c u (OfCell q) i) i f g1 refl copies.next_near copy.stands.1 (copy.follow refl)
      (subst (λ y. Wins (in_memory w m) (arrive l c y) f g1) (sym row.next) (next f g1 m now)))
    where
      second_of : (y z : ℕ) → ((y == z) || (z == z)) ≡ true
      second_of y z = by (y == z) (z == z) (is_eq z z refl)
        where
          by : (b b' : Bool) → b' ≡ true → (b || b') ≡ true
          by true b' r = refl
          by false b' r = r

      widths : (o : Bool) → store_width (store_of_cell o) ≡ width_by o
      widths true = refl
      widths false = refl

      some_byte : (o : Bool) → 0 < bytes_of (width_by o)
      some_byte true = omega arith
      some_byte false = omega arith

      stored_flag : turn l s n < p → access (run s n) ≡ Stores (cell_address s.regs e) (width_of e) (register (run s n).regs rs2) → (b : Bool) → e.stored ≡ b → e.stored ≡ true
      stored_flag early is true r = r
      stored_flag early is false r =
          let x = cell_address s.regs e in
          let some = some_byte e.wide in
          let inside : in_cell s e x ≡ true = covers_is x (bytes_of (width_of e)) x (omega arith) (omega (arith, some)) in
          absurd (yes_no _ (ap (λ y. stores_byte y x) is ∙ inside) (d.independent.cells.written n q x e early cell r inside))

      differs : (j : ℕ) → (j == q) ≡ false → B.cells.uses (walk s n) ≢ Some j
      differs j ne is = ne_of j q ne (some_same j q (sym is ∙ uses))

      cell_now : turn l s n < p → B.instr (walk s n) ≡ Some (Store op rs1 rs2 imm) → in_slot e.wide (read f rs2) ≡ number_at (bytes_of (width_of e)) (run s (suc n)).memory (cell_address s.regs e) → (j : ℕ) (e' : Cell) (b : Bool) → (j == q) ≡ b → cell_at B.cells.cells j ≡ Some e' → Known B roles (walk s n ∷ seen l s n) (first_cell + j)
          → in_slot e'.wide (put g q (read f rs2) j) ≡ number_at (bytes_of (width_of e')) (run s (suc n)).memory (cell_address s.regs e')
      cell_now early instr_is new j e' true r is kn =
          let same : e ≡ e' = cell_same e e' (sym cell ∙ ap (cell_at B.cells.cells) (sym (eq_of j q r)) ∙ is) in
          ap (λ b. in_slot e'.wide (if b then read f rs2 else g j)) r ∙ subst (λ y. in_slot y.wide (read f rs2) ≡ number_at (bytes_of (width_of y)) (run s (suc n)).memory (cell_address s.regs y)) same new
      cell_now early instr_is new j e' false r is kn =
          ap (λ b. in_slot e'.wide (if b then read f rs2 else g j)) r ∙ h.cells j e' is (before (known_cases B roles (walk s n) (seen l s n) (first_cell + j) kn)) ∙ sym (cell_stays l B roles s p body d n j e' early is (differs j r))
        where
          before : (word_writes B.cells (walk s n) (B.instr (walk s n)) (first_cell + j) ≡ true) ⊎ Known B roles (seen l s n) (first_cell + j) → Known B roles (seen l s n) (first_cell + j)
          before (inl y) = absurd (differs j r (no_cell_written (Store op rs1 rs2 imm) (B.cells.uses (walk s n)) j (sym (ap (λ o. instr_writes o (B.cells.uses (walk s n)) (first_cell + j)) instr_is) ∙ y)))
          before (inr y) = y

      other_now : (j : ℕ) (b : Bool) → (j == q) ≡ b → cell_at B.cells.cells j ≡ None → put g q (read f rs2) j ≡ g j
      other_now j true r none = absurd (no_cell (cell_at B.cells.cells j) none (ap (cell_at B.cells.cells) (eq_of j q r) ∙ cell))
        where
          no_cell : (o : Option Cell) → o ≡ None → o ≡ Some e → ⊥
          no_cell o y z = absurd (cc)
      other_now j false r none = ap (λ b. if b then read f rs2 else g j) r

  -- a word that uses a cell
  cell_step : (count n : ℕ) (f g : ℕ → ℕ) (m : Past) (q : ℕ) (i : Instr) → a + count ≡ n → turn l s n ≡ t → t < p → Visited l B s n i → kind_of l B (walk s n) ≡ OfCell q → B.cells.uses (walk s n) ≡ Some q
      → Now count n (seen l s n) f g m → Later count n (seen l s n) → Wins (in_memory w m) (c.place (walk s n)) f g
  cell_step count n f g m q i at tn lt v kind uses h next =
      let early : turn l s n < p = omega arith in
      let found = body.cells.uses (walk s n) q v.inside uses in
      let e = found.0 in
      let moves : moves_cell (Some i) e.wide ≡ true = sym (ap (λ o. moves_cell o e.wide) v.is) ∙ found.2 in
      let own = own_of i s.regs (run s n).regs (run s n).memory e moves (subst (λ y. IsAccess y (cell_address s.regs e) (width_of e)) v.access_is (d.independent.cells.own n q e early uses found.1)) v.whole in
      by i v own found.1
    where
      by : (i : Instr) → Visited l B s n i → IsOwn i s.regs (run s n).regs (run s n).memory (body.cells.uses (walk s n) q v.inside uses).0 → cell_at B.cells.cells q ≡ Some (body.cells.uses (walk s n) q v.inside uses).0 → Wins (in_memory w m) (c.place (walk s n)) f g
      by (Load op rd rs1 imm) v' o is =
          let e' = (body.cells.uses (walk s n) q v.inside uses).0 in
          let early : turn l s n < p = omega arith in
          fetch_step count n f g m q e' e'.wide rd rs1 imm at early refl (subst (λ y. Visited l B s n (Load y rd rs1 imm)) o.0 v') kind uses is o.1 o.2 h next
      by (Store op rs1 rs2 imm) v' o is =
          let e' = (body.cells.uses (walk s n) q v.inside uses).0 in
          keep_step count n f g m q e' op rs1 rs2 imm at tn lt v' kind uses is o.0 o.1 o.2 h next
      by (Alu op rd rs1 rs2) v' o is = absurd o
      by (AluImm op rd rs1 imm) v' o is = absurd o
      by (Upper op rd imm) v' o is = absurd o
      by (Branch op rs1 rs2 imm) v' o is = absurd o
      by (Jal rd imm) v' o is = absurd o
      by (Jalr rd rs1 imm) v' o is = absurd o
      by (Fence rd rs1 imm) v' o is = absurd o
      by Ecall v' o is = absurd o
      by Ebreak v' o is = absurd o

  -- a word that uses none, and is not the one at which the loop is left
  other_step : (count n : ℕ) (f g : ℕ → ℕ) (m : Past) (i : Instr) → a + count ≡ n → turn l s n ≡ t → t < p → Visited l B s n i → kind_of l B (walk s n) ≡ Plain → B.cells.uses (walk s n) ≡ None
      → Now count n (seen l s n) f g m → Later count n (seen l s n) → Wins (in_memory w m) (c.place (walk s n)) f g
  other_step count n f g m (Alu op rd rs1 rs2) at tn lt v kind none h next = plain_step count n f g m (Alu op rd rs1 rs2) at tn lt v tt kind none h next
  other_step count n f g m (AluImm op rd rs1 imm) at tn lt v kind none h next = plain_step count n f g m (AluImm op rd rs1 imm) at tn lt v tt kind none h next
  other_step count n f g m (Upper Lui rd imm) at tn lt v kind none h next = plain_step count n f g m (Upper Lui rd imm) at tn lt v tt kind none h next
  other_step count n f g m (Upper Auipc rd imm) at tn lt v kind none h next = auipc_step count n f g m rd imm at v kind none h next
  other_step count n f g m (Load op rd rs1 imm) at tn lt v kind none h next = plain_step count n f g m (Load op rd rs1 imm) at tn lt v tt kind none h next
  other_step count n f g m (Store op rs1 rs2 imm) at tn lt v kind none h next = plain_step count n f g m (Store op rs1 rs2 imm) at tn lt v tt kind none h next
  other_step count n f g m (Fence rd rs1 imm) at tn lt v kind none h next = plain_step count n f g m (Fence rd rs1 imm) at tn lt v tt kind none h next
  other_step count n f g m (Branch op rs1 rs2 imm) at tn lt v kind none h next = branch_step count n f g m op rs1 rs2 imm at (omega arith) v kind none h next
  other_step count n f g m (Jal rd imm) at tn lt v kind none h next = jump_step count n f g m rd imm at v kind none h next
  other_step count n f g m (Jalr rd rs1 imm) at tn lt v kind none h next = absurd v.plain
  other_step count n f g m Ecall at tn lt v kind none h next = absurd v.plain
  other_step count n f g m Ebreak at tn lt v kind none h next = absurd v.plain

  -- no word that branches uses a cell
  unused_branch : (n : ℕ) (op : BranchOp) (rs1 rs2 : ℕ) (imm : ℤ) → Visited l B s n (Branch op rs1 rs2 imm) → (j : ℕ) → B.cells.uses (walk s n) ≢ Some j
  unused_branch n op rs1 rs2 imm v j e =
      let found = body.cells.uses (walk s n) j v.inside e in
      let moves : moves_cell (Some (Branch op rs1 rs2 imm)) (found.0).wide ≡ true = sym (ap (λ o. moves_cell o (found.0).wide) v.is) ∙ found.2 in
      absurd (cc)

  -- one word of the turn
  pub step_law : (count n : ℕ) (f g : ℕ → ℕ) (m : Past) → a + count ≡ n → turn l s n ≡ t → t < p → Holds l (walk s (suc n)) → Now count n (seen l s n) f g m → Later count n (seen l s n) → Wins (in_memory w m) (c.place (walk s n)) f g
  step_law count n f g m at tn lt inside h next =
      let v = visited l B roles s p body d n (omega arith) in
      by (walk s n == l.exit) (B.cells.uses (walk s n)) refl refl v.0 v.1
    where
      kind_is : (b : Bool) (o : Option ℕ) → (walk s n == l.exit) ≡ b → B.cells.uses (walk s n) ≡ o → kind_of l B (walk s n) ≡ kind_by b o
      kind_is b o e q = ap (λ x. kind_by x (B.cells.uses (walk s n))) e ∙ ap (kind_by b) q

      by : (b : Bool) (o : Option ℕ) → (walk s n == l.exit) ≡ b → B.cells.uses (walk s n) ≡ o → (i : Instr) → Visited l B s n i → Wins (in_memory w m) (c.place (walk s n)) f g
      by true o e q i v =
          let left = body.left in
          let here : walk s n ≡ l.exit = eq_of _ _ e in
          let is : Some i ≡ Some (Branch left.op left.rs1 left.rs2 left.imm) = sym v.is ∙ ap B.instr here ∙ left.is in
          let same : i ≡ Branch left.op left.rs1 left.rs2 left.imm = cc in
          let v' = subst (Visited l B s n) same v in
          leaving_step count n f g m left.op left.rs1 left.rs2 left.imm at v' (kind_is true o e q) (unused_branch n left.op left.rs1 left.rs2 left.imm v')
          (subst (λ x. (has l.body (plus_offset x left.imm) ≡ false) ⊎ (has l.body (next_pc x) ≡ false)) (sym here) left.out) inside h next
      by false (Some j) e q i v = cell_step count n f g m j i at tn lt v (kind_is false (Some j) e q) q h next
      by false None e q i v = other_step count n f g m i at tn lt v (kind_is false None e q) q h next

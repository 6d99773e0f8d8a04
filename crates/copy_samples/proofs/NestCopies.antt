-- The nest with two cells and its copies, by computation.
use Rattle.std.proofs.Common.{ℤ, pos, ◌≡◌, ◌≢◌, ℕ, zero, suc, ◌+◌, ◌%◌, ◌^◌, ◌<◌, ◌≤◌, refl, sym, subst, ap, ◌∙◌, arith, negsuc, Option, Some, None, Result, Ok, Err, Bool, true, false, ◌&&◌, List, [], ◌∷◌, ◌++◌, length, get_or, ◌⊎◌, inl, inr, if◌then◌else◌, ◌==◌, nat_lt}
use Rattle.std.specs.Prelude.{slice_get, slice_index}
use Rattle.std.specs.List.Sorted.{IsStrictlyIncreasing}
use Rattle.std.proofs.lemmas.Bool.{cases_lt}
use Rattle.std.proofs.lemmas.Bool.Decides.{nat_tests}
use Rattle.rv64_decode.specs.Area.{Area, fetch_of, number_at, bytes_of}
use Rattle.loop_data.specs.Locations.{cell_at, moves_cell, width_of, address as cell_address}
use Rattle.rv64_decode.specs.Fetched.{instr_in, instr_at}
use Rattle.rv64_decode.specs.Hart.{run as run_hart}
use Rattle.rv64_decode.specs.declared.memory.MemFault.{MemFault}
use Rattle.rv64_decode.specs.declared.memory.MemFault.TheVariants.{Unmapped}
use Rattle.rv64_decode.specs.declared.instr.Instr.{Instr}
use Rattle.rv64_decode.specs.declared.instr.BranchOp.TheVariants.{Bne}
use Rattle.rv64_decode.specs.declared.outcome.Next.{Next}
use Rattle.rv64_decode.specs.declared.outcome.Next.TheVariants.{At, Call, Fault as Faulting}
use Rattle.rv64_decode.specs.XTable.{decoded_x}
use Rattle.loop_data.specs.declared.verdict.Cell.{Cell}
use Rattle.loop_data.specs.Independent.{Keeps, Moves, Private}
use Rattle.loop_data.specs.LoopWords.{next_words, IsPlainInstr}
use Rattle.loop_data.specs.Nests.{has, Holds}
use Rattle.loop_data.specs.Runs.{run, step, instr_of, pc_in, goes_at}
use Rattle.loop_data.specs.Turns.{turn, IsArrival}
use Rattle.loop_data.proofs.Tests.{eq_of, and_true}
use Rattle.stub_laws.specs.Code.{readings, somes}
use Rattle.loop_samples.specs.NestLoop.{outer, two_cells, counter, number, nest_roles, nest_words}
use Rattle.loop_samples.specs.Samples.{word_bytes, number_bytes}
use Rattle.loop_samples.proofs.Visits.{Visit, visit, all_visits, passes_test, turns_from}
use Rattle.turn_copies.specs.Copies.{Copies, in_order, body_code}
use Rattle.turn_copies.specs.Bodies.{HasShortValue, IsBodyWord, IsBody, IsOrdered, IsDivided}
use Rattle.turn_copies.specs.Passages.{in_slot, no_slot, Begins, Passed, PassageLaw}
use Rattle.turn_copies.specs.Listing.{PlacedLaw, BodyLaw}
use Rattle.turn_copies.specs.Regions.{CanMove, HasEntry, Joined, RegionLaw}
use Rattle.turn_copies.specs.Stubs.{divided_code, AreInPlace, PlacesLaw}
use Rattle.check_numbers.specs.Sums.{IsShort}
use Rattle.stub_laws.specs.Locations.{held}
use Rattle.rv64_decode.specs.Registers.{register}
use Rattle.std.proofs.lemmas.Int.{ints}
use Rattle.turn_copies.proofs.Agreeing.{agree_refl}
use Rattle.copy_samples.proofs.Independent.{arrival, independent}
use Rattle.copy_samples.specs.NestCopies.{begun, nest_code, divided_words, forked_hart, copied_words, first_hart}

-- ---- properties of the words of a list

abbrev Each : (ℕ → Type 0) → List ℕ → Type 0
Each P [] = Unit {0}
Each P (x ∷ xs) = P x × Each P xs

each_of : (P : ℕ → Type 0) (xs : List ℕ) (u : ℕ) → Each P xs → has xs u ≡ true → P u
each_of P [] u h e = absurd (cc)
each_of P (x ∷ xs) u h e = go (x == u) refl (sym (ap (λ b. if b then true else has xs u) refl) ∙ e) (λ k. each_of P xs u h.1 k)
  where
    go : (b : Bool) → (x == u) ≡ b → (if x == u then true else has xs u) ≡ true → (has xs u ≡ true → P u) → P u
    go true q k later = subst P (eq_of x u q) h.0
    go false q k later = later (sym (ap (λ b. if b then true else has xs u) q) ∙ k)

abbrev all_below : ℕ → List ℕ → Bool
all_below bound [] = true
all_below bound (x ∷ xs) = nat_lt x bound && all_below bound xs

below_of : (bound : ℕ) (xs : List ℕ) → 0 < bound → all_below bound xs ≡ true → (i : ℕ) → get_or xs i 0 < bound
below_of bound [] z e i = z
below_of bound (x ∷ xs) z e zero = let h = and_true (nat_lt x bound) (all_below bound xs) e in let a = h.0 in grind (arith, nat_tests)
below_of bound (x ∷ xs) z e (suc i) = below_of bound xs z (and_true (nat_lt x bound) (all_below bound xs) e).1 i

-- ---- the words

is_word : (u : ℕ) (i : Instr) → nest_code.instr u ≡ Some i → IsPlainInstr i → HasShortValue u i → IsBodyWord nest_code u
is_word u i e p s = record { does = i; is = e; plain = p; short = s }

body_words : Each (IsBodyWord nest_code) outer.body
body_words = (is_word 0x1_0000 _ refl tt tt, (is_word 0x1_0004 _ refl tt tt, (is_word 0x1_0008 _ refl tt tt, (is_word 0x1_000C _ refl tt tt, (is_word 0x1_0010 _ refl tt tt, (is_word 0x1_0014 _ refl tt tt, (is_word 0x1_0018 _ refl tt tt, (is_word 0x1_001C _ refl tt tt, (is_word 0x1_0020 _ refl tt tt, tt)))))))))

-- the word at u moves the cell of this number
abbrev CellAt : ℕ → ℕ → Type 0
CellAt u k = (c : Cell) × (cell_at two_cells.cells k ≡ Some c) × (moves_cell (nest_code.instr u) c.wide ≡ true)

abbrev CellWord : ℕ → Type 0
CellWord u = (k : ℕ) → two_cells.uses u ≡ Some k → CellAt u k

some_same : (a b : ℕ) → Some a ≡ Some b → a ≡ b
some_same a b e = cc

cell_same : (a b : Cell) → Some a ≡ Some b → a ≡ b
cell_same a b e = cc

cell_word : (u q k : ℕ) (d : Cell) → Some q ≡ Some k → CellAt u q → CellAt u k
cell_word u q k d e h = subst (CellAt u) (some_same q k e) h

cell_words : Each CellWord outer.body
cell_words = ((λ k e. cell_word 0x1_0000 0 k counter e (counter, refl, refl)), ((λ k e. cell_word 0x1_0004 1 k number e (number, refl, refl)), ((λ k e. absurd (cc)), ((λ k e. cell_word 0x1_000C 0 k counter e (counter, refl, refl)), ((λ k e. absurd (cc)), ((λ k e. absurd (cc)), ((λ k e. absurd (cc)), ((λ k e. absurd (cc)), ((λ k e. absurd (cc)), tt)))))))))

no_cell : (k : ℕ) → 16 ≤ k → cell_at two_cells.cells k ≡ None
no_cell zero h = absurd (omega arith)
no_cell (suc zero) h = absurd (omega arith)
no_cell (suc (suc k)) h = refl

few_uses : (u k : ℕ) → two_cells.uses u ≡ Some k → k < 16
few_uses u k e = go (u == 0x1_0000) (u == 0x1_0004) (u == 0x1_000C) e
  where
    go : (a b c : Bool) → (if a then Some 0 else if b then Some 1 else if c then Some 0 else None) ≡ Some k → k < 16
    go true b c e = let q = some_same 0 k e in omega arith
    go false true c e = let q = some_same 1 k e in omega arith
    go false false true e = let q = some_same 0 k e in omega arith
    go false false false e = absurd (cc)

pub is_body : IsBody outer nest_code
is_body =
    record {
      header = refl;
      words = λ u h. each_of (IsBodyWord nest_code) outer.body u body_words h;
      left = record { op = Bne; rs1 = 5; rs2 = 9; imm = negsuc 31; is = refl; out = inr refl };
      cells = record { uses = λ u k h e. each_of CellWord outer.body u cell_words h k e };
      few = record { cells = no_cell; uses = few_uses };
    }

-- ---- their order

abbrev Sits : ℕ → Type 0
Sits u = (u < 2 ^ 63) × (u % 4 ≡ 0)

sits : Each Sits outer.body
sits = ((omega arith, refl), ((omega arith, refl), ((omega arith, refl), ((omega arith, refl), ((omega arith, refl), ((omega arith, refl), ((omega arith, refl), ((omega arith, refl), ((omega arith, refl), tt)))))))))

abbrev all_in : List ℕ → Bool
all_in [] = true
all_in (x ∷ xs) = has outer.body x && all_in xs

abbrev leads_inside : Option Instr → ℕ → Bool
leads_inside None u = true
leads_inside (Some i) u = all_in (next_words i u)

all_inside : (xs : List ℕ) (v : ℕ) → all_in xs ≡ true → has xs v ≡ true → has outer.body v ≡ true
all_inside [] v e h = absurd (cc)
all_inside (x ∷ xs) v e h =
    let a = and_true (has outer.body x) (all_in xs) e in
    go (x == v) refl h a.0 (λ k. all_inside xs v a.1 k)
  where
    go : (b : Bool) → (x == v) ≡ b → (if x == v then true else has xs v) ≡ true → has outer.body x ≡ true → (has xs v ≡ true → has outer.body v ≡ true) → has outer.body v ≡ true
    go true q k here later = subst (λ y. has outer.body y ≡ true) (eq_of x v q) here
    go false q k here later = later (sym (ap (λ b. if b then true else has xs v) q) ∙ k)

abbrev Stays : ℕ → Type 0
Stays u = u ≢ outer.exit → leads_inside (nest_code.instr u) u ≡ true

stays : Each Stays outer.body
stays = ((λ n. refl), ((λ n. refl), ((λ n. refl), ((λ n. refl), ((λ n. refl), ((λ n. refl), ((λ n. refl), ((λ n. refl), ((λ n. absurd (n refl)), tt)))))))))

inside : (u v : ℕ) (i : Instr) → Holds outer u → u ≢ outer.exit → nest_code.instr u ≡ Some i → has (next_words i u) v ≡ true → Holds outer v
inside u v i h ne e k = all_inside (next_words i u) v (sym (ap (λ o. leads_inside o u) e) ∙ each_of Stays outer.body u stays h ne) k

rising : IsStrictlyIncreasing outer.body
rising zero h = omega arith
rising (suc zero) h = omega arith
rising (suc (suc zero)) h = omega arith
rising (suc (suc (suc zero))) h = omega arith
rising (suc (suc (suc (suc zero)))) h = omega arith
rising (suc (suc (suc (suc (suc zero))))) h = omega arith
rising (suc (suc (suc (suc (suc (suc zero)))))) h = omega arith
rising (suc (suc (suc (suc (suc (suc (suc zero))))))) h = omega arith
rising (suc (suc (suc (suc (suc (suc (suc (suc k)))))))) h = absurd (omega arith)

pub is_ordered : IsOrdered outer nest_code
is_ordered =
    record {
      ordered = rising;
      low = λ u h. (each_of Sits outer.body u sits h).0;
      aligned = λ u h. (each_of Sits outer.body u sits h).1;
      inside = inside;
    }

-- ---- its turns

abbrev fetch_by : Next → List Area → Result ℕ MemFault
fetch_by (At pc) m = fetch_of m pc
fetch_by Call m = Err Unmapped
fetch_by (Faulting kind addr) m = Err Unmapped

abbrev same_answer : Result ℕ MemFault → Result ℕ MemFault → Bool
same_answer (Ok a) (Ok b) = a == b
same_answer (Ok a) (Err g) = false
same_answer (Err f) b = false

answer_is : (a b : Result ℕ MemFault) → same_answer a b ≡ true → a ≡ b
answer_is (Ok a) (Ok b) e = ap Ok (eq_of a b e)
answer_is (Ok a) (Err g) e = absurd (cc)
answer_is (Err f) b e = absurd (cc)

-- the word is the one that stood there at first, and visit 39 is the first of turn 3
abbrev word_test : ℕ → Visit → Bool
word_test n v = same_answer (fetch_by v.state.next v.state.memory) (fetch_by v.state.next begun.memory) && (if n == 39 then v.turn == 3 else true)

all_words : all_visits word_test outer 39 0 (visit outer begun 0) ≡ true
unfolding step
all_words = refl

tested : (n : ℕ) → n ≤ 39 → (same_answer (fetch_by (run begun n).next (run begun n).memory) (fetch_by (run begun n).next begun.memory) ≡ true) × ((if n == 39 then turn outer begun n == 3 else true) ≡ true)
tested n h = and_true _ _ (passes_test word_test outer begun 39 n all_words h)

early : (n : ℕ) → turn outer begun n < 3 → n ≤ 39
early n h = go (cases_lt 39 n)
  where
    go : (39 < n) ⊎ (n ≤ 39) → n ≤ 39
    go (inr a) = a
    go (inl a) =
        let three = eq_of (turn outer begun 39) 3 (tested 39 (omega arith)).1 in
        let up = turns_from outer begun 39 n (omega arith) in
        absurd (omega arith)

word_by : (x : Next) (m n : List Area) → same_answer (fetch_by x m) (fetch_by x n) ≡ true → instr_of x m ≡ instr_at n (pc_in x)
word_by (At pc) m n e = ap instr_in (answer_is (fetch_of m pc) (fetch_of n pc) e)
word_by Call m n e = absurd (cc)
word_by (Faulting kind addr) m n e = absurd (cc)

pub is_divided : IsDivided outer nest_code nest_roles begun 3
is_divided =
    record {
      independent = independent;
      start = refl;
      registers = record { count = refl; zero = refl; below = below_of (2 ^ 64) begun.regs (omega arith) refl };
      bytes = (below_of 256 (word_bytes (nest_words ++ 0x0000_0013 ∷ [])) (omega arith) refl, (below_of 256 (number_bytes (100 ∷ 0xFFFF_FFFB ∷ [])) (omega arith) refl, tt));
      whole = (refl, refl, (refl, refl, tt));
      first = λ u h. refl;
      words = λ n lt. word_by (run begun n).next (run begun n).memory begun.memory (tested n (early n lt)).0;
    }

-- ---- the copies

reads_so : readings copied_words ≡ somes (body_code outer nest_code 0)
unfolding readings somes decoded_x
reads_so = refl

words_here : (xs : List ℕ) (j : ℕ) → j < length xs → slice_get xs (0 + j) ≡ Some (slice_index xs j)
words_here xs j h = let e : 0 + j ≡ j = omega arith in ap (slice_get xs) e ∙ here xs j h
  where
    here : (xs : List ℕ) (j : ℕ) → j < length xs → slice_get xs j ≡ Some (get_or xs j 0)
    here [] j h = absurd (omega arith)
    here (x ∷ xs) zero h = refl
    here (x ∷ xs) (suc j) h = here xs j (omega arith)

pub is_copied : PlacedLaw → BodyLaw → IsBody outer nest_code → IsOrdered outer nest_code → Copies copied_words outer nest_code (in_order outer nest_code 0)
is_copied placed bodies body order =
    bodies copied_words outer nest_code 0 body order (omega arith) (placed copied_words copied_words 0 (body_code outer nest_code 0) reads_so (words_here copied_words))

-- ---- a passage

open_registers : (r : ℕ) → r < 32 → nest_roles r ≢ Private → get_or first_hart.regs r 0 ≡ get_or begun.regs r 0
open_registers (suc (suc (suc (suc (suc (suc zero)))))) h ne = absurd (ne refl)
open_registers (suc (suc (suc (suc (suc (suc (suc zero))))))) h ne = absurd (ne refl)
open_registers (suc (suc (suc (suc (suc (suc (suc (suc (suc (suc zero)))))))))) h ne = absurd (ne refl)
open_registers zero h ne = refl
open_registers (suc zero) h ne = refl
open_registers (suc (suc zero)) h ne = refl
open_registers (suc (suc (suc zero))) h ne = refl
open_registers (suc (suc (suc (suc zero)))) h ne = refl
open_registers (suc (suc (suc (suc (suc zero))))) h ne = refl
open_registers (suc (suc (suc (suc (suc (suc (suc (suc zero)))))))) h ne = refl
open_registers (suc (suc (suc (suc (suc (suc (suc (suc (suc zero))))))))) h ne = refl
open_registers (suc (suc (suc (suc (suc (suc (suc (suc (suc (suc (suc k))))))))))) h ne = refl

twice : (b : Bool) (x y : ℕ) → x ≡ y → (if b then 0 else x) ≡ (if b then 0 else y)
twice true x y e = refl
twice false x y e = e

pub begins : Begins outer nest_code nest_roles begun 0 0 0 first_hart
begins =
    record {
      at = record {
        at = refl;
        registers = record { count = refl; zero = refl; below = below_of (2 ^ 64) first_hart.regs (omega arith) refl };
        slots = record { count = refl; below = below_of (2 ^ 64) first_hart.slots (omega arith) refl };
      };
      holds = record { registers = λ r h ne. twice (r == 0) (get_or first_hart.regs r 0) (get_or begun.regs r 0) (open_registers r h ne); cells = slots };
      memory = agree_refl _ begun.memory;
    }
  where
    slots : (k : ℕ) (c : Cell) → cell_at two_cells.cells k ≡ Some c → nest_roles (32 + k) ≢ Private
        → in_slot c.wide (get_or first_hart.slots k 0) ≡ number_at (bytes_of (width_of c)) begun.memory (cell_address begun.regs c)
    slots zero c e ne = subst (λ (x : Cell). in_slot x.wide (get_or first_hart.slots 0 0) ≡ number_at (bytes_of (width_of x)) begun.memory (cell_address begun.regs x)) (cell_same counter c e) refl
    slots (suc zero) c e ne = subst (λ (x : Cell). in_slot x.wide (get_or first_hart.slots 1 0) ≡ number_at (bytes_of (width_of x)) begun.memory (cell_address begun.regs x)) (cell_same number c e) refl
    slots (suc (suc k)) c e ne = absurd (cc)

abbrev arrive_test : ℕ → Visit → Bool
arrive_test n v = if n == 13 then (goes_at (λ pc. pc == 0x1_0000) v.state.next && (v.turn == 1)) else true

all_arrive : all_visits arrive_test outer 13 0 (visit outer begun 0) ≡ true
unfolding step
all_arrive = refl

goes_is : (x : Next) (a : ℕ) → goes_at (λ pc. pc == a) x ≡ true → x ≡ At a
goes_is (At pc) a e = ap At (eq_of pc a e)
goes_is Call a e = absurd (cc)
goes_is (Faulting kind addr) a e = absurd (cc)

second : IsArrival outer begun 1 13
second = let h = and_true _ _ (passes_test arrive_test outer begun 13 13 all_arrive (omega arith)) in record { at = goes_is _ _ h.0; turn = eq_of _ _ h.1 }

pub passes : PassageLaw → IsBody outer nest_code → IsDivided outer nest_code nest_roles begun 3 → Copies copied_words outer nest_code (in_order outer nest_code 0)
    → (n : ℕ) × Passed two_cells begun 0 13 no_slot first_hart 10 (run_hart copied_words n first_hart)
passes law body divided copies =
    law copied_words outer nest_code nest_roles begun 3 0 0 13 (in_order outer nest_code 0) first_hart body divided (omega arith) copies (omega arith) (record { at = refl; turn = refl }) second begins

-- ---- a hart of two, from the fork to the join

divided_so : readings divided_words ≡ somes (divided_code outer nest_code nest_roles 0)
unfolding readings somes decoded_x
divided_so = refl

pub is_divided_code : PlacedLaw → PlacesLaw → IsBody outer nest_code → IsOrdered outer nest_code → AreInPlace divided_words outer nest_code nest_roles 0
is_divided_code placed places body order =
    places divided_words outer nest_code nest_roles 0 body order (omega arith) (placed divided_words divided_words 0 (divided_code outer nest_code nest_roles 0) divided_so (words_here divided_words))

moved_at : (r : ℕ) (step : ℤ) → nest_roles r ≡ Moves step → (r ≢ 0) × (r < 48) × IsShort step
moved_at r step e = go (r == 5) (r == 32) (r == 6) (r == 7) (r == 10) refl refl e
  where
    short : (z : ℤ) → pos 1 ≡ z → IsShort z
    short z q = subst IsShort q (omega (arith, ints), omega (arith, ints))

    moves_same : (y z : ℤ) → Moves y ≡ Moves z → y ≡ z
    moves_same y z q = cc

    go : (a b c d f : Bool) → (r == 5) ≡ a → (r == 32) ≡ b → (if a then Moves (pos 1) else if b then Moves (pos 1) else if c then Private else if d then Private else if f then Private else Keeps) ≡ Moves step → (r ≢ 0) × (r < 48) × IsShort step
    go true b c d f p q h = let x = eq_of r 5 p in ((λ z. absurd (omega arith)), omega arith, short step (moves_same (pos 1) step h))
    go false true c d f p q h = let x = eq_of r 32 q in ((λ z. absurd (omega arith)), omega arith, short step (moves_same (pos 1) step h))
    go false false true d f p q h = absurd (cc)
    go false false false true f p q h = absurd (cc)
    go false false false false true p q h = absurd (cc)
    go false false false false false p q h = absurd (cc)

pub can_move : CanMove nest_roles
can_move = record { each = moved_at }

abbrev all_under : (ℕ → Bool) → ℕ → Bool
all_under p zero = true
all_under p (suc n) = p n && all_under p n

under_of : (p : ℕ → Bool) (n r : ℕ) → all_under p n ≡ true → r < n → p r ≡ true
under_of p zero r e h = absurd (omega arith)
under_of p (suc n) r e h = go (cases_lt r n) (λ k. under_of p n r (and_true (p n) (all_under p n) e).1 k)
  where
    go : (r < n) ⊎ (n ≤ r) → (r < n → p r ≡ true) → p r ≡ true
    go (inl k) later = later k
    go (inr k) later = let same : n ≡ r = omega arith in subst (λ x. p x ≡ true) same (and_true (p n) (all_under p n) e).0

pub entry : HasEntry two_cells begun (λ r. nest_roles r ≢ Private) forked_hart
entry = record { registers = λ r h ne. eq_of _ _ (under_of (λ x. held forked_hart x == register begun.regs x) 32 r refl h); cells = slots }
  where
    slots : (k : ℕ) (c : Cell) → cell_at two_cells.cells k ≡ Some c → nest_roles (32 + k) ≢ Private → in_slot c.wide (get_or forked_hart.slots k 0) ≡ number_at (bytes_of (width_of c)) begun.memory (cell_address begun.regs c)
    slots zero c e ne = subst (λ (x : Cell). in_slot x.wide (get_or forked_hart.slots 0 0) ≡ number_at (bytes_of (width_of x)) begun.memory (cell_address begun.regs x)) (cell_same counter c e) refl
    slots (suc zero) c e ne = subst (λ (x : Cell). in_slot x.wide (get_or forked_hart.slots 1 0) ≡ number_at (bytes_of (width_of x)) begun.memory (cell_address begun.regs x)) (cell_same number c e) refl
    slots (suc (suc k)) c e ne = absurd (cc)

pub joins : RegionLaw → IsBody outer nest_code → IsDivided outer nest_code nest_roles begun 3 → AreInPlace divided_words outer nest_code nest_roles 0
    → (n : ℕ) × Joined two_cells begun 13 39 1 3 forked_hart 55 (run_hart divided_words n forked_hart)
joins law body divided places =
    law divided_words outer nest_code nest_roles begun 3 13 39 1 (in_order outer nest_code 37) forked_hart body divided can_move (omega arith) places.region (omega arith) (omega arith) (omega arith) (omega arith) (arrival 1 (omega arith)) (arrival 3 (omega arith))
    (record {
      at = refl;
      registers = record { count = refl; zero = refl; below = below_of (2 ^ 64) forked_hart.regs (omega arith) refl };
      slots = record { count = refl; below = below_of (2 ^ 64) forked_hart.slots (omega arith) refl };
    }) entry refl refl

-- The nest with two cells and its whole added code, by computation.
use Rattle.std.proofs.Common.{◌≡◌, ◌≢◌, ℕ, zero, suc, ◌+◌, ◌-◌, ◌^◌, ◌<◌, ◌≤◌, refl, sym, subst, ap, ◌∙◌, arith, ℤ, pos, negsuc, Option, Some, None, Result, Ok, Err, Bool, true, false, ◌&&◌, List, [], ◌∷◌, ◌++◌, length, get_or, ◌⊎◌, inl, inr, if◌then◌else◌, ◌==◌, nat_lt}
use Rattle.std.specs.List.{All}
use Rattle.std.specs.Ordering.{int_eq}
use Rattle.std.proofs.lemmas.Bool.{cases_lt}
use Rattle.std.proofs.lemmas.Bool.Decides.{nat_tests, Decides-int_eq}
use Rattle.std.proofs.lemmas.Int.{ints}
use Rattle.std.proofs.lemmas.List.{append-nil, get_or_default}
use Rattle.rv64_decode.specs.Aim.{Aimed, distance}
use Rattle.rv64_decode.specs.Area.{Area, fetch_of, why, writable_of}
use Rattle.rv64_decode.specs.Fetched.{instr_in, instr_at}
use Rattle.rv64_decode.specs.Fields.{opcode, rd_of, imm_j}
use Rattle.rv64_decode.specs.XTable.{decoded_x}
use Rattle.rv64_decode.specs.declared.memory.MemFault.{MemFault}
use Rattle.rv64_decode.specs.declared.memory.MemFault.TheVariants.{Unmapped}
use Rattle.rv64_decode.specs.declared.outcome.Next.{Next}
use Rattle.rv64_decode.specs.declared.outcome.Next.TheVariants.{At, Call, Fault as Faulting}
use Rattle.linear_forms.specs.Forms.{EntryTerm, IsForm, is_zero, pure}
use Rattle.loop_data.specs.declared.accesses.Access.{Access}
use Rattle.loop_data.specs.declared.equations.Duty.{Duty}
use Rattle.loop_data.specs.declared.trips.Trip.{Trip}
use Rattle.loop_data.specs.declared.verdict.Cell.{Cell}
use Rattle.loop_data.specs.Independent.{Keeps}
use Rattle.loop_data.specs.Locations.{cell_at, width_of, address as cell_address}
use Rattle.loop_data.specs.Runs.{run, step, instr_of, pc_in}
use Rattle.loop_data.specs.Turns.{turn}
use Rattle.loop_data.proofs.Tests.{eq_of, and_true}
use Rattle.loop_samples.specs.Checked.{told, from, until_zero, once, less}
use Rattle.loop_samples.specs.NestLoop.{outer, two_cells, counter, number, nest_roles, nest_words}
use Rattle.loop_samples.specs.Samples.{word_bytes, number_bytes}
use Rattle.loop_samples.proofs.Visits.{Visit, visit, all_visits, passes_test, turns_from}
use Rattle.alias_checks.specs.declared.lists.Turns.{Turns}
use Rattle.alias_checks.specs.Answers.{answer}
use Rattle.alias_checks.specs.Listing.{IsPair}
use Rattle.stub_laws.specs.Code.{readings, somes}
use Rattle.check_code.specs.CheckCode.{check_code}
use Rattle.check_code.specs.CheckLaws.{TellsCheck, IsArrival as IsAsked}
use Rattle.check_code.specs.Checkable.{IsLowArea, HasRoom, IsTripOver, IsDutyOver, IsAccessOver, IsCheckable, KeepsLimits}
use Rattle.check_code.specs.Laws.{HasOffset}
use Rattle.check_code.proofs.Answered.{tells_check}
use Rattle.turn_copies.specs.Bodies.{IsBody, IsOrdered, IsDivided}
use Rattle.turn_copies.specs.Edges.{CanWriteBack}
use Rattle.turn_copies.specs.Regions.{CanMove}
use Rattle.turn_copies.specs.StubCode.{save_code}
use Rattle.turn_copies.specs.Stubs.{divided_code}
use Rattle.turn_copies.specs.StubWords.{IsStub, HasStub, StubLaw}
use Rattle.copy_samples.specs.NestCopies.{nest_code, divided_words}
use Rattle.divided_loops.specs.Alone.{MeetsNoFault}
use Rattle.divided_loops.specs.Added.{IsAdded, IsAskedOf, Enters, DoesTurns, AddedLaw}
use Rattle.stub_samples.specs.NestStub.{rounds, round_check, save_words, check_words, aimed_words, stub_words, entering}
use Rattle.stub_samples.proofs.Rounds.{independent}

abbrev all_below : ℕ → List ℕ → Bool
all_below bound [] = true
all_below bound (x ∷ xs) = nat_lt x bound && all_below bound xs

below_of : (bound : ℕ) (xs : List ℕ) → 0 < bound → all_below bound xs ≡ true → (i : ℕ) → get_or xs i 0 < bound
below_of bound [] z e i = z
below_of bound (x ∷ xs) z e zero = let h = and_true (nat_lt x bound) (all_below bound xs) e in let a = h.0 in grind (arith, nat_tests)
below_of bound (x ∷ xs) z e (suc i) = below_of bound xs z (and_true (nat_lt x bound) (all_below bound xs) e).1 i

all_words_below : (xs : List ℕ) → all_below (2 ^ 32) xs ≡ true → All (λ (w : ℕ). w < 2 ^ 32) xs
all_words_below xs e k d l = subst (λ x. x < 2 ^ 32) (get_or_default xs k 0 d l) (below_of (2 ^ 32) xs (omega arith) e k)

all_none : {X : Type 0} (P : X → Type 0) → All P []
all_none P k d l = absurd (omega arith)

all_two : {X : Type 0} (P : X → Type 0) (a b : X) → P a → P b → All P (a ∷ b ∷ [])
all_two P a b p q zero d l = p
all_two P a b p q (suc zero) d l = q
all_two P a b p q (suc (suc k)) d l = absurd (omega arith)

all_one : {X : Type 0} (P : X → Type 0) (a : X) → P a → All P (a ∷ [])
all_one P a p zero d l = p
all_one P a p (suc k) d l = absurd (omega arith)

cell_same : (a b : Cell) → Some a ≡ Some b → a ≡ b
cell_same a b e = cc

-- ---- its turns

abbrev fetch_by : Next → List Area → Result ℕ MemFault
fetch_by (At pc) m = fetch_of m pc
fetch_by Call m = Err Unmapped
fetch_by (Faulting kind addr) m = Err Unmapped

abbrev same_answer : Result ℕ MemFault → Result ℕ MemFault → Bool
same_answer (Ok a) (Ok b) = a == b
same_answer (Ok a) (Err g) = false
same_answer (Err f) b = false

answer_is : (a b : Result ℕ MemFault) → same_answer a b ≡ true → a ≡ b
answer_is (Ok a) (Ok b) e = ap Ok (eq_of a b e)
answer_is (Ok a) (Err g) e = absurd (cc)
answer_is (Err f) b e = absurd (cc)

-- the word is the one that stood there at first, and visit 247 is the first of turn 3
abbrev word_test : ℕ → Visit → Bool
word_test n v = same_answer (fetch_by v.state.next v.state.memory) (fetch_by v.state.next rounds.memory) && (if n == 247 then v.turn == 19 else true)

all_words : all_visits word_test outer 247 0 (visit outer rounds 0) ≡ true
unfolding step
all_words = refl

tested : (n : ℕ) → n ≤ 247 → (same_answer (fetch_by (run rounds n).next (run rounds n).memory) (fetch_by (run rounds n).next rounds.memory) ≡ true) × ((if n == 247 then turn outer rounds n == 19 else true) ≡ true)
tested n h = and_true _ _ (passes_test word_test outer rounds 247 n all_words h)

early : (n : ℕ) → turn outer rounds n < 19 → n ≤ 247
early n h = go (cases_lt 247 n)
  where
    go : (247 < n) ⊎ (n ≤ 247) → n ≤ 247
    go (inr a) = a
    go (inl a) =
        let three = eq_of (turn outer rounds 247) 19 (tested 247 (omega arith)).1 in
        let up = turns_from outer rounds 247 n (omega arith) in
        absurd (omega arith)

word_by : (x : Next) (m n : List Area) → same_answer (fetch_by x m) (fetch_by x n) ≡ true → instr_of x m ≡ instr_at n (pc_in x)
word_by (At pc) m n e = ap instr_in (answer_is (fetch_of m pc) (fetch_of n pc) e)
word_by Call m n e = absurd (cc)
word_by (Faulting kind addr) m n e = absurd (cc)

pub is_divided : IsDivided outer nest_code nest_roles rounds 19
is_divided =
    record {
      independent = independent;
      start = refl;
      registers = record { count = refl; zero = refl; below = below_of (2 ^ 64) rounds.regs (omega arith) refl };
      bytes = (below_of 256 (word_bytes (nest_words ++ 0x0000_0013 ∷ [])) (omega arith) refl, (below_of 256 (number_bytes (100 ∷ 0xFFFF_FFFB ∷ [])) (omega arith) refl, tt));
      whole = (refl, refl, (refl, refl, tt));
      first = λ u h. refl;
      words = λ n lt. word_by (run rounds n).next (run rounds n).memory rounds.memory (tested n (early n lt)).0;
    }

-- ---- the words

-- the second word is the first, or where the first is an open jump at place k, the jump to the place `to`
abbrev is_aimed : ℕ → ℕ → ℕ → ℕ → Bool
is_aimed to k old new =
    if old == 0x6F then (opcode new == 0x6F) && ((rd_of new == 0) && int_eq (imm_j new) (distance to k)) else new == old

abbrev are_aimed : ℕ → ℕ → List ℕ → List ℕ → Bool
are_aimed to k [] ys = true
are_aimed to k (x ∷ xs) [] = false
are_aimed to k (x ∷ xs) (y ∷ ys) = is_aimed to k x y && are_aimed to (suc k) xs ys

int_same : (x y : ℤ) → int_eq x y ≡ true → x ≡ y
int_same x y e = (Decides-int_eq x y).0 e

aimed_by : (to k old new : ℕ) → is_aimed to k old new ≡ true → Aimed to k old new
aimed_by to k old new e = go (old == 0x6F) refl e
  where
    go : (b : Bool) → (old == 0x6F) ≡ b → (if b then (opcode new == 0x6F) && ((rd_of new == 0) && int_eq (imm_j new) (distance to k)) else new == old) ≡ true → Aimed to k old new
    go true q h =
        let a = and_true (opcode new == 0x6F) ((rd_of new == 0) && int_eq (imm_j new) (distance to k)) h in
        let b = and_true (rd_of new == 0) (int_eq (imm_j new) (distance to k)) a.1 in
        record {
          jumps = λ z. (eq_of (opcode new) 0x6F a.0, eq_of (rd_of new) 0 b.0, int_same (imm_j new) (distance to k) b.1);
          stays = λ z. absurd (z (eq_of old 0x6F q));
        }
    go false q h = record { jumps = λ z. (let r : (old == 0x6F) ≡ true = rw z refl in absurd (cc)); stays = λ z. eq_of new old h }

aims_of : (to k : ℕ) (xs ys : List ℕ) (j : ℕ) → are_aimed to k xs ys ≡ true → j < length xs → Aimed to (k + j) (get_or xs j 0) (get_or ys j 0)
aims_of to k [] ys j e l = absurd (omega arith)
aims_of to k (x ∷ xs) [] j e l = absurd (cc)
aims_of to k (x ∷ xs) (y ∷ ys) zero e l =
    let n : k + 0 ≡ k = omega arith in
    subst (λ m. Aimed to m x y) (sym n) (aimed_by to k x y (and_true (is_aimed to k x y) (are_aimed to (suc k) xs ys) e).0)
aims_of to k (x ∷ xs) (y ∷ ys) (suc j) e l =
    let n : k + suc j ≡ suc k + j = omega arith in
    subst (λ m. Aimed to m (get_or xs j 0) (get_or ys j 0)) (sym n) (aims_of to (suc k) xs ys j (and_true (is_aimed to k x y) (are_aimed to (suc k) xs ys) e).1 (omega arith))

all_aimed : are_aimed 153 0 check_words aimed_words ≡ true
all_aimed = refl

saves_so : readings save_words ≡ somes save_code
unfolding readings somes decoded_x
saves_so = refl

divides_so : readings divided_words ≡ somes (divided_code outer nest_code nest_roles 99)
unfolding readings somes decoded_x
divides_so = refl

checks_so : readings check_words ≡ somes (check_code round_check)
unfolding readings somes decoded_x
checks_so = refl

is_stub : IsStub outer nest_code nest_roles 0 check_words stub_words
is_stub =
    record {
      saved = save_words;
      aimed = aimed_words;
      divided = divided_words;
      are = refl;
      saves = saves_so;
      small = all_words_below check_words refl;
      many = refl;
      aims = λ k l. subst (λ n. Aimed 153 n (get_or check_words k 0) (get_or aimed_words k 0)) (zero_more k) (aims_of 153 0 check_words aimed_words k all_aimed l);
      divides = divides_so;
    }
  where
    zero_more : (k : ℕ) → 0 + k ≡ k
    zero_more k = omega arith

pub has_stub : StubLaw → HasStub stub_words outer nest_code nest_roles 0 check_words
has_stub stands = stands [] stub_words [] stub_words outer nest_code nest_roles check_words (sym (append-nil stub_words)) is_stub

-- ---- the check

abbrev outer_trip : Trip
outer_trip = until_zero (from 1 (once 5 ∷ less 9 ∷ []) 1 0) 1

abbrev inner_trip : Trip
inner_trip = until_zero (from 1 (less 8 ∷ []) 0 1) 1

abbrev Within : EntryTerm → Type 0
Within t = t.loc < 32 + 2

some_term : (z : ℤ) → is_zero z ≡ false → z ≢ pos 0
some_term z e h = let r : is_zero z ≡ true = ap is_zero h in absurd (cc)

room : HasRoom round_check
room =
    record {
      offsets = all_two (λ (d : Cell). HasOffset d.base d.offset) counter number (omega arith, (omega (arith, ints), omega (arith, ints))) (omega arith, (omega (arith, ints), omega (arith, ints)));
      some_trips = omega arith;
      few_trips = omega arith;
      pairs = record { places = refl; each = all_none (IsPair []) };
      few_areas = omega arith;
      few_duties = omega arith;
      low_areas = all_two IsLowArea (0x1_0000, 0x1_0028, 5) (0x2_0000, 0x2_0010, 6) (omega arith, omega arith) (omega arith, omega arith);
    }

pub tells : TellsCheck round_check check_words
tells = tells_check round_check check_words room limits forms checks_so
  where
    still : IsForm (pure (pos 0))
    still = record { terms = record { ordered = tt; limited = refl }; bounded = record { constant = refl; first = refl; second = refl; third = refl } }

    limits : KeepsLimits round_check
    limits =
        record {
          few_cells = omega arith;
          starts = all_two (λ (t : Trip). IsForm t.start) outer_trip inner_trip
              (record {
                terms = record {
                  ordered = (omega arith, omega arith, some_term (pos 1) refl, (omega arith, omega arith, some_term (negsuc 0) refl, tt));
                  limited = refl;
                };
                bounded = record { constant = refl; first = refl; second = refl; third = refl };
              })
              (record {
                terms = record { ordered = (omega arith, omega arith, some_term (negsuc 0) refl, tt); limited = refl };
                bounded = record { constant = refl; first = refl; second = refl; third = refl };
              });
          bounds = all_two (λ (t : Trip). IsForm t.bound) outer_trip inner_trip still still;
          duties = all_none (λ (d : Duty). IsForm d.form);
          accesses = all_none (λ (a : Access). IsForm a.form);
          few_accesses = omega arith;
        }

    forms : IsCheckable round_check
    forms =
        record {
          trips = all_two (IsTripOver 2) outer_trip inner_trip
              (record { depth = 0; gains = refl; toward = refl; differs = λ e. (refl, refl); start = all_two Within (once 5) (less 9) (omega arith) (omega arith); bound = all_none Within })
              (record { depth = 1; gains = refl; toward = refl; differs = λ e. (refl, refl); start = all_one Within (less 8) (omega arith); bound = all_none Within });
          duties = all_none (IsDutyOver 2 2);
          accesses = all_none (IsAccessOver 2 2);
        }

pub is_added : StubLaw → IsBody outer nest_code → IsOrdered outer nest_code → IsAdded stub_words outer nest_code nest_roles round_check 0 check_words
is_added stands body ordered =
    record { body = body; ordered = ordered; tells = tells; stub = has_stub stands; size = omega arith; bits = all_words_below stub_words refl }

-- ---- the state and the hart

asked : IsAsked round_check rounds.regs rounds.memory
asked =
    record {
      registers = is_divided.registers;
      bytes = is_divided.bytes;
      lie = (omega arith, refl, refl, omega arith, (omega arith, refl, refl, omega arith, tt, refl), refl);
      areas = (record { low = refl; end = refl; readable = refl; writable = refl }, (record { low = refl; end = refl; readable = refl; writable = refl }, tt));
    }

no_number : (r : ℕ) → Some r ≡ None → ⊥
no_number r e = cc

written_back : CanWriteBack two_cells nest_roles rounds
written_back = record { base = base; near = near; allowed = allowed }
  where
    is_two : (r : ℕ) → Some 2 ≡ Some r → 2 ≡ r
    is_two r e = cc

    base : (k r : ℕ) (c : Cell) → cell_at two_cells.cells k ≡ Some c → c.stored ≡ true → c.base ≡ Some r → nest_roles r ≡ Keeps
    base zero r c e s b = subst (λ x. nest_roles x ≡ Keeps) (is_two r (ap (λ (z : Cell). z.base) (cell_same counter c e) ∙ b)) refl
    base (suc zero) r c e s b = subst (λ x. nest_roles x ≡ Keeps) (is_two r (ap (λ (z : Cell). z.base) (cell_same number c e) ∙ b)) refl
    base (suc (suc k)) r c e s b = absurd (cc)

    near : (k : ℕ) (c : Cell) → cell_at two_cells.cells k ≡ Some c → c.stored ≡ true → c.base ≡ None → (n : ℕ) × (c.offset ≡ pos n) × (n < 2 ^ 31 - 2 ^ 11)
    near zero c e s b = absurd (no_number 2 (ap (λ (z : Cell). z.base) (cell_same counter c e) ∙ b))
    near (suc zero) c e s b = absurd (no_number 2 (ap (λ (z : Cell). z.base) (cell_same number c e) ∙ b))
    near (suc (suc k)) c e s b = absurd (cc)

    allowed : (k : ℕ) (c : Cell) → cell_at two_cells.cells k ≡ Some c → c.stored ≡ true → why writable_of rounds.memory (cell_address rounds.regs c) (width_of c) ≡ None
    allowed zero c e s = subst (λ (z : Cell). why writable_of rounds.memory (cell_address rounds.regs z) (width_of z) ≡ None) (cell_same counter c e) refl
    allowed (suc zero) c e s = subst (λ (z : Cell). why writable_of rounds.memory (cell_address rounds.regs z) (width_of z) ≡ None) (cell_same number c e) refl
    allowed (suc (suc k)) c e s = absurd (cc)

abbrev root_or : Option Turns → ℕ
root_or None = 0
root_or (Some t) = t.root

turns_same : (o : Option Turns) (t : Turns) → o ≡ told 19 3 → o ≡ Some t → 19 ≡ t.root
turns_same o t a b = let e : told 19 3 ≡ Some t = sym a ∙ b in ap root_or e

pub is_asked : CanMove nest_roles → answer round_check rounds.regs rounds.memory ≡ told 19 3 → IsAskedOf outer nest_code nest_roles round_check rounds
is_asked moves tells =
    record {
      asked = asked;
      cells = refl;
      moves = moves;
      divided = λ t e. subst (IsDivided outer nest_code nest_roles rounds) (turns_same _ t tells e) is_divided;
      stored = λ t e. written_back;
    }

pub enters : Enters rounds 0 entering
enters =
    record {
      at = refl;
      sound = record {
        registers = is_divided.registers;
        slots = record { count = refl; below = below_of (2 ^ 64) entering.slots (omega arith) refl };
        bytes = is_divided.bytes;
        number = omega arith;
        harts = omega arith;
      };
      registers = λ r l. refl;
      memory = refl;
      number = refl;
      harts = refl;
    }

pub does : AddedLaw → IsAdded stub_words outer nest_code nest_roles round_check 0 check_words → IsAskedOf outer nest_code nest_roles round_check rounds → answer round_check rounds.regs rounds.memory ≡ told 19 3
    → DoesTurns stub_words outer two_cells rounds entering (told 19 3) × MeetsNoFault stub_words entering
does law added asks tells =
    let r = law stub_words outer nest_code nest_roles round_check 0 check_words rounds entering added asks enters in
    (subst (DoesTurns stub_words outer two_cells rounds entering) tells r.0, r.1)

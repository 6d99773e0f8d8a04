-- The words that tell turns, as tests.
use Rattle.std.proofs.Common.{◌≡◌, ℕ, ◌^◌, ◌<◌, refl, ap, ◌∙◌, arith, ℤ, pos, negsuc, Bool, true, false, [], ◌∷◌, ◌++◌}
use Rattle.std.specs.Prelude.{◌==◌, ◌&&◌, nat_lt, if◌then◌else◌}
use Rattle.std.specs.Int.RustNames.{unsigned_abs}
use Rattle.std.proofs.lemmas.Bool.Decides.{nat_tests}
use Rattle.std.proofs.lemmas.Int.{ints}
use Rattle.rv64_decode.specs.Row.{alu, alu_imm, taken}
use Rattle.rv64_decode.specs.declared.instr.AluOp.TheVariants.{Sub, Div, Divu, Rem}
use Rattle.rv64_decode.specs.declared.instr.ImmOp.TheVariants.{Addi, Slli, Srli}
use Rattle.rv64_decode.specs.declared.instr.BranchOp.TheVariants.{Beq, Bge}
use Rattle.rv64_decode.specs.declared.instr.Instr.TheVariants.{Alu, AluImm}
use Rattle.rv64_decode.specs.declared.xinstr.XInstr.TheVariants.{Base, Put}
use Rattle.linear_forms.specs.Forms.{LinearForm, IsForm, is_small}
use Rattle.loop_data.specs.declared.trips.Relation.{Relation}
use Rattle.loop_data.specs.declared.trips.Relation.TheVariants.{Differ, Less, AtMost, More, AtLeast}
use Rattle.loop_data.specs.declared.trips.Trip.{Trip}
use Rattle.stub_laws.specs.Straight.{read}
use Rattle.stub_laws.proofs.Steps.{World, put_law}
use Rattle.stub_laws.proofs.Known.{Knows, also, Slot, knows_slot}
use Rattle.stub_laws.proofs.Tests.{State, IsTest, both, Known, With, same_test}
use Rattle.stub_laws.proofs.Choices.{over, skip}
use Rattle.check_numbers.specs.Parts.{bits}
use Rattle.check_numbers.specs.Sums.{IsShort, value_of}
use Rattle.check_numbers.specs.TripWords.{is_strict, is_up, branch_of, swapped, side, less_one, leaves, gap_word, end_word, stays_word, trip_word, trip_holds, differ_word, differ_holds}
use Rattle.check_numbers.proofs.Parts.{parts}
use Rattle.check_numbers.proofs.Sums.{small_short}
use Rattle.check_code.specs.Macros.{form_code, number_code, need_code}
use Rattle.check_code.specs.Rounds.{AreKnown}
use Rattle.check_code.specs.TurnCode.{difference_code, count_code, counted_code, order_code, trip_by, trip_code, last_turn_code, last_pass_code}
use Rattle.check_code.specs.TurnLaws.{IsTrip, IsTripKnown}
use Rattle.check_code.proofs.Pieces.{knows_three}
use Rattle.check_code.proofs.Values.{constant_short}
use Rattle.check_code.proofs.Extents.{terms_known}
use Rattle.check_code.proofs.States.{t5, t6, formed, needed, all_temps, temps_test, knows_temps, ap2, ap3}

-- a form at turn numbers 0
abbrev pub start_word : (ℕ → ℕ) → LinearForm → ℕ
start_word e f = value_of e f.constant f.terms

-- what a trip's words leave in x5, and whether they come to their end
abbrev pub word_by : (ℕ → ℕ) → Relation → Bool → LinearForm → LinearForm → ℤ → ℕ
word_by e Differ signed start bound step = differ_word (start_word e start) step
word_by e relation signed start bound step =
    trip_word signed (is_strict relation) (is_up relation) (start_word e start) (start_word e bound) (unsigned_abs step)

abbrev pub holds_by : (ℕ → ℕ) → Relation → Bool → LinearForm → LinearForm → ℤ → Bool
holds_by e Differ signed start bound step = differ_holds (start_word e start) step
holds_by e relation signed start bound step =
    trip_holds signed (is_strict relation) (is_up relation) (start_word e start) (start_word e bound) (unsigned_abs step)

size_short : (z : ℤ) → is_small z ≡ true → IsShort (pos (unsigned_abs z))
size_short (pos n) h = (grind (arith, ints, nat_tests), grind (arith, ints, nat_tests))
size_short (negsuc n) h = (grind (arith, ints, nat_tests), grind (arith, ints, nat_tests))

count_temps : (strict up : Bool) (size : ℕ) → all_temps (count_code strict up size) ≡ true
count_temps strict true size = refl
count_temps strict false size = refl

side_read : (s : Bool) (f : ℕ → ℕ) (q r a b : ℕ) → read f q ≡ a → read f r ≡ b → read f (side s q r) ≡ side s a b
side_read true f q r a b h k = k
side_read false f q r a b h k = h

if_true : (t v : Bool) → (if t then true else (true && (v && true))) ≡ (if t then true else v)
if_true true v = refl
if_true false true = refl
if_true false false = refl

small_word : (q : ℕ) → alu_imm Addi q (pos 1) < 2 ^ 64
small_word q = omega arith

module _ (w : World) (known : ℕ → Bool) (e : ℕ → ℕ) where
  -- a form into x5, and another into x6 beside it
  first_form : (f : LinearForm) → IsForm f → AreKnown known f.terms
      → IsTest w (Known known e) (Known known e) (With 5 (start_word e f) (Known known e)) (form_code 5 f) true
  first_form f fine k =
      formed w known e 5 t5 f.constant f.terms (Known known e) (With 5 (start_word e f) (Known known e))
      (constant_short f.constant fine.bounded.constant) (terms_known known f fine k)
      (λ f' g x. x) (λ f' g p q x. (refl, knows_three known e f' g 5 p q _ t5 x))

  second_form : (f : LinearForm) (a : ℕ) → IsForm f → AreKnown known f.terms
      → IsTest w (Known known e) (With 5 a (Known known e)) (With 6 (start_word e f) (With 5 a (Known known e))) (form_code 6 f) true
  second_form f a fine k =
      formed w known e 6 t6 f.constant f.terms (With 5 a (Known known e)) (With 6 (start_word e f) (With 5 a (Known known e)))
      (constant_short f.constant fine.bounded.constant) (terms_known known f fine k)
      (λ f' g x. x.1) (λ f' g p q x. (refl, (x.0, knows_three known e f' g 6 p q _ t6 x.1)))

  -- a difference that moves toward 0
  difference_law : (f : LinearForm) (step : ℤ) → IsForm f → AreKnown known f.terms → IsShort step
      → IsTest w (Known known e) (Known known e) (With 5 (differ_word (start_word e f) step) (Known known e)) (difference_code f step)
      (differ_holds (start_word e f) step)
  difference_law f step fine k fits =
      let z = Known known e in
      let v = start_word e f in
      let d = alu Sub 0 v in
      let s = bits step in
      let q = differ_word v step in
      let t = alu Rem d s == 0 in
      let u = taken Bge q 0 in
      let s1 = With 5 v z in
      let s2 = With 7 (alu Rem d s) (With 5 d (With 6 s z)) in
      let s3 = With 5 q z in
      let one = number_code 6 step ++ (Base (Alu Sub 5 0 5) ∷ Base (Alu Rem 7 5 6) ∷ []) in
      let two = Base (Alu Div 5 5 6) ∷ [] in
      both w z z s1 s3 (form_code 5 f) (one ++ (need_code Beq 7 0 ++ (two ++ need_code Bge 5 0))) true (t && u)
      (first_form f fine k)
      (λ h. both w z s1 s2 s3 one (need_code Beq 7 0 ++ (two ++ need_code Bge 5 0)) true (t && u)
      (temps_test w z s1 s2 one refl (λ f g x. (
        ap2 (read f 5) v _ s (λ a b. alu Rem (alu Sub 0 a) b) x.0 (parts step fits),
        (ap (λ a. alu Sub 0 a) x.0, (parts step fits, knows_temps known e one f g refl x.1)),
      )))
      (λ h. both w z s2 s2 s3 (need_code Beq 7 0) (two ++ need_code Bge 5 0) t u
      (needed w z s2 Beq 7 0 t (λ f g x. ap (λ a. a == 0) x.0) (λ f g x. x.1.1.1))
      (λ h. both w z s2 s3 s3 two (need_code Bge 5 0) true u
      (temps_test w z s2 s3 two refl
      (λ f g x. (ap2 (read f 5) d (read f 6) s (alu Div) x.1.0 x.1.1.0, knows_temps known e two f g refl x.1.1.1)))
      (λ h. needed w z s3 Bge 5 0 u (λ f g x. ap (λ a. taken Bge a 0) x.0) (λ f g x. x.1)))))

  to_five : (n v : ℕ) (b : State) → n < 2 ^ 64 → n ≡ v → ((f g : ℕ → ℕ) → b f g → Knows known e f g)
      → ((f g : ℕ → ℕ) → b f g → read f 7 ≡ n)
      → IsTest w (Known known e) b (With 5 v (Known known e)) (Base (AluImm Addi 5 7 (pos 0)) ∷ []) true
  to_five n v b small is knows value =
      temps_test w (Known known e) b (With 5 v (Known known e)) (Base (AluImm Addi 5 7 (pos 0)) ∷ []) refl (λ f g x.
      let same : alu_imm Addi n (pos 0) ≡ n = omega arith in (
        ap (λ y. alu_imm Addi y (pos 0)) (value f g x) ∙ same ∙ is,
        knows_temps known e (Base (AluImm Addi 5 7 (pos 0)) ∷ []) f g refl
            (knows f g x),
      ))

  counted : (strict up : Bool) (a b size : ℕ) → IsShort (pos size)
      → IsTest w (Known known e) (With 7 0 (With 6 b (With 5 a (Known known e))))
      (With 28 (end_word up a (stays_word strict up a b size) size) (With 7 (stays_word strict up a b size) (With 6 b (Known known e))))
      (count_code strict up size) true
  counted strict true a b size fits =
      temps_test w (Known known e) (With 7 0 (With 6 b (With 5 a (Known known e))))
      (With 28 (end_word true a (stays_word strict true a b size) size)
      (With 7 (stays_word strict true a b size) (With 6 b (Known known e)))) (count_code strict true size) refl (λ f g x. (
        ap3 (read f 5) a (read f 6) b _ (bits (pos size)) (λ p q r. end_word true p (stays_word strict true p q r) r) x.1.1.0 x.1.0
            (parts (pos size) fits),
        (
          ap3 (read f 5) a (read f 6) b _ (bits (pos size)) (λ p q r. stays_word strict true p q r) x.1.1.0 x.1.0 (parts (pos size) fits),
          (x.1.0, knows_temps known e (count_code strict true size) f g refl x.1.1.1),
        ),
      ))
  counted strict false a b size fits =
      temps_test w (Known known e) (With 7 0 (With 6 b (With 5 a (Known known e))))
      (With 28 (end_word false a (stays_word strict false a b size) size)
      (With 7 (stays_word strict false a b size) (With 6 b (Known known e)))) (count_code strict false size) refl (λ f g x. (
        ap3 (read f 5) a (read f 6) b _ (bits (pos size)) (λ p q r. end_word false p (stays_word strict false p q r) r) x.1.1.0 x.1.0
            (parts (pos size) fits),
        (
          ap3 (read f 5) a (read f 6) b _ (bits (pos size)) (λ p q r. stays_word strict false p q r) x.1.1.0 x.1.0 (parts (pos size) fits),
          (x.1.0, knows_temps known e (count_code strict false size) f g refl x.1.1.1),
        ),
      ))

  -- an order of two words
  order_law : (signed strict up : Bool) (start bound : LinearForm) (size : ℕ) → IsForm start → IsForm bound → AreKnown known start.terms
      → AreKnown known bound.terms → IsShort (pos size)
      → IsTest w (Known known e) (Known known e)
      (With 5 (trip_word signed strict up (start_word e start) (start_word e bound) size) (Known known e))
      (order_code signed strict up start bound size) (trip_holds signed strict up (start_word e start) (start_word e bound) size)
  order_law signed strict up start bound size fine fine' ks kb fits =
      let z = Known known e in
      let a = start_word e start in
      let b = start_word e bound in
      let n = stays_word strict up a b size in
      let end = end_word up a n size in
      let s = swapped strict up in
      let op = branch_of signed strict in
      let t = leaves signed strict up a b in
      let v = leaves signed strict up end b in
      let s1 = With 5 a z in
      let s2 = With 6 b s1 in
      let s3 = With 7 0 s2 in
      let s4 = With 28 end (With 7 n (With 6 b z)) in
      let q = trip_word signed strict up a b size in
      let last = With 5 q z in
      let none = Base (AluImm Addi 7 0 (pos 0)) ∷ [] in
      let part = counted_code signed strict up size in
      let leave = need_code op (side s 28 6) (side s 6 28) in
      let five = Base (AluImm Addi 5 7 (pos 0)) ∷ [] in
      let tail = over op (side s 5 6) (side s 6 5) part ∷ (part ++ five) in
      let u = if t then true else (true && (v && true)) in
      same_test w z z last (order_code signed strict up start bound size) u (if t then true else v) (if_true t v)
      (both w z z s1 last (form_code 5 start) (form_code 6 bound ++ (none ++ tail)) true u
      (first_form start fine ks)
      (λ h. both w z s1 s2 last (form_code 6 bound) (none ++ tail) true u
      (second_form bound a fine' kb)
      (λ h. both w z s2 s3 last none tail true u
      (temps_test w z s2 s3 none refl (λ f g x. (refl, (x.0, (x.1.0, knows_temps known e none f g refl x.1.1)))))
      (λ h. skip w z s3 last op (side s 5 6) (side s 6 5) part five t true (true && (v && true))
      (λ f g x. ap2 (read f (side s 5 6)) (side s a b) (read f (side s 6 5)) (side s b a) (taken op) (side_read s f 5 6 a b x.1.1.0 x.1.0)
      (side_read s f 6 5 b a x.1.0 x.1.1.0)) (omega arith)
      (λ k. to_five 0 q s3 (omega arith) (rw k refl) (λ f g x. x.1.1.1) (λ f g x. x.0))
      (λ k. both w z s3 s4 last (count_code strict up size) (leave ++ five) true (v && true) (counted strict up a b size fits)
      (λ h. both w z s4 s4 last leave five v true
      (needed w z s4 op (side s 28 6) (side s 6 28) v
      (λ f g x. ap2 (read f (side s 28 6)) (side s end b) (read f (side s 6 28)) (side s b end) (taken op)
      (side_read s f 28 6 end b x.0 x.1.1.0) (side_read s f 6 28 b end x.1.1.0 x.0)) (λ f g x. x.1.1.1))
      (λ h. to_five n q s4 (small_word (alu Divu (alu_imm Addi (gap_word up a b) (less_one strict)) size)) (rw k refl) (λ f g x. x.1.1.1)
      (λ f g x. x.1.0))))))))

  trip_law_by : (relation : Relation) (signed : Bool) (start bound : LinearForm) (step : ℤ) → IsForm start → IsForm bound
      → is_small step ≡ true → AreKnown known start.terms → AreKnown known bound.terms
      → IsTest w (Known known e) (Known known e) (With 5 (word_by e relation signed start bound step) (Known known e))
      (trip_by relation signed start bound step) (holds_by e relation signed start bound step)
  trip_law_by Differ signed start bound step fine fine' small ks kb = difference_law start step fine ks (small_short step small)
  trip_law_by Less signed start bound step fine fine' small ks kb =
      order_law signed true true start bound (unsigned_abs step) fine fine' ks kb (size_short step small)
  trip_law_by AtMost signed start bound step fine fine' small ks kb =
      order_law signed false true start bound (unsigned_abs step) fine fine' ks kb (size_short step small)
  trip_law_by More signed start bound step fine fine' small ks kb =
      order_law signed true false start bound (unsigned_abs step) fine fine' ks kb (size_short step small)
  trip_law_by AtLeast signed start bound step fine fine' small ks kb =
      order_law signed false false start bound (unsigned_abs step) fine fine' ks kb (size_short step small)

  -- how often a loop's exit branch stays
  pub trip_law : (t : Trip) → IsTrip t → IsTripKnown known t
      → IsTest w (Known known e) (Known known e) (With 5 (word_by e t.relation t.signed t.start t.bound t.step) (Known known e))
      (trip_code t) (holds_by e t.relation t.signed t.start t.bound t.step)
  trip_law t ok k = trip_law_by t.relation t.signed t.start t.bound t.step ok.start ok.bound ok.small k.start k.bound

  kept_in : (q new slot : ℕ) → Slot new slot → q ≡ e new
      → IsTest w (Known known e) (With 5 q (Known known e)) (Known (also known new) e) (Put slot 5 ∷ []) true
  kept_in q new slot is value = record {
    by = λ p f g x has on off. put_law w p f g slot 5 has.0 (on refl _ _ (knows_slot known e f g new slot (read f 5) is (x.0 ∙ value) x.1));
  }

  -- from 16 to 2 ^ 31, and one less in slot 23
  pub last_turn_law : (q : ℕ) → ((taken Bge q 16 && taken Bge (2 ^ 31) q) ≡ true → alu_imm Addi q (negsuc 0) ≡ e 55) → Slot 55 23
      → IsTest w (Known known e) (With 5 q (Known known e)) (Known (also known 55) e) last_turn_code
      (taken Bge q 16 && taken Bge (2 ^ 31) q)
  last_turn_law q value slot =
      let z = Known known e in
      let last = Known (also known 55) e in
      let t1 = taken Bge q 16 in
      let t2 = taken Bge (2 ^ 31) q in
      let s1 = With 5 q z in
      let s2 = With 6 16 s1 in
      let s3 = With 6 (2 ^ 31) s1 in
      let s4 = With 5 (alu_imm Addi q (negsuc 0)) z in
      let one = Base (AluImm Addi 6 0 (pos 16)) ∷ [] in
      let two = Base (AluImm Addi 6 0 (pos 1)) ∷ Base (AluImm Slli 6 6 (pos 31)) ∷ [] in
      let three = Base (AluImm Addi 5 5 (negsuc 0)) ∷ [] in
      let end = Put 23 5 ∷ [] in
      same_test w z s1 last last_turn_code (t1 && (t2 && true)) (t1 && t2) (and_true t1 t2)
      (both w z s1 s2 last one (need_code Bge 5 6 ++ (two ++ (need_code Bge 6 5 ++ (three ++ end)))) true (t1 && (t2 && true))
      (temps_test w z s1 s2 one refl (λ f g x. (refl, (x.0, knows_temps known e one f g refl x.1))))
      (λ h. both w z s2 s2 last (need_code Bge 5 6) (two ++ (need_code Bge 6 5 ++ (three ++ end))) t1 (t2 && true)
      (needed w z s2 Bge 5 6 t1 (λ f g x. ap2 (read f 5) q (read f 6) 16 (taken Bge) x.1.0 x.0) (λ f g x. x.1.1))
      (λ h1. both w z s2 s3 last two (need_code Bge 6 5 ++ (three ++ end)) true (t2 && true)
      (temps_test w z s2 s3 two refl (λ f g x. (refl, (x.1.0, knows_temps known e two f g refl x.1.1))))
      (λ h. both w z s3 s3 last (need_code Bge 6 5) (three ++ end) t2 true
      (needed w z s3 Bge 6 5 t2 (λ f g x. ap2 (read f 6) (2 ^ 31) (read f 5) q (taken Bge) x.0 x.1.0) (λ f g x. x.1.1))
      (λ h2. both w z s3 s4 last three end true true
      (temps_test w z s3 s4 three refl (λ f g x. (ap (λ y. alu_imm Addi y (negsuc 0)) x.1.0, knows_temps known e three f g refl x.1.1)))
      (λ h. kept_in (alu_imm Addi q (negsuc 0)) 55 23 slot (value (rw (h1, h2) refl))))))))
    where
      and_true : (t u : Bool) → (t && (u && true)) ≡ (t && u)
      and_true true true = refl
      and_true true false = refl
      and_true false u = refl

  -- below 2 ^ 31, and in a slot
  pub last_pass_law : (q new slot : ℕ) → Slot new slot → (nat_lt q (2 ^ 31) ≡ true → q ≡ e new)
      → IsTest w (Known known e) (With 5 q (Known known e)) (Known (also known new) e) (last_pass_code slot) (nat_lt q (2 ^ 31))
  last_pass_law q new slot is value =
      let z = Known known e in
      let s1 = With 5 q z in
      let s2 = With 6 (alu_imm Srli q (pos 31)) s1 in
      let last = Known (also known new) e in
      let small = nat_lt q (2 ^ 31) in
      let one = Base (AluImm Srli 6 5 (pos 31)) ∷ [] in
      same_test w z s1 last (last_pass_code slot) (small && true) small (and_true small)
      (both w z s1 s2 last one (need_code Beq 6 0 ++ (Put slot 5 ∷ [])) true (small && true)
      (temps_test w z s1 s2 one refl (λ f g x. (ap (λ y. alu_imm Srli y (pos 31)) x.0, (x.0, knows_temps known e one f g refl x.1))))
      (λ k. both w z s2 s2 last (need_code Beq 6 0) (Put slot 5 ∷ []) small true
      (needed w z s2 Beq 6 0 small (λ f g x. ap (λ y. y == 0) x.0 ∙ shift_test q) (λ f g x. x.1.1))
      (λ h. less_known (kept_in q new slot is (value h)))))
    where
      and_true : (t : Bool) → (t && true) ≡ t
      and_true true = refl
      and_true false = refl

      shift_test : (q : ℕ) → (alu_imm Srli q (pos 31) == 0) ≡ nat_lt q (2 ^ 31)
      shift_test q = grind (arith, nat_tests)

      less_known : {b c : State} → IsTest w (Known known e) b c (Put slot 5 ∷ []) true
          → IsTest w (Known known e) (With 6 (alu_imm Srli q (pos 31)) b) c (Put slot 5 ∷ []) true
      less_known h = record { by = λ p f g x has on off. h.by p f g x.1 has on off }

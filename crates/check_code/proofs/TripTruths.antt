-- The words that tell turns come to their end exactly where the check takes them.
use Rattle.std.proofs.Common.{◌≡◌, ◌≢◌, ℕ, zero, suc, ◌+◌, ◌-◌, ◌^◌, ◌<◌, ◌≤◌, refl, sym, subst, ap, ◌∙◌, arith, ℤ, pos, negsuc, Option, Some, None, Bool, true, false}
use Rattle.std.specs.Prelude.{◌==◌, ◌&&◌, not, nat_lt, nat_le, if◌then◌else◌, is_some}
use Rattle.std.proofs.lemmas.Bool.Decides.{nat_tests}
use Rattle.std.proofs.lemmas.Int.{ints}
use Rattle.rv64_decode.specs.Row.{alu_imm, taken}
use Rattle.rv64_decode.specs.declared.instr.ImmOp.TheVariants.{Addi}
use Rattle.rv64_decode.specs.declared.instr.BranchOp.TheVariants.{Bge}
use Rattle.linear_forms.specs.Forms.{LinearForm, IsForm, exact, is_small, is_zero, pure, word_of}
use Rattle.loop_data.specs.Trips.{approaches, reading, number, first_value, number_of_stays}
use Rattle.loop_data.specs.declared.trips.Relation.{Relation}
use Rattle.loop_data.specs.declared.trips.Relation.TheVariants.{Differ, Less, AtMost, More, AtLeast}
use Rattle.loop_data.specs.declared.trips.Trip.{Trip}
use Rattle.alias_checks.specs.TurnTests.{up_to, few_stays, root_turns, passes_of}
use Rattle.stub_laws.specs.Locations.{slot_of}
use Rattle.stub_laws.proofs.Steps.{World}
use Rattle.stub_laws.proofs.Known.{also, Slot, same_number}
use Rattle.stub_laws.proofs.Tests.{IsTest, both, Known, With, same_test}
use Rattle.check_numbers.specs.TripWords.{differ_word, differ_holds}
use Rattle.check_numbers.proofs.Differ.{differ_words, least_number, least_word}
use Rattle.check_numbers.proofs.Sums.{small_short}
use Rattle.check_numbers.proofs.Trips.{trip_words}
use Rattle.check_code.specs.TurnCode.{trip_code, last_turn_code, last_pass_code, root_code, inner_code}
use Rattle.check_code.specs.TurnLaws.{IsTrip, IsTripKnown, as_integers, root_of, passes_in, root_holds, inner_holds}
use Rattle.check_code.proofs.Runs.{sum_below}
use Rattle.check_code.proofs.Values.{start_is}
use Rattle.check_code.proofs.TripRuns.{start_word, word_by, holds_by, trip_law, last_turn_law, last_pass_law}

-- a trip tells this number exactly where its words come to their end with it; or if it tells one, and if they do, it is too
-- large for a check
data Told (o : Option ℕ) (holds : Bool) (q : ℕ) : Type 0 where
  same : o ≡ (if holds then Some q else None) → Told o holds q
  far : ((n : ℕ) → o ≡ Some n → 2 ^ 31 < n) → (holds ≡ true → 2 ^ 31 < q) → Told o holds q

not_zero : (z : ℤ) → not (is_zero z) ≡ true → z ≢ pos 0
not_zero z h e = let c : not (is_zero (pos 0)) ≡ true = subst (λ y. not (is_zero y) ≡ true) e h in cc

not_same : (a b : ℕ) → (a == b) ≡ false → a ≢ b
not_same a b h e = let c : (b == b) ≡ false = subst (λ k. (k == b) ≡ false) e h in absurd (grind (arith, nat_tests))

-- a difference; the least number cannot be negated, and is too far from 0 for any step
differ_told : (v : ℕ) (step : ℤ) → is_small step ≡ true → step ≢ pos 0 → v < 2 ^ 64
    → Told (number Differ true (reading true v) step (pos 0)) (differ_holds v step) (differ_word v step)
differ_told v step small some below = by_least (v == 2 ^ 63) refl
  where
    by_least : (t : Bool) → (v == 2 ^ 63) ≡ t
        → Told (number Differ true (reading true v) step (pos 0)) (differ_holds v step) (differ_word v step)
    by_least true h =
        subst (λ x. Told (number Differ true (reading true x) step (pos 0)) (differ_holds x step) (differ_word x step))
        (sym (same_number v (2 ^ 63) h))
        (far (λ n e. least_number step n small some e) (λ e. least_word step small some (small_short step small) e))
    by_least false h = same (differ_words v step (small_short step small) some below (not_same v (2 ^ 63) h))

-- an order of two words
order_told : (e : ℕ → ℕ) (relation : Relation) (signed : Bool) (start bound : LinearForm) (step : ℤ) (a b : ℕ) (h : Bool) (q : ℕ)
    → a ≡ word_of (exact start (as_integers e) (λ k. 0)) → b ≡ word_of (exact bound (as_integers e) (λ k. 0))
    → number relation signed (reading signed a) step (reading signed b) ≡ (if h then Some q else None)
    → Told (number relation signed (first_value signed start (as_integers e)) step (first_value signed bound (as_integers e))) h q
order_told e relation signed start bound step a b h q x y is =
    same (ap (λ n. number relation signed (reading signed n) step (first_value signed bound (as_integers e))) (sym x)
    ∙ ap (λ n. number relation signed (reading signed a) step (reading signed n)) (sym y)
    ∙ is)

told_by : (e : ℕ → ℕ) (relation : Relation) (signed : Bool) (start bound : LinearForm) (step : ℤ) → IsForm start → IsForm bound
    → is_small step ≡ true → approaches relation step ≡ true
    → (relation ≡ Differ → (signed ≡ true) × (bound ≡ pure (pos 0)))
    → Told (number relation signed (first_value signed start (as_integers e)) step (first_value signed bound (as_integers e)))
    (holds_by e relation signed start bound step) (word_by e relation signed start bound step)
told_by e Differ signed start bound step fs fb small toward differs =
    let d = differs refl in
    let t = differ_told (start_word e start) step small (not_zero step toward) (sum_below e start fs) in
    let u = subst (λ n. Told (number Differ true (reading true n) step (pos 0)) (differ_holds (start_word e start) step)
    (differ_word (start_word e start) step)) (start_is e start fs) t in
    let v = subst (λ g. Told (number Differ true (first_value true start (as_integers e)) step (first_value true g (as_integers e)))
    (differ_holds (start_word e start) step) (differ_word (start_word e start) step)) (sym d.1) u in
    subst (λ s. Told (number Differ s (first_value s start (as_integers e)) step (first_value s bound (as_integers e)))
    (differ_holds (start_word e start) step) (differ_word (start_word e start) step)) (sym d.0) v
told_by e Less signed start bound step fs fb small toward differs =
    order_told e Less signed start bound step (start_word e start) (start_word e bound) _ _ (start_is e start fs) (start_is e bound fb)
    (trip_words Less signed (start_word e start) (start_word e bound) step tt toward (sum_below e start fs) (sum_below e bound fb))
told_by e AtMost signed start bound step fs fb small toward differs =
    order_told e AtMost signed start bound step (start_word e start) (start_word e bound) _ _ (start_is e start fs) (start_is e bound fb)
    (trip_words AtMost signed (start_word e start) (start_word e bound) step tt toward (sum_below e start fs) (sum_below e bound fb))
told_by e More signed start bound step fs fb small toward differs =
    order_told e More signed start bound step (start_word e start) (start_word e bound) _ _ (start_is e start fs) (start_is e bound fb)
    (trip_words More signed (start_word e start) (start_word e bound) step tt toward (sum_below e start fs) (sum_below e bound fb))
told_by e AtLeast signed start bound step fs fb small toward differs =
    order_told e AtLeast signed start bound step (start_word e start) (start_word e bound) _ _ (start_is e start fs) (start_is e bound fb)
    (trip_words AtLeast signed (start_word e start) (start_word e bound) step tt toward (sum_below e start fs) (sum_below e bound fb))

told : (e : ℕ → ℕ) (t : Trip) → IsTrip t
    → Told (number_of_stays t (as_integers e)) (holds_by e t.relation t.signed t.start t.bound t.step)
    (word_by e t.relation t.signed t.start t.bound t.step)
told e t ok = told_by e t.relation t.signed t.start t.bound t.step ok.start ok.bound ok.small ok.toward ok.differs

-- the limits of turns
within_is : (q : ℕ) → (taken Bge q 16 && taken Bge (2 ^ 31) q) ≡ (nat_le 16 q && nat_le q (2 ^ 31))
within_is q = grind (arith, ints, nat_tests)

above : (q : ℕ) → 2 ^ 31 < q → nat_le q (2 ^ 31) ≡ false
above q h = grind (arith, nat_tests)

not_below : (q : ℕ) → 2 ^ 31 < q → nat_lt q (2 ^ 31) ≡ false
not_below q h = grind (arith, nat_tests)

below : (q : ℕ) → nat_lt q (2 ^ 31) ≡ true → nat_le q (2 ^ 31) ≡ true
below q h = grind (arith, nat_tests)

no_root : (q : ℕ) → 2 ^ 31 < q → is_some (root_turns (up_to (2 ^ 31) (Some q))) ≡ false
no_root q h = rw (above q h) refl

no_pass : (q : ℕ) → 2 ^ 31 < q → is_some (passes_of (up_to (2 ^ 31) (Some q))) ≡ false
no_pass q h = rw (above q h) refl

-- a number that is taken, and which it is
some_root : (q : ℕ) → is_some (root_turns (up_to (2 ^ 31) (Some q))) ≡ (nat_le 16 q && nat_le q (2 ^ 31))
some_root q = by_tests (nat_le 16 q) (nat_le q (2 ^ 31)) refl refl
  where
    by_tests : (t u : Bool) → nat_le 16 q ≡ t → nat_le q (2 ^ 31) ≡ u
        → is_some (root_turns (up_to (2 ^ 31) (Some q))) ≡ (nat_le 16 q && nat_le q (2 ^ 31))
    by_tests true true a b = rw (a, b) (rw a refl)
    by_tests true false a b = rw (a, b) refl
    by_tests false true a b = rw (a, b) (rw a refl)
    by_tests false false a b = rw (a, b) refl

-- the words that tell the root's turns
root_is : (o : Option ℕ) (holds : Bool) (q : ℕ) → Told o holds q
    → (holds && (taken Bge q 16 && taken Bge (2 ^ 31) q)) ≡ is_some (root_turns (up_to (2 ^ 31) o))
root_is o holds q (same e) =
    subst (λ x. (holds && (taken Bge q 16 && taken Bge (2 ^ 31) q)) ≡ is_some (root_turns (up_to (2 ^ 31) x))) (sym e) (by_holds holds)
  where
    by_holds : (t : Bool)
        → (t && (taken Bge q 16 && taken Bge (2 ^ 31) q)) ≡ is_some (root_turns (up_to (2 ^ 31) (if t then Some q else None)))
    by_holds true = within_is q ∙ sym (some_root q)
    by_holds false = refl
root_is o holds q (far a b) = left holds b ∙ sym (right o a)
  where
    right : (x : Option ℕ) → ((n : ℕ) → x ≡ Some n → 2 ^ 31 < n) → is_some (root_turns (up_to (2 ^ 31) x)) ≡ false
    right None a = refl
    right (Some n) a = no_root n (a n refl)

    left : (t : Bool) → (t ≡ true → 2 ^ 31 < q) → (t && (taken Bge q 16 && taken Bge (2 ^ 31) q)) ≡ false
    left true b = within_is q ∙ sym (some_root q) ∙ no_root q (b refl)
    left false b = refl

-- the number that they tell
root_value : (o : Option ℕ) (holds : Bool) (q : ℕ) → Told o holds q → holds ≡ true → (taken Bge q 16 && taken Bge (2 ^ 31) q) ≡ true
    → root_turns (up_to (2 ^ 31) o) ≡ Some q
root_value o holds q (same e) h k =
    ap (λ x. root_turns (up_to (2 ^ 31) x)) (e ∙ ap (λ t. if t then Some q else None) h) ∙ taken_root q (sym (within_is q) ∙ k)
  where
    taken_root : (q : ℕ) → (nat_le 16 q && nat_le q (2 ^ 31)) ≡ true → root_turns (up_to (2 ^ 31) (Some q)) ≡ Some q
    taken_root q k = by_tests (nat_le 16 q) (nat_le q (2 ^ 31)) refl refl k
      where
        by_tests : (t u : Bool) → nat_le 16 q ≡ t → nat_le q (2 ^ 31) ≡ u → (t && u) ≡ true → root_turns (up_to (2 ^ 31) (Some q)) ≡ Some q
        by_tests true true a b c = rw b (rw a refl)
        by_tests true false a b c = absurd (cc)
        by_tests false u a b c = absurd (cc)
root_value o holds q (far a b) h k = absurd (clash (nat_le 16 q) (nat_le q (2 ^ 31)) (above q (b h)) (sym (within_is q) ∙ k))
  where
    clash : (t u : Bool) → u ≡ false → (t && u) ≡ true → ⊥
    clash true u x y = cc
    clash false u x y = cc

-- the words that tell the passes of an inner loop
passes_is : (o : Option ℕ) (holds : Bool) (q : ℕ) → Told o holds q → (holds && nat_lt q (2 ^ 31)) ≡ is_some (passes_of (up_to (2 ^ 31) o))
passes_is o holds q (same e) = subst (λ x. (holds && nat_lt q (2 ^ 31)) ≡ is_some (passes_of (up_to (2 ^ 31) x))) (sym e) (by_holds holds)
  where
    by_small : (t : Bool) → nat_lt q (2 ^ 31) ≡ t → nat_lt q (2 ^ 31) ≡ is_some (passes_of (up_to (2 ^ 31) (Some q)))
    by_small true h = rw (below q h) (rw h refl)
    by_small false h = by_limit (nat_le q (2 ^ 31)) refl
      where
        by_limit : (u : Bool) → nat_le q (2 ^ 31) ≡ u → nat_lt q (2 ^ 31) ≡ is_some (passes_of (up_to (2 ^ 31) (Some q)))
        by_limit true k = rw k (rw h refl)
        by_limit false k = rw (k, h) refl

    by_holds : (t : Bool) → (t && nat_lt q (2 ^ 31)) ≡ is_some (passes_of (up_to (2 ^ 31) (if t then Some q else None)))
    by_holds true = by_small (nat_lt q (2 ^ 31)) refl
    by_holds false = refl
passes_is o holds q (far a b) = left holds b ∙ sym (right o a)
  where
    right : (x : Option ℕ) → ((n : ℕ) → x ≡ Some n → 2 ^ 31 < n) → is_some (passes_of (up_to (2 ^ 31) x)) ≡ false
    right None a = refl
    right (Some n) a = no_pass n (a n refl)

    left : (t : Bool) → (t ≡ true → 2 ^ 31 < q) → (t && nat_lt q (2 ^ 31)) ≡ false
    left true b = not_below q (b refl)
    left false b = refl

passes_value : (o : Option ℕ) (holds : Bool) (q : ℕ) → Told o holds q → holds ≡ true → nat_lt q (2 ^ 31) ≡ true
    → passes_of (up_to (2 ^ 31) o) ≡ Some (suc q)
passes_value o holds q (same e) h k =
    ap (λ x. passes_of (up_to (2 ^ 31) x)) (e ∙ ap (λ t. if t then Some q else None) h) ∙ rw (below q k) (rw k refl)
passes_value o holds q (far a b) h k = absurd (let x = not_below q (b h) in cc)

few_is : (t : Trip) (z : ℕ → ℤ) → few_stays t z ≡ up_to (2 ^ 31) (number_of_stays t z)
unfolding few_stays
few_is t z = refl

one_less : (q : ℕ) → (nat_le 16 q && nat_le q (2 ^ 31)) ≡ true → alu_imm Addi q (negsuc 0) ≡ q - 1
one_less q h = by_tests (nat_le 16 q) (nat_le q (2 ^ 31)) refl refl h
  where
    by_tests : (t u : Bool) → nat_le 16 q ≡ t → nat_le q (2 ^ 31) ≡ u → (t && u) ≡ true → alu_imm Addi q (negsuc 0) ≡ q - 1
    by_tests true true a b c = less q (grind (arith, nat_tests)) (grind (arith, nat_tests))
      where
        less : (q : ℕ) → 16 ≤ q → q ≤ 2 ^ 31 → alu_imm Addi q (negsuc 0) ≡ q - 1
        less q a b = omega (arith, a, b)
    by_tests true false a b c = absurd (cc)
    by_tests false u a b c = absurd (cc)

one_back : (q : ℕ) → suc q - 1 ≡ q
one_back q = omega arith

slot_23 : (loc : ℕ) → slot_of loc ≡ Some 23 → loc ≡ 55
slot_23 loc h = grind (arith, nat_tests)

slot_24 : (loc : ℕ) → slot_of loc ≡ Some 24 → loc ≡ 56
slot_24 loc h = grind (arith, nat_tests)

slot_25 : (loc : ℕ) → slot_of loc ≡ Some 25 → loc ≡ 57
slot_25 loc h = grind (arith, nat_tests)

slot_26 : (loc : ℕ) → slot_of loc ≡ Some 26 → loc ≡ 58
slot_26 loc h = grind (arith, nat_tests)

pub root_slot : Slot 55 23
root_slot = record { is = refl; back = slot_23 }

-- the slot of the inner loop with this index
pub inner_slot : (k : ℕ) → k < 3 → Slot (56 + k) (24 + k)
inner_slot zero h = record { is = refl; back = slot_24 }
inner_slot (suc zero) h = record { is = refl; back = slot_25 }
inner_slot (suc (suc zero)) h = record { is = refl; back = slot_26 }
inner_slot (suc (suc (suc k))) h = absurd (omega (arith, h))

-- the turns of the root
pub root_law : (w : World) (known : ℕ → Bool) (e : ℕ → ℕ) (t : Trip) → IsTrip t → IsTripKnown known t
    → ((p : ℕ) → root_of t e ≡ Some p → e 55 ≡ p - 1)
    → IsTest w (Known known e) (Known known e) (Known (also known 55) e) (root_code t) (root_holds t e)
root_law w known e t ok k value =
    let z = Known known e in
    let o = number_of_stays t (as_integers e) in
    let holds = holds_by e t.relation t.signed t.start t.bound t.step in
    let q = word_by e t.relation t.signed t.start t.bound t.step in
    let within = taken Bge q 16 && taken Bge (2 ^ 31) q in
    let is = told e t ok in
    let last = Known (also known 55) e in
    same_test w z z last (root_code t) (holds && within) (root_holds t e)
    (root_is o holds q is ∙ ap (λ x. is_some (root_turns x)) (sym (few_is t (as_integers e))))
    (both w z z (With 5 q z) last (trip_code t) last_turn_code holds within (trip_law w known e t ok k)
    (λ h. last_turn_law w known e q
    (λ i. one_less q (sym (within_is q) ∙ i) ∙ sym (value q (ap root_turns (few_is t (as_integers e)) ∙ root_value o holds q is h i)))
    root_slot))

-- the passes of an inner loop
pub inner_law : (w : World) (known : ℕ → Bool) (e : ℕ → ℕ) (new slot : ℕ) (t : Trip) → Slot new slot → IsTrip t → IsTripKnown known t
    → ((n : ℕ) → passes_in t e ≡ Some n → e new ≡ n - 1)
    → IsTest w (Known known e) (Known known e) (Known (also known new) e) (inner_code slot t) (inner_holds t e)
inner_law w known e new slot t at ok k value =
    let z = Known known e in
    let o = number_of_stays t (as_integers e) in
    let holds = holds_by e t.relation t.signed t.start t.bound t.step in
    let q = word_by e t.relation t.signed t.start t.bound t.step in
    let is = told e t ok in
    let last = Known (also known new) e in
    same_test w z z last (inner_code slot t) (holds && nat_lt q (2 ^ 31)) (inner_holds t e)
    (passes_is o holds q is ∙ ap (λ x. is_some (passes_of x)) (sym (few_is t (as_integers e))))
    (both w z z (With 5 q z) last (trip_code t) (last_pass_code slot) holds (nat_lt q (2 ^ 31)) (trip_law w known e t ok k)
    (λ h. last_pass_law w known e q new slot at
    (λ i. sym (one_back q) ∙ sym (value (suc q) (ap passes_of (few_is t (as_integers e)) ∙ passes_value o holds q is h i)))))

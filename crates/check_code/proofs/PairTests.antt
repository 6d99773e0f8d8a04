-- The test of two accesses, by its words and over integers.
use Rattle.std.proofs.Common.{◌≡◌, ℕ, zero, suc, ◌+◌, ◌-◌, ◌*◌, ◌%◌, ◌^◌, ◌<◌, ◌≤◌, refl, sym, subst, ap, ◌∙◌, arith, ℤ, pos, negsuc, ◌-ℤ◌, Option, Bool, true, false, cond, List, [], ◌∷◌, ◌++◌, ◌⊎◌, inl, inr}
use Rattle.std.specs.Prelude.{◌==◌, nat_lt, int_lt, slice_index, map, max, if◌then◌else◌}
use Rattle.std.specs.List.{All}
use Rattle.std.specs.Int.{◌∣◌}
use Rattle.std.specs.Int.RustNames.{unsigned_abs}
use Rattle.std.proofs.lemmas.Int.{ints}
use Rattle.std.proofs.lemmas.List.{append-nil}
use Rattle.std.proofs.lemmas.Bool.Decides.{nat_tests}
use Rattle.std.proofs.lemmas.Nat.Gcd.{dvd_refl, le_of_dvd}
use Rattle.std.proofs.Math.Nat.{mul_comm, eq-zero_of_zero-dvd}
use Rattle.rv64_decode.specs.Row.{alu_imm}
use Rattle.rv64_decode.specs.Area.{bytes_of}
use Rattle.rv64_decode.specs.declared.instr.AluOp.TheVariants.{Sub, Xor}
use Rattle.rv64_decode.specs.declared.instr.ImmOp.TheVariants.{Addi, Srai}
use Rattle.rv64_decode.specs.declared.xinstr.XInstr.{XInstr}
use Rattle.linear_forms.specs.Forms.{LinearForm, IsForm, is_small}
use Rattle.loop_data.specs.declared.accesses.Access.{Access}
use Rattle.loop_data.specs.declared.plans.Term.{Term}
use Rattle.loop_data.specs.declared.plans.Term.TheVariants.{Same, Apart}
use Rattle.dependence_tests.specs.Terms.{stride_in, inner_strides, DividesAll, IsGcdOf, AreShared, AreSized, IsTermOf, IsSized}
use Rattle.dependence_tests.specs.Overlaps.{whole_range}
use Rattle.dependence_tests.specs.PairTests.{span, pair_test}
use Rattle.alias_checks.specs.Entry.{start_value}
use Rattle.alias_checks.specs.AccessTests.{place_of, box_of}
use Rattle.stub_laws.specs.Straight.{read, put}
use Rattle.stub_laws.specs.Places.{behind}
use Rattle.stub_laws.proofs.Steps.{World, Wins, Stands, alike, behind-append}
use Rattle.stub_laws.proofs.Known.{Knows, knows_put, same_number}
use Rattle.stub_laws.proofs.Tests.{State, IsTest, both, same_test, Known, With}
use Rattle.check_numbers.specs.Parts.{bits}
use Rattle.check_numbers.specs.Sums.{IsShort, value_of}
use Rattle.check_numbers.specs.PairWords.{difference, size_word, same_words}
use Rattle.check_numbers.specs.Pairs.{most, IsPairInReach}
use Rattle.check_numbers.proofs.Pairs.{product_most, pair_words}
use Rattle.check_code.specs.Macros.{form_code, span_code, rise_code}
use Rattle.check_code.specs.Rounds.{is_inner, last_from, AreKnown, IsPassKnown, AreRoundsKnown}
use Rattle.check_code.specs.AccessCode.{access_low, access_end}
use Rattle.check_code.specs.MeetCode.{disjoint_code}
use Rattle.check_code.specs.PairCode.{ranges_code, distance_code, passes_code, front_code, four_code, same_code, pair_code}
use Rattle.check_code.proofs.Pieces.{Target, added, three, knows_three, as_three, low_short}
use Rattle.check_code.proofs.Values.{constant_short, start_is}
use Rattle.check_code.proofs.Runs.{spans_law}
use Rattle.check_code.proofs.States.{temps_test, knows_temps, ap2, formed, t5, t6, t7, t28}
use Rattle.check_code.proofs.Extents.{words, terms_known, least_word, end_word, least_signed, end_signed, start_is_word}
use Rattle.check_code.proofs.AccessTests.{access_lowered, access_raised}
use Rattle.check_code.proofs.MeetTests.{Ranges, disjoint_words, disjoint_test, disjoint_is}
use Rattle.check_code.proofs.FourTests.{Front, four_test}

-- the passes of an inner loop are known where the stride there is not 0
abbrev pub ArePassesKnown : (ℕ → Bool) → List ℕ → Type 0
ArePassesKnown known inner =
    (nat_lt 0 (slice_index inner 0) ≡ true → known 56 ≡ true) × (nat_lt 0 (slice_index inner 1) ≡ true → known 57 ≡ true) ×
    (nat_lt 0 (slice_index inner 2) ≡ true → known 58 ≡ true)

-- one size times the last pass, added
abbrev pub one_more : ℕ → ℕ → ℕ → ℕ
one_more n size x = cond (int_lt (pos 0) (pos size)) (added n (pos size) x) n

positive : (size : ℕ) → int_lt (pos 0) (pos size) ≡ nat_lt 0 size
positive size = grind (arith, ints, nat_tests)

one_known : (known : ℕ → Bool) (e f g : ℕ → ℕ) (loc slot n size : ℕ) → (known loc ≡ true → g slot ≡ e loc)
    → (nat_lt 0 size ≡ true → known loc ≡ true) → one_more n size (g slot) ≡ one_more n size (e loc)
one_known known e f g loc slot n size is has = by_test (int_lt (pos 0) (pos size)) refl
  where
    by_test : (t : Bool) → int_lt (pos 0) (pos size) ≡ t → cond t (added n (pos size) (g slot)) n ≡ cond t (added n (pos size) (e loc)) n
    by_test true h = ap (added n (pos size)) (is (has (sym (positive size) ∙ h)))
    by_test false h = refl

-- the words of the passes
abbrev pub span_word : (ℕ → ℕ) → List ℕ → ℕ
span_word e inner = one_more (one_more (one_more 0 (slice_index inner 0) (e 56)) (slice_index inner 1) (e 57)) (slice_index inner 2) (e 58)

span_known : (known : ℕ → Bool) (e f g : ℕ → ℕ) (inner : List ℕ) → Knows known e f g → ArePassesKnown known inner
    → one_more (one_more (one_more 0 (slice_index inner 0) (g 24)) (slice_index inner 1) (g 25)) (slice_index inner 2) (g 26) ≡ span_word e inner
span_known known e f g inner k h =
    let a = slice_index inner 0 in
    let b = slice_index inner 1 in
    let c = slice_index inner 2 in
    ap (λ n. one_more (one_more n b (g 25)) c (g 26)) (one_known known e f g 56 24 0 a (k.each 56) h.0)
    ∙ ap (λ n. one_more n c (g 26)) (one_known known e f g 57 25 (one_more 0 a (e 56)) b (k.each 57) h.1)
    ∙ one_known known e f g 58 26 (one_more (one_more 0 a (e 56)) b (e 57)) c (k.each 58) h.2

-- each size is within the limits
abbrev AllSmall : List ℕ → Type 0
AllSmall [] = Unit {0}
AllSmall (n ∷ ns) = (n < 2 ^ 30) × AllSmall ns

small_is_short : (n : ℕ) → n < 2 ^ 30 → IsShort (pos n)
small_is_short n h = low_short n (omega arith)

-- as integers
bits_small : (n : ℕ) → n < 2 ^ 30 → bits (pos n) ≡ n
bits_small n h = omega (arith, ints)

added_small : (n size x : ℕ) → size < 2 ^ 30 → size * x ≤ most → n ≤ 2 * most → added n (pos size) x ≡ n + size * x
added_small n size x h p q =
    ap (λ b. (n + x * b % 2 ^ 64) % 2 ^ 64) (bits_small size h)
    ∙ ap (λ m. (n + m % 2 ^ 64) % 2 ^ 64) (mul_comm x size)
    ∙ omega (arith, p, q)

one_is : (n size x : ℕ) → size < 2 ^ 30 → x < 2 ^ 31 → n ≤ 2 * most → one_more n size x ≡ n + size * x
one_is n size x h k q = by_test (int_lt (pos 0) (pos size)) refl
  where
    by_test : (t : Bool) → int_lt (pos 0) (pos size) ≡ t → cond t (added n (pos size) x) n ≡ n + size * x
    by_test true y = added_small n size x h (product_most x size k h) q
    by_test false y = let z : size ≡ 0 = grind (arith, ints, nat_tests) in rw z (omega arith)

span_is : (e : ℕ → ℕ) (inner : List ℕ) → slice_index inner 0 < 2 ^ 30 → slice_index inner 1 < 2 ^ 30 → slice_index inner 2 < 2 ^ 30
    → e 56 < 2 ^ 31 → e 57 < 2 ^ 31 → e 58 < 2 ^ 31
    → (span_word e inner ≡ span inner (last_from e)) × (span inner (last_from e) ≤ 3 * most)
span_is e inner a b c x y z =
    let p = product_most (e 56) (slice_index inner 0) x a in
    let q = product_most (e 57) (slice_index inner 1) y b in
    let r = product_most (e 58) (slice_index inner 2) z c in
    let s1 = one_is 0 (slice_index inner 0) (e 56) a x (omega arith) in
    let n1 = slice_index inner 0 * e 56 in
    let s1' : one_more 0 (slice_index inner 0) (e 56) ≡ n1 = s1 ∙ omega arith in
    let s2 = one_is n1 (slice_index inner 1) (e 57) b y (omega (arith, p)) in
    let s3 = one_is (n1 + slice_index inner 1 * e 57) (slice_index inner 2) (e 58) c z (omega (arith, p, q)) in (
      ap (λ n. one_more (one_more n (slice_index inner 1) (e 57)) (slice_index inner 2) (e 58)) s1'
          ∙ ap (λ n. one_more n (slice_index inner 2) (e 58)) s2 ∙ s3 ∙ omega arith,
      omega (arith, p, q, r),
    )

-- accesses of the same shape
module _ (w : World) (known : ℕ → Bool) (e : ℕ → ℕ) where
  distance_test : (a b : ℕ)
      → IsTest w (Known known e) (With 6 b (With 5 a (Known known e))) (Front known e (size_word (difference a b)) 0 (difference a b)) distance_code true
  distance_test a b =
      temps_test w (Known known e) (With 6 b (With 5 a (Known known e)))
      (Front known e (size_word (difference a b)) 0 (difference a b)) distance_code refl (λ f h x.
      record {
        knows = knows_temps known e distance_code f h refl x.1.1;
        five = ap2 (read f 5) a (read f 6) b (λ p q. size_word (difference p q)) x.1.0 x.0;
        six = refl;
        diff = ap2 (read f 5) a (read f 6) b difference x.1.0 x.0;
      })

  passes_test : (d c : ℕ) (inner : List ℕ) → slice_index inner 0 < 2 ^ 30 → slice_index inner 1 < 2 ^ 30 → slice_index inner 2 < 2 ^ 30
      → ArePassesKnown known inner
      → IsTest w (Known known e) (Front known e d 0 c) (Front known e d (span_word e inner) c) (passes_code inner) true
  passes_test d c inner la lb lc has = record {
    by = λ p f g x there on off.
        let i = slice_index inner 0 in
        let j = slice_index inner 1 in
        let k = slice_index inner 2 in
        let c1 = rise_code 6 (pos i) 24 in
        let c2 = rise_code 6 (pos j) 25 in
        let c3 = rise_code 6 (pos k) 26 in
        let n = one_more (one_more (one_more 0 i (g 24)) j (g 25)) k (g 26) in
        let place : behind (behind (behind p c1) c2) c3 ≡ behind p (passes_code inner) = sym
        (behind-append p c1 (c2 ++ c3) ∙ behind-append (behind p c1) c2 c3) in
        as_three w p f g 6 (subst (λ m. Wins w p (three f 6 (f 30) (f 31) m) g) (sym x.six)
        (spans_law w f g 6 t6 (pos i) (pos j) (pos k) 24 25 26 (int_lt (pos 0) (pos i)) (int_lt (pos 0) (pos j)) (int_lt (pos 0) (pos k)) [] p (f 30) (f 31) 0 (small_is_short i la) (small_is_short j lb) (small_is_short k lc)
        (subst (λ l. Stands w p (c1 ++ (c2 ++ l))) (sym (append-nil c3)) there)
        (λ a' b' u. subst (λ m. Wins w (behind (behind (behind p c1) c2) c3) (three f 6 a' b' m) g) (sym (span_known known e f g inner x.knows has))
        (subst (λ q. Wins w q (three f 6 a' b' (span_word e inner)) g) (sym place)
        (on refl _ _ (record { knows = knows_three known e f g 6 a' b' _ t6 x.knows; five = x.five; six = refl; diff = x.diff }))))));
  }

  same_in_words : (f g : LinearForm) (root : ℕ) (inner : List ℕ) (lanes residue width : ℕ) → known 55 ≡ true → IsForm f → IsForm g
      → AreKnown known f.terms → AreKnown known g.terms
      → slice_index inner 0 < 2 ^ 30 → slice_index inner 1 < 2 ^ 30 → slice_index inner 2 < 2 ^ 30 → ArePassesKnown known inner
      → root < 2 ^ 31 → lanes < 2 ^ 31 → residue < 2 ^ 31
      → (let a = value_of e f.constant f.terms in let b = value_of e g.constant g.terms in
      IsTest w (Known known e) (Known known e) (Known known e) (same_code f g root inner lanes residue width)
      (same_words (nat_lt 0 lanes) (nat_lt 0 residue) (difference a b) (size_word (difference a b)) (e 55) root (span_word e inner) lanes residue (pos width)))
  same_in_words f g root inner lanes residue width turns fine fine' ok ok' la lb lc has low_root low_lanes low_residue =
      let z = Known known e in
      let a = value_of e f.constant f.terms in
      let b = value_of e g.constant g.terms in
      let c = difference a b in
      let d = size_word c in
      let s = span_word e inner in
      let s1 = With 5 a z in
      let s2 = With 6 b s1 in
      let last = four_code (nat_lt 0 lanes) (nat_lt 0 residue) root lanes residue width in
      let t = same_words (nat_lt 0 lanes) (nat_lt 0 residue) c d (e 55) root s lanes residue (pos width) in
      let ready = Front known e d s c in
      both w z z ready z (front_code f g inner) last true t
      (both w z z s1 ready (form_code 5 f) (form_code 6 g ++ (distance_code ++ passes_code inner)) true true
      (formed w known e 5 t5 f.constant f.terms z s1 (constant_short f.constant fine.bounded.constant) (terms_known known f fine ok) (λ f g x. x) (λ f g p q x. (refl, knows_three known e f g 5 p q _ t5 x)))
      (λ h. both w z s1 s2 ready (form_code 6 g) (distance_code ++ passes_code inner) true true
      (formed w known e 6 t6 g.constant g.terms s1 s2 (constant_short g.constant fine'.bounded.constant) (terms_known known g fine' ok') (λ f g x. x.1) (λ f g p q x. (refl, (x.0, knows_three known e f g 6 p q _ t6 x.1))))
      (λ h. both w z s2 (Front known e d 0 c) ready distance_code (passes_code inner) true true (distance_test a b) (λ h. passes_test d c inner la lb lc has))))
      (λ h. four_test w known e turns d s c (nat_lt 0 lanes) (nat_lt 0 residue) root lanes residue width low_root low_lanes low_residue)

  -- accesses of different shape
  ranges_test : (a b : Access) → IsForm a.form → IsForm b.form → AreRoundsKnown known a.form a.around → AreRoundsKnown known b.form b.around
      → IsTest w (Known known e) (Known known e) (Known known e) (ranges_code a b)
      (disjoint_words (least_word e a.form a.around) (end_word e a.form a.around (bytes_of a.width)) (least_word e b.form b.around) (end_word e b.form b.around (bytes_of b.width)))
  ranges_test a b fine fine' has has' =
      let z = Known known e in
      let la = least_word e a.form a.around in
      let ha = end_word e a.form a.around (bytes_of a.width) in
      let lb = least_word e b.form b.around in
      let hb = end_word e b.form b.around (bytes_of b.width) in
      let t = disjoint_words la ha lb hb in
      let s1 = With 5 la z in
      let s2 = With 6 ha s1 in
      let s3 = With 7 lb s2 in
      let last = Ranges known e la ha lb hb in
      let c3 = access_end 28 b ++ disjoint_code in
      let c2 = access_low 7 b ++ c3 in
      let c1 = access_end 6 a ++ c2 in
      both w z z s1 z (access_low 5 a) c1 true t
      (access_lowered w known e 5 t5 a z fine has (λ f g x. x) s1 (λ f g p q x. (refl, knows_three known e f g 5 p q _ t5 x)))
      (λ h. both w z s1 s2 z (access_end 6 a) c2 true t
      (access_raised w known e 6 t6 a s1 fine has (λ f g x. x.1) s2 (λ f g p q m x. (refl, (x.0, knows_put known e (three f 6 p q m) g 6 _ t6.temporary (knows_three known e f g 6 p q m t6 x.1)))))
      (λ h. both w z s2 s3 z (access_low 7 b) c3 true t
      (access_lowered w known e 7 t7 b s2 fine' has' (λ f g x. x.1.1) s3 (λ f g p q x. (refl, (x.0, (x.1.0, knows_three known e f g 7 p q _ t7 x.1.1)))))
      (λ h. both w z s3 last z (access_end 28 b) disjoint_code true t
      (access_raised w known e 28 t28 b s3 fine' has' (λ f g x. x.1.1.1) last (λ f g p q m x. record {
        knows = knows_put known e (three f 28 p q m) g 28 _ t28.temporary (knows_three known e f g 28 p q m t28 x.1.1.1);
        five = x.1.1.0;
        six = x.1.0;
        seven = x.0;
        last = refl;
      }))
      (λ h. disjoint_test w known e la ha lb hb))))

-- a divisor of sizes within the limits is within them, or 0
some_size : (g : ℕ) (ns : List ℕ) → DividesAll g ns → AllSmall ns → (g < 2 ^ 30) ⊎ DividesAll 0 ns
some_size g [] d h = inr tt
some_size g (zero ∷ ns) d h = next (some_size g ns d.1 h.1)
  where
    next : (g < 2 ^ 30) ⊎ DividesAll 0 ns → (g < 2 ^ 30) ⊎ ((0 ∣ 0) × DividesAll 0 ns)
    next (inl x) = inl x
    next (inr y) = inr (dvd_refl 0, y)
some_size g (suc n ∷ ns) d h = let l = le_of_dvd (omega arith) d.0 in let k = h.0 in inl (omega (arith, l, k))

divisor_small : (g : ℕ) (ns : List ℕ) → IsGcdOf ns g → AllSmall ns → g < 2 ^ 30
divisor_small g ns d h = by_size (some_size g ns d.divides h)
  where
    by_size : (g < 2 ^ 30) ⊎ DividesAll 0 ns → g < 2 ^ 30
    by_size (inl x) = x
    by_size (inr y) = let z = eq-zero_of_zero-dvd (d.greatest 0 y) in omega (arith, z)

-- the passes that a shape needs are those of loops round its accesses
pub pass_known : (known : ℕ → Bool) (a : Access) (place : ℕ) → AreRoundsKnown known a.form a.around → is_inner place ≡ true
    → nat_lt 0 (unsigned_abs (stride_in a place)) ≡ true → known (55 + place) ≡ true
pass_known known a place has inner moves = by_first (slice_index a.around 1 == place) refl moves
  where
    by_second : (t : Bool) → (slice_index a.around 2 == place) ≡ t → nat_lt 0 (unsigned_abs (cond t a.form.third (pos 0))) ≡ true
        → known (55 + place) ≡ true
    by_second true e m = let s = same_number _ place e in subst (λ n. known (55 + n) ≡ true) s (has.third (ap is_inner s ∙ inner))
    by_second false e m = absurd (cc)

    by_first : (t : Bool) → (slice_index a.around 1 == place) ≡ t
        → nat_lt 0 (unsigned_abs (cond t a.form.second (cond (slice_index a.around 2 == place) a.form.third (pos 0)))) ≡ true
        → known (55 + place) ≡ true
    by_first true e m = let s = same_number _ place e in subst (λ n. known (55 + n) ≡ true) s (has.second (ap is_inner s ∙ inner))
    by_first false e m = by_second (slice_index a.around 2 == place) refl m

passes_known : (known : ℕ → Bool) (a : Access) → AreRoundsKnown known a.form a.around
    → ArePassesKnown known (map unsigned_abs (inner_strides a))
passes_known known a has =
    (λ m. pass_known known a 1 has refl m, λ m. pass_known known a 2 has refl m, λ m. pass_known known a 3 has refl m)

-- what a term of the same shape has
pub record IsSame (known : ℕ → Bool) (root : ℕ) (inner : List ℕ) (lanes residue width : ℕ) : Type 0 where
  pub first : slice_index inner 0 < 2 ^ 30
  pub second : slice_index inner 1 < 2 ^ 30
  pub third : slice_index inner 2 < 2 ^ 30
  pub passes : ArePassesKnown known inner
  pub small_root : root < 2 ^ 30
  pub small_lanes : lanes < 2 ^ 30
  pub small_residue : residue < 2 ^ 30
  pub narrow : width ≤ 8

shared_is : (known : ℕ → Bool) (a b : Access) (root : ℕ) (inner : List ℕ) (lanes residue width : ℕ) (c : Option ℤ)
    → AreRoundsKnown known a.form a.around → AreShared a b root inner lanes residue width c → AreSized root inner width
    → IsSame known root inner lanes residue width
shared_is known a b root inner lanes residue width c has h sized =
    let all : All (λ n. n < 2 ^ 30) (map unsigned_abs (inner_strides a)) = subst (All (λ n. n < 2 ^ 30)) h.inner sized.inner in
    let x = all 0 0 (omega arith) in
    let y = all 1 0 (omega arith) in
    let z = all 2 0 (omega arith) in
    let r : unsigned_abs a.form.first < 2 ^ 30 = subst (λ n. n < 2 ^ 30) h.root sized.root in
    record {
      first = subst (λ l. slice_index l 0 < 2 ^ 30) (sym h.inner) x;
      second = subst (λ l. slice_index l 1 < 2 ^ 30) (sym h.inner) y;
      third = subst (λ l. slice_index l 2 < 2 ^ 30) (sym h.inner) z;
      passes = subst (ArePassesKnown known) (sym h.inner) (passes_known known a has);
      small_root = sized.root;
      small_lanes = divisor_small lanes _ h.lanes (x, (y, (z, tt)));
      small_residue = divisor_small residue _ h.residue (r, (x, (y, (z, tt))));
      narrow = sized.width;
    }

-- the divisors of a term are within the limits
pub divisors_small : (a b : Access) (t : Term) (root : ℕ) (inner : List ℕ) (lanes residue width : ℕ) (c : Option ℤ)
    → t ≡ Same root inner lanes residue width c → IsTermOf a b t → IsSized t → (lanes < 2 ^ 30) × (residue < 2 ^ 30)
divisors_small a b t root inner lanes residue width c e is sized = limits (subst (IsTermOf a b) e is) (subst IsSized e sized)
  where
    limits : AreShared a b root inner lanes residue width c → AreSized root inner width → (lanes < 2 ^ 30) × (residue < 2 ^ 30)
    limits h sized =
        let all : All (λ n. n < 2 ^ 30) (map unsigned_abs (inner_strides a)) = subst (All (λ n. n < 2 ^ 30)) h.inner sized.inner in
        let x = all 0 0 (omega arith) in
        let y = all 1 0 (omega arith) in
        let z = all 2 0 (omega arith) in
        let r : unsigned_abs a.form.first < 2 ^ 30 = subst (λ n. n < 2 ^ 30) h.root sized.root in
        (divisor_small lanes _ h.lanes (x, (y, (z, tt))), divisor_small residue _ h.residue (r, (x, (y, (z, tt)))))

each_low : (e : ℕ → ℕ) → All (λ n. n < 2 ^ 31) (last_from e) → (e 55 < 2 ^ 31) × (e 56 < 2 ^ 31) × (e 57 < 2 ^ 31) × (e 58 < 2 ^ 31)
each_low e h = (h 0 0 (omega arith), h 1 0 (omega arith), h 2 0 (omega arith), h 3 0 (omega arith))

same_is : (known : ℕ → Bool) (e : ℕ → ℕ) (a b : Access) (root : ℕ) (inner : List ℕ) (lanes residue width : ℕ) (c : Option ℤ) → IsForm a.form
    → IsForm b.form → IsSame known root inner lanes residue width → All (λ n. n < 2 ^ 31) (last_from e)
    → start_value a.form (words e) < 2 ^ 31 → start_value b.form (words e) < 2 ^ 31
    → (let x = value_of e a.form.constant a.form.terms in let y = value_of e b.form.constant b.form.terms in
    same_words (nat_lt 0 lanes) (nat_lt 0 residue) (difference x y) (size_word (difference x y)) (e 55) root
    (span_word e inner) lanes residue (pos width)
    ≡ pair_test (Same root inner lanes residue width c)
    (box_of (last_from e) (place_of (words e) (last_from e) a) (place_of (words e) (last_from e) b)))
unfolding place_of
same_is known e a b root inner lanes residue width c fine fine' ok lasts low low' =
    let l = each_low e lasts in
    let s = span_is e inner ok.first ok.second ok.third l.1 l.2 l.3 in
    let u = start_value a.form (words e) in
    let v = start_value b.form (words e) in
    let xs : value_of e a.form.constant a.form.terms ≡ u = start_is e a.form fine ∙ sym (start_is_word e a.form) in
    let ys : value_of e b.form.constant b.form.terms ≡ v = start_is e b.form fine' ∙ sym (start_is_word e b.form) in
    let t : ℕ → Bool = λ n. same_words (nat_lt 0 lanes) (nat_lt 0 residue) n (size_word n) (e 55) root (span_word e inner) lanes residue
    (pos width) in
    ap2 _ u _ v (λ x y. t (difference x y)) xs ys
    ∙ ap (λ n. same_words (nat_lt 0 lanes) (nat_lt 0 residue) (difference u v) (size_word (difference u v)) (e 55) root n lanes residue (pos width)) s.0
    ∙ pair_words root lanes residue width u v inner c
    (box_of (last_from e) (place_of (words e) (last_from e) a) (place_of (words e) (last_from e) b)) (record {
      difference = refl;
      first = low;
      second = low';
      small_root = ok.small_root;
      small_lanes = ok.small_lanes;
      small_residue = ok.small_residue;
      narrow = ok.narrow;
      turns = l.0;
      spans = s.1;
    })

apart_is : (e : ℕ → ℕ) (a b : Access) → IsForm a.form → IsForm b.form → All (λ n. n < 2 ^ 31) (last_from e)
    → start_value a.form (words e) < 2 ^ 31 → start_value b.form (words e) < 2 ^ 31
    → disjoint_words (least_word e a.form a.around) (end_word e a.form a.around (bytes_of a.width)) (least_word e b.form b.around) (end_word e b.form b.around (bytes_of b.width))
    ≡ pair_test Apart (box_of (last_from e) (place_of (words e) (last_from e) a) (place_of (words e) (last_from e) b))
unfolding place_of
apart_is e a b fine fine' lasts low low' =
    disjoint_is _ _ _ _ (whole_range a (pos (start_value a.form (words e))) (last_from e))
    (whole_range b (pos (start_value b.form (words e))) (last_from e))
    (least_signed e a fine lasts low) (end_signed e a fine lasts low) (least_signed e b fine' lasts low') (end_signed e b fine' lasts low')

-- the words of two accesses go on where they are told apart, and to the open target where they are not
pub pair_law : (w : World) (known : ℕ → Bool) (e : ℕ → ℕ) (a b : Access) (t : Term) → IsForm a.form → IsForm b.form
    → AreRoundsKnown known a.form a.around → AreRoundsKnown known b.form b.around → IsTermOf a b t → IsSized t
    → All (λ n. n < 2 ^ 31) (last_from e) → start_value a.form (words e) < 2 ^ 31 → start_value b.form (words e) < 2 ^ 31
    → IsTest w (Known known e) (Known known e) (Known known e) (pair_code a b t) (pair_test t (box_of (last_from e) (place_of (words e) (last_from e) a) (place_of (words e) (last_from e) b)))
pair_law w known e a b (Same root inner lanes residue width c) fine fine' has has' term sized lasts low low' =
    let ok = shared_is known a b root inner lanes residue width c has term sized in
    let r = ok.small_root in
    let l = ok.small_lanes in
    let g = ok.small_residue in
    same_test w (Known known e) (Known known e) (Known known e) (pair_code a b (Same root inner lanes residue width c)) _ _
    (same_is known e a b root inner lanes residue width c fine fine' ok lasts low low')
    (same_in_words w known e a.form b.form root inner lanes residue width has.root fine fine' has.terms has'.terms ok.first ok.second ok.third ok.passes (omega (arith, r)) (omega (arith, l)) (omega (arith, g)))
pair_law w known e a b Apart fine fine' has has' term sized lasts low low' =
    same_test w (Known known e) (Known known e) (Known known e) (ranges_code a b) _ _ (apart_is e a b fine fine' lasts low low')
    (ranges_test w known e a b fine fine' has has')

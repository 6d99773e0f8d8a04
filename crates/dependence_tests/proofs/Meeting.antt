-- Where the test holds, accesses of different turns have no byte in common.
use Rattle.std.proofs.Common.{◌≡◌, ◌≢◌, ℕ, zero, suc, ◌*◌, ◌<◌, ◌≤◌, ◌==◌, max, if◌then◌else◌, Bool, true, false, not, ◌||◌, List, Option, refl, ap, sym, ◌∙◌, subst, arith, slice_index, slice_index_or, int_lt, pos, negsuc, ℤ, ◌+ℤ◌, ◌-ℤ◌, ◌*ℤ◌, ◌≤ℤ◌, ◌<ℤ◌}
use Rattle.std.proofs.lemmas.Int.{ints}
use Rattle.std.proofs.lemmas.Bool.Decides.{nat_tests}
use Rattle.std.proofs.Math.Nat.{mul-le-mul_left}
use Rattle.std.specs.Int.RustNames.{unsigned_abs}
use Rattle.rv64_decode.specs.Area.{bytes_of}
use Rattle.linear_forms.specs.Extremes.{least, most}
use Rattle.loop_data.specs.declared.accesses.Access.{Access}
use Rattle.loop_data.specs.declared.plans.Term.{Term}
use Rattle.loop_data.specs.declared.plans.Term.TheVariants.{Same, Apart}
use Rattle.dependence_tests.specs.declared.pairs.PairBox.{PairBox}
use Rattle.dependence_tests.specs.Terms.{stride_in, inner_strides, AreShared, IsTermOf}
use Rattle.dependence_tests.specs.PairTests.{pair_test, are_disjoint}
use Rattle.dependence_tests.specs.Overlaps.{last_pass, last_round, IsPlaced, AreTurns, address_in, Overlap, whole_range, IsBoxOf}
use Rattle.dependence_tests.proofs.Sizes.{times_minus}
use Rattle.dependence_tests.proofs.Steps.{shift, tested, Divisors, Passes, test_apart}

-- the pass number of the inner loop at a place, if it is round the access
abbrev pub pass_in : Access → (ℕ → ℕ) → ℕ → ℕ
pass_in a t place =
    if slice_index a.around 1 == place then t 1 else if slice_index a.around 2 == place then t 2 else 0

abbrev pub part : ℕ → ℕ → ℤ → ℤ
part x place z = if x == place then z else pos 0

joined : (b c : Bool) (p q : ℤ) (m n : ℕ) → (b ≡ true → c ≡ true → ⊥)
    → (if b then p else if c then q else pos 0) *ℤ pos (if b then m else if c then n else 0)
    ≡ (if b then p *ℤ pos m else pos 0) +ℤ (if c then q *ℤ pos n else pos 0)
joined true true p q m n h = absurd (h refl refl)
joined true false p q m n h = omega (arith, ints)
joined false true p q m n h = omega (arith, ints)
joined false false p q m n h = omega (arith, ints)

once : (x : ℕ) (z : ℤ) → x < 4 → (x ≡ 0 → z ≡ pos 0)
    → part x 1 z +ℤ (part x 2 z +ℤ part x 3 z) ≡ z
once zero z l h = let e = h refl in omega (arith, ints)
once (suc zero) z l h = omega (arith, ints)
once (suc (suc zero)) z l h = omega (arith, ints)
once (suc (suc (suc zero))) z l h = omega (arith, ints)
once (suc (suc (suc (suc x)))) z l h = absurd (omega arith)

both : (x y l : ℕ) → 1 ≤ l → (x ≡ y → x ≡ 0) → (x == l) ≡ true → (y == l) ≡ true → ⊥
both x y l h e p q =
    let a : x ≡ l = grind (arith, nat_tests) in
    let b : y ≡ l = grind (arith, nat_tests) in
    let f = e (a ∙ sym b) in
    omega arith

-- where there is no loop a stride moves nothing
nothing : (s : ℤ) (n : ℕ) (last : List ℕ) (x : ℕ) → n ≤ last_pass last x → x ≡ 0 → s *ℤ pos n ≡ pos 0
nothing s n last zero h e = let q : n ≡ 0 = omega arith in ap (λ z. s *ℤ pos z) q ∙ no_times s
  where
    no_times : (z : ℤ) → z *ℤ pos 0 ≡ pos 0
    no_times z = omega (arith, ints)
nothing s n last (suc x) h e = absurd (omega arith)

-- the shift by the strides of the inner loops is that by the form's strides
inner_shift : (a : Access) (last : List ℕ) (i : ℕ) (t : ℕ → ℕ) → IsPlaced a → AreTurns a last i t
    → shift (stride_in a 1) (stride_in a 2) (stride_in a 3) (pass_in a t 1) (pass_in a t 2) (pass_in a t 3)
    ≡ a.form.second *ℤ pos (t 1) +ℤ a.form.third *ℤ pos (t 2)
inner_shift a last i t p r =
    let x = slice_index a.around 1 in
    let y = slice_index a.around 2 in
    let d = joined (x == 1) (y == 1) a.form.second a.form.third (t 1) (t 2) (both x y 1 (omega arith) p.apart) in
    let e = joined (x == 2) (y == 2) a.form.second a.form.third (t 1) (t 2) (both x y 2 (omega arith) p.apart) in
    let f = joined (x == 3) (y == 3) a.form.second a.form.third (t 1) (t 2) (both x y 3 (omega arith) p.apart) in
    let g = once x (a.form.second *ℤ pos (t 1)) p.second (λ z. nothing a.form.second (t 1) last x r.second z) in
    let h = once y (a.form.third *ℤ pos (t 2)) p.third (λ z. nothing a.form.third (t 2) last y r.third z) in
    let u = a.form.second *ℤ pos (t 1) in
    let v = a.form.third *ℤ pos (t 2) in
    summed _ _ _ (part x 1 u) (part x 2 u) (part x 3 u) (part y 1 v) (part y 2 v) (part y 3 v) u v d e f g h
  where
    summed : (p q r a b c d e f m n : ℤ) → p ≡ a +ℤ d → q ≡ b +ℤ e → r ≡ c +ℤ f → a +ℤ (b +ℤ c) ≡ m → d +ℤ (e +ℤ f) ≡ n → p +ℤ (q +ℤ r) ≡ m +ℤ n
    summed p q r a b c d e f m n u v w x y = omega (arith, ints)

bounded : (x y l m n : ℕ) (last : List ℕ) → m ≤ last_pass last x → n ≤ last_pass last y
    → (if x == suc l then m else if y == suc l then n else 0) ≤ slice_index last (suc l)
bounded x y l m n last p q = go (x == suc l) (y == suc l) refl refl
  where
    go : (b c : Bool) → (x == suc l) ≡ b → (y == suc l) ≡ c → (if b then m else if c then n else 0) ≤ slice_index last (suc l)
    go true c e f = let a : x ≡ suc l = grind (arith, nat_tests) in subst (λ z. m ≤ last_pass last z) a p
    go false true e f = let a : y ≡ suc l = grind (arith, nat_tests) in subst (λ z. n ≤ last_pass last z) a q
    go false false e f = omega arith

passes_of : (a : Access) (last : List ℕ) (i : ℕ) (t : ℕ → ℕ) → AreTurns a last i t
    → Passes (slice_index last 1) (slice_index last 2) (slice_index last 3) (pass_in a t 1) (pass_in a t 2) (pass_in a t 3)
passes_of a last i t u =
    let x = slice_index a.around 1 in
    let y = slice_index a.around 2 in
    record {
      first = bounded x y 0 (t 1) (t 2) last u.second u.third;
      second = bounded x y 1 (t 1) (t 2) last u.second u.third;
      third = bounded x y 2 (t 1) (t 2) last u.second u.third;
    }

-- two accesses that have a byte in common are less than a width away from each other
meet : (x y byte pa pb mi mj md sa sb dif : ℤ) (wa wb w : ℕ) → pa ≡ x +ℤ (mi +ℤ sa) → pb ≡ y +ℤ (mj +ℤ sb) → md ≡ mj -ℤ mi
    → pa ≤ℤ byte → byte <ℤ (pa +ℤ pos wa) → pb ≤ℤ byte → byte <ℤ (pb +ℤ pos wb) → dif ≡ y -ℤ x → w ≡ max wa wb
    → w ≤ unsigned_abs (dif +ℤ (md +ℤ (sb -ℤ sa))) → ⊥
meet x y byte pa pb mi mj md sa sb dif wa wb w ea eb em la ha lb hb ed ew h = omega (arith, ints)

-- the strides of one access with the passes of the other
other_shift : (a b : Access) (k l m : ℕ) → inner_strides a ≡ inner_strides b
    → shift (stride_in a 1) (stride_in a 2) (stride_in a 3) k l m ≡ shift (stride_in b 1) (stride_in b 2) (stride_in b 3) k l m
other_shift a b k l m e =
    ap (λ xs. shift (slice_index_or xs 0 (pos 0)) (slice_index_or xs 1 (pos 0)) (slice_index_or xs 2 (pos 0)) k l m) e

same_apart : (a b : Access) (r : ℕ) (ss : List ℕ) (g h w : ℕ) (c : Option ℤ) (at : PairBox) (x y : ℤ) → IsPlaced a → IsPlaced b → AreShared a b r ss g h w c → IsBoxOf a b x y at
    → pair_test (Same r ss g h w c) at ≡ true → (i j : ℕ) → i ≤ slice_index at.last 0 → j ≤ slice_index at.last 0 → i ≢ j → Overlap a b x y at.last i j → ⊥
same_apart a b r ss g h w c at x y pa pb k box e i j li lj ne o =
    let ta = o.of_first.turns in
    let tb = o.of_second.turns in
    let m = a.form.first in
    let f : tested m (stride_in a 1) (stride_in a 2) (stride_in a 3) (slice_index at.last 0) (slice_index at.last 1) (slice_index at.last 2) (slice_index at.last 3) g h w at.difference ≡ true =
    subst (λ z. pair_test (Same (unsigned_abs m) z g h w c) at ≡ true) k.inner (subst (λ z. pair_test (Same z ss g h w c) at ≡ true) k.root e) in
    let d : Divisors m (stride_in a 1) (stride_in a 2) (stride_in a 3) g h = record { inner = k.lanes.divides; all = k.residue.divides } in
    let q = test_apart m (stride_in a 1) (stride_in a 2) (stride_in a 3) (slice_index at.last 0) (slice_index at.last 1) (slice_index at.last 2) (slice_index at.last 3) g h w at.difference i j
    (pass_in a ta 1) (pass_in a ta 2) (pass_in a ta 3) (pass_in b tb 1) (pass_in b tb 2) (pass_in b tb 3) d f li lj ne (passes_of a at.last i ta o.of_first.are) (passes_of b at.last j tb o.of_second.are) in
    let sa = inner_shift a at.last i ta pa o.of_first.are in
    let sb = other_shift a b (pass_in b tb 1) (pass_in b tb 2) (pass_in b tb 3) k.shape.inner ∙ inner_shift b at.last j tb pb o.of_second.are in
    meet x y o.byte (address_in a.form x ta) (address_in b.form y tb) (m *ℤ pos i) (m *ℤ pos j) (m *ℤ (pos j -ℤ pos i))
    (shift (stride_in a 1) (stride_in a 2) (stride_in a 3) (pass_in a ta 1) (pass_in a ta 2) (pass_in a ta 3))
    (shift (stride_in a 1) (stride_in a 2) (stride_in a 3) (pass_in b tb 1) (pass_in b tb 2) (pass_in b tb 3)) at.difference
    (bytes_of a.width) (bytes_of b.width) w
    (ap (λ z. x +ℤ (m *ℤ pos z +ℤ (a.form.second *ℤ pos (ta 1) +ℤ a.form.third *ℤ pos (ta 2)))) o.of_first.are.root ∙ ap (λ z. x +ℤ (m *ℤ pos i +ℤ z)) (sym sa))
    (ap (λ z. y +ℤ (b.form.first *ℤ pos z +ℤ (b.form.second *ℤ pos (tb 1) +ℤ b.form.third *ℤ pos (tb 2)))) o.of_second.are.root
    ∙ ap (λ z. y +ℤ (z *ℤ pos j +ℤ (b.form.second *ℤ pos (tb 1) +ℤ b.form.third *ℤ pos (tb 2)))) (sym k.shape.root)
    ∙ ap (λ z. y +ℤ (m *ℤ pos j +ℤ z)) (sym sb))
    (times_minus m (pos i) (pos j)) o.of_first.low o.of_first.high o.of_second.low o.of_second.high box.difference k.width q

-- a stride's part of a shift lies between its parts of the least and the greatest
low_high : (s : ℤ) (t n : ℕ) → t ≤ n → (least s n ≤ℤ (s *ℤ pos t)) × ((s *ℤ pos t) ≤ℤ most s n)
low_high (pos m) t n h = let q : m * t ≤ m * n = mul-le-mul_left m h in (omega (arith, ints), omega (arith, ints))
low_high (negsuc m) t n h =
    let q : suc m * t ≤ suc m * n = mul-le-mul_left (suc m) h in (omega (arith, ints), omega (arith, ints))

in_range : (a : Access) (base : ℤ) (last : List ℕ) (i : ℕ) (t : ℕ → ℕ) → AreTurns a last i t → i ≤ slice_index last 0
    → ((whole_range a base last).0 ≤ℤ address_in a.form base t) × ((address_in a.form base t +ℤ pos (bytes_of a.width)) ≤ℤ (whole_range a base last).1)
in_range a base last i t u l =
    let r : t 0 ≤ last_round a last 0 = subst (λ z. z ≤ slice_index last 0) (sym u.root) l in
    let d = low_high a.form.first (t 0) (last_round a last 0) r in
    let e = low_high a.form.second (t 1) (last_round a last 1) u.second in
    let f = low_high a.form.third (t 2) (last_round a last 2) u.third in
    let d0 = d.0 in
    let d1 = d.1 in
    let e0 = e.0 in
    let e1 = e.1 in
    let f0 = f.0 in
    let f1 = f.1 in
    (omega (arith, ints), omega (arith, ints))

disjoint_is : (p q : ℤ × ℤ) (z : ℤ) (la lb ha hb : ℤ) → are_disjoint p q ≡ true → p.0 ≤ℤ la → ha ≤ℤ p.1 → q.0 ≤ℤ lb → hb ≤ℤ q.1
    → la ≤ℤ z → z <ℤ ha → lb ≤ℤ z → z <ℤ hb → ⊥
disjoint_is p q z la lb ha hb e p0 p1 q0 q1 z0 z1 z2 z3 = go (int_lt q.0 p.1) (int_lt p.0 q.1) refl refl e
  where
    go : (b c : Bool) → int_lt q.0 p.1 ≡ b → int_lt p.0 q.1 ≡ c → (not b || not c) ≡ true → ⊥
    go true true f g h = absurd (cc)
    go true false f g h = let o : q.1 ≤ℤ p.0 = grind (arith, ints) in omega (arith, ints)
    go false c f g h = let o : p.1 ≤ℤ q.0 = grind (arith, ints) in omega (arith, ints)

range_apart : (a b : Access) (at : PairBox) (x y : ℤ) → IsBoxOf a b x y at
    → pair_test Apart at ≡ true → (i j : ℕ) → i ≤ slice_index at.last 0 → j ≤ slice_index at.last 0 → Overlap a b x y at.last i j → ⊥
range_apart a b at x y box e i j li lj o =
    let u = in_range a x at.last i o.of_first.turns o.of_first.are li in
    let v = in_range b y at.last j o.of_second.turns o.of_second.are lj in
    disjoint_is (whole_range a x at.last) (whole_range b y at.last) o.byte _ _ _ _
    (subst (λ z. are_disjoint z (whole_range b y at.last) ≡ true) box.first (subst (λ z. are_disjoint at.first z ≡ true) box.second e))
    u.0 u.1 v.0 v.1 o.of_first.low o.of_first.high o.of_second.low o.of_second.high

pub pairs_apart : (a b : Access) (term : Term) (at : PairBox) (x y : ℤ) → IsPlaced a → IsPlaced b → IsTermOf a b term → IsBoxOf a b x y at → pair_test term at ≡ true
    → (i j : ℕ) → i ≤ slice_index at.last 0 → j ≤ slice_index at.last 0 → i ≢ j → Overlap a b x y at.last i j → ⊥
pairs_apart a b (Same r ss g h w c) at x y pa pb k box e i j li lj ne o = same_apart a b r ss g h w c at x y pa pb k box e i j li lj ne o
pairs_apart a b Apart at x y pa pb k box e i j li lj ne o = range_apart a b at x y box e i j li lj o

-- The words of a trip are the number of turns that it tells.
use Rattle.std.proofs.Common.{◌≡◌, ℕ, zero, suc, ◌+◌, ◌-◌, ◌*◌, ◌/◌, ◌%◌, ◌^◌, ◌<◌, ◌≤◌, refl, sym, ap, ◌∙◌, arith, ℤ, pos, negsuc, Option, Some, None, Bool, true, false, ◌⊎◌, inl, inr}
use Rattle.std.specs.Prelude.{◌+ℤ◌, ◌-ℤ◌, ◌*ℤ◌, ◌==◌, not, int_lt, nat_lt, if◌then◌else◌}
use Rattle.std.specs.Int.{w64, cast_signed, int_rem_euclid}
use Rattle.std.specs.Int.RustNames.{unsigned_abs}
use Rattle.std.proofs.lemmas.Int.{ints}
use Rattle.std.proofs.lemmas.Bool.Decides.{nat_tests}
use Rattle.std.proofs.lemmas.Bool.{cases_lt}
use Rattle.std.proofs.lemmas.Nat.{mul-mod_first}
use Rattle.std.proofs.Math.Nat.{div-le_self}
use Rattle.rv64_decode.specs.Row.{alu, alu_imm}
use Rattle.rv64_decode.specs.declared.instr.AluOp.TheVariants.{Sub, Divu}
use Rattle.rv64_decode.specs.declared.instr.ImmOp.TheVariants.{Addi}
use Rattle.linear_forms.specs.Forms.{Alike, word_of}
use Rattle.linear_forms.proofs.Sums.{alike_from, alike_trans, alike_add, word_is, word_alike, word_below}
use Rattle.loop_data.specs.declared.trips.Relation.{Relation}
use Rattle.loop_data.specs.declared.trips.Relation.TheVariants.{Differ, Less, AtMost, More, AtLeast}
use Rattle.loop_data.specs.Trips.{approaches, reading, number}
use Rattle.check_numbers.specs.TripWords.{IsOrder, is_strict, is_up, less_one, leaves, gap_word, end_word, stays_word, trip_word, trip_holds}
use Rattle.check_numbers.proofs.Words.{signed_low, signed_high}

-- x ends the relation with b: < and <= where the step is up, > and >= where it is down
abbrev ends : Bool → Bool → ℤ → ℤ → Bool
ends true true x b = not (int_lt x b)
ends false true x b = int_lt b x
ends true false x b = not (int_lt b x)
ends false false x b = int_lt x b

abbrev gap_of : Bool → ℤ → ℤ → ℤ
gap_of true a b = b -ℤ a
gap_of false a b = a -ℤ b

abbrev one_if : Bool → ℕ
one_if true = 1
one_if false = 0

abbrev stays_of : Bool → Bool → ℤ → ℤ → ℕ → ℕ
stays_of strict up a b size = (unsigned_abs (gap_of up a b) - one_if strict) / size + 1

-- modulo 2 ^ 64
abbrev wrapped : ℤ → ℕ
wrapped z = unsigned_abs (int_rem_euclid z (pos (2 ^ 64)))

-- the value at turn n, wrapped to 64 bits
abbrev value_at : Bool → ℕ → ℕ → ℕ → ℕ
value_at true a n size = wrapped (pos a +ℤ pos (n * size))
value_at false a n size = wrapped (pos a -ℤ pos (n * size))

abbrev trip_of : Bool → Bool → Bool → ℕ → ℕ → ℕ → Option ℕ
trip_of signed strict up a b size =
    if ends strict up (reading signed a) (reading signed b) then Some 0 else
    if ends strict up (reading signed (value_at up a (stays_of strict up (reading signed a) (reading signed b) size) size)) (reading signed b) then Some (stays_of strict up (reading signed a) (reading signed b) size) else None

nat_int : (a b : ℕ) → nat_lt a b ≡ int_lt (pos a) (pos b)
nat_int a b = grind (arith, ints, nat_tests)

leaves_is : (signed strict up : Bool) (v b : ℕ) → leaves signed strict up v b ≡ ends strict up (reading signed v) (reading signed b)
leaves_is true true true v b = refl
leaves_is true true false v b = refl
leaves_is true false true v b = refl
leaves_is true false false v b = refl
leaves_is false true true v b = ap not (nat_int v b)
leaves_is false true false v b = ap not (nat_int b v)
leaves_is false false true v b = nat_int b v
leaves_is false false false v b = nat_int v b

less_z : (a x : ℕ) → x ≤ a → pos a -ℤ pos x ≡ pos (a - x)
less_z a x h = omega (arith, ints)

below_z : (a x : ℕ) → a < x → pos a -ℤ pos x ≡ negsuc (x - suc a)
below_z a x h = omega (arith, ints)

down_word : (k : ℕ) → wrapped (negsuc k) ≡ 2 ^ 64 - 1 - k % 2 ^ 64
down_word k = refl

lowered : (a x : ℕ) → a < 2 ^ 64 → (a + (2 ^ 64 - x % 2 ^ 64)) % 2 ^ 64 ≡ wrapped (pos a -ℤ pos x)
lowered a x h = by_order (cases_lt a x)
  where
    by_order : (a < x) ⊎ (x ≤ a) → (a + (2 ^ 64 - x % 2 ^ 64)) % 2 ^ 64 ≡ wrapped (pos a -ℤ pos x)
    by_order (inl b) =
        let k = x - suc a in
        let e : x ≡ k + suc a = omega arith in
        sym (ap wrapped (below_z a x b) ∙ down_word k ∙ omega (arith, e))
    by_order (inr b) = sym (ap wrapped (less_z a x b) ∙ omega arith)

end_is : (up : Bool) (a n size : ℕ) → a < 2 ^ 64 → end_word up a (n % 2 ^ 64) size ≡ value_at up a n size
end_is true a n size h = ap (λ x. (a + x) % 2 ^ 64) (mul-mod_first n size (2 ^ 64)) ∙ last (n * size)
  where
    last : (x : ℕ) → (a + x % 2 ^ 64) % 2 ^ 64 ≡ wrapped (pos a +ℤ pos x)
    last x = omega arith
end_is false a n size h = ap (λ x. (a + (2 ^ 64 - x)) % 2 ^ 64) (mul-mod_first n size (2 ^ 64)) ∙ last (n * size)
  where
    last : (x : ℕ) → (a + (2 ^ 64 - x % 2 ^ 64)) % 2 ^ 64 ≡ wrapped (pos a -ℤ pos x)
    last x = lowered a x h

-- the gap of two numbers in order, as a word
gap_pos : (a b : ℕ) → a < 2 ^ 64 → b < 2 ^ 64 → int_lt (pos b) (pos a) ≡ false → alu Sub b a ≡ unsigned_abs (pos b -ℤ pos a)
gap_pos a b h k o = grind (arith, ints, nat_tests)

gap_signed : (a b : ℕ) → a < 2 ^ 64 → b < 2 ^ 64 → int_lt (cast_signed w64 b) (cast_signed w64 a) ≡ false → alu Sub b a ≡ unsigned_abs (cast_signed w64 b -ℤ cast_signed w64 a)
gap_signed a b h k o = grind (arith, ints, nat_tests)

gap_one : (x y : ℤ) → int_lt x y ≡ true → 1 ≤ unsigned_abs (y -ℤ x)
gap_one x y h = grind (arith, ints)

turned : (x y : ℤ) → not (int_lt x y) ≡ false → int_lt x y ≡ true
turned x y h = grind (arith, ints)

other_way : (x y : ℤ) → int_lt x y ≡ true → int_lt y x ≡ false
other_way x y h = grind (arith, ints)

zero_test : (g : ℕ) → 0 < g → (g == 0) ≡ false
zero_test g h = grind (arith, nat_tests)

-- what the row's gap is where the relation holds at the start
gap_is : (signed up : Bool) (a b : ℕ) → a < 2 ^ 64 → b < 2 ^ 64 → (if up then int_lt (reading signed b) (reading signed a) else int_lt (reading signed a) (reading signed b)) ≡ false → gap_word up a b ≡ unsigned_abs (gap_of up (reading signed a) (reading signed b))
gap_is true true a b h k o = gap_signed a b h k o
gap_is true false a b h k o = gap_signed b a k h o
gap_is false true a b h k o = gap_pos a b h k o
gap_is false false a b h k o = gap_pos b a k h o

in_order : (strict up : Bool) (x y : ℤ) → ends strict up x y ≡ false → (if up then int_lt y x else int_lt x y) ≡ false
in_order true true x y h = other_way x y (turned x y h)
in_order true false x y h = other_way y x (turned y x h)
in_order false true x y h = h
in_order false false x y h = h

apart_by : (strict up : Bool) (x y : ℤ) → ends strict up x y ≡ false → one_if strict ≤ unsigned_abs (gap_of up x y)
apart_by true true x y h = gap_one x y (turned x y h)
apart_by true false x y h = gap_one y x (turned y x h)
apart_by false up x y h = omega arith

one_off : (strict : Bool) (g : ℕ) → g < 2 ^ 64 → one_if strict ≤ g → alu_imm Addi g (less_one strict) ≡ g - one_if strict
one_off true g h k = omega (arith, ints)
one_off false g h k = omega (arith, ints)

sub_small : (up : Bool) (a b : ℕ) → gap_word up a b < 2 ^ 64
sub_small true a b = omega arith
sub_small false a b = omega arith

stays_is : (signed strict up : Bool) (a b size : ℕ) → a < 2 ^ 64 → b < 2 ^ 64 → 0 < size → ends strict up (reading signed a) (reading signed b) ≡ false
    → stays_word strict up a b size ≡ stays_of strict up (reading signed a) (reading signed b) size % 2 ^ 64
stays_is signed strict up a b size h k p o =
    let x = reading signed a in
    let y = reading signed b in
    let g = gap_is signed up a b h k (in_order strict up x y o) in
    let gap = unsigned_abs (gap_of up x y) in
    let small : gap < 2 ^ 64 = let s = sub_small up a b in omega (arith, s, g) in
    ap (λ z. alu_imm Addi (alu Divu (alu_imm Addi z (less_one strict)) size) (pos 1)) g
    ∙ ap (λ z. alu_imm Addi (alu Divu z size) (pos 1)) (one_off strict gap small (apart_by strict up x y o))
    ∙ ap (λ t. alu_imm Addi (if t then 2 ^ 64 - 1 else (gap - one_if strict) / size) (pos 1)) (zero_test size p)
    ∙ plus_one ((gap - one_if strict) / size)
  where
    plus_one : (q : ℕ) → alu_imm Addi q (pos 1) ≡ (q + 1) % 2 ^ 64
    plus_one q = omega (arith, ints)

stays_small : (signed strict up : Bool) (a b size : ℕ) → a < 2 ^ 64 → b < 2 ^ 64 → ends strict up (reading signed a) (reading signed b) ≡ false → stays_of strict up (reading signed a) (reading signed b) size ≤ 2 ^ 64
stays_small signed strict up a b size h k o =
    let x = reading signed a in
    let y = reading signed b in
    let g = gap_is signed up a b h k (in_order strict up x y o) in
    let gap = unsigned_abs (gap_of up x y) in
    let s = sub_small up a b in
    let d = div-le_self (gap - one_if strict) size in
    omega (arith, s, g, d)

-- one turn more than there are words is no number of turns
never_all : (signed strict up : Bool) (a b size n : ℕ) → a < 2 ^ 64 → ends strict up (reading signed a) (reading signed b) ≡ false → n ≡ 2 ^ 64 → ends strict up (reading signed (value_at up a n size)) (reading signed b) ≡ false
never_all signed strict up a b size n h o e = ap (λ x. ends strict up (reading signed x) (reading signed b)) (whole up) ∙ o
  where
    full : (m : ℕ) → m ≡ 2 ^ 64 → m % 2 ^ 64 ≡ 0
    full m e = omega (arith, e)

    zero_product : (m : ℕ) → m ≡ 2 ^ 64 → (m * size) % 2 ^ 64 ≡ 0
    zero_product m e = sym (mul-mod_first m size (2 ^ 64)) ∙ ap (λ x. (x * size) % 2 ^ 64) (full m e) ∙ omega arith

    whole : (up : Bool) → value_at up a n size ≡ a
    whole true = sym (end_is true a n size h) ∙ ap (λ x. (a + x) % 2 ^ 64) (mul-mod_first n size (2 ^ 64) ∙ zero_product n e) ∙ omega arith
    whole false = sym (end_is false a n size h) ∙ ap (λ x. (a + (2 ^ 64 - x)) % 2 ^ 64) (mul-mod_first n size (2 ^ 64) ∙ zero_product n e) ∙ omega arith

-- the words reach NO exactly where there is no number, and else they hold it
trip_is : (signed strict up : Bool) (a b size : ℕ) → a < 2 ^ 64 → b < 2 ^ 64 → 0 < size → trip_of signed strict up a b size ≡ (if trip_holds signed strict up a b size then Some (trip_word signed strict up a b size) else None)
trip_is signed strict up a b size h k p = by_start (ends strict up (reading signed a) (reading signed b)) refl
  where
    by_start : (t : Bool) → ends strict up (reading signed a) (reading signed b) ≡ t → trip_of signed strict up a b size ≡ (if trip_holds signed strict up a b size then Some (trip_word signed strict up a b size) else None)
    by_start true o = rw (o, leaves_is signed strict up a b ∙ o) refl
    by_start false o =
        let n = stays_of strict up (reading signed a) (reading signed b) size in
        let word = stays_is signed strict up a b size h k p o in
        let end : end_word up a (stays_word strict up a b size) size ≡ value_at up a n size = ap (λ x. end_word up a x size) word ∙ end_is up a n size h in
        let leave : leaves signed strict up (end_word up a (stays_word strict up a b size) size) b ≡ ends strict up (reading signed (value_at up a n size)) (reading signed b) = leaves_is signed strict up _ b ∙ ap (λ x. ends strict up (reading signed x) (reading signed b)) end in
        rw (o, leaves_is signed strict up a b ∙ o, leave) (by_end (ends strict up (reading signed (value_at up a n size)) (reading signed b)) refl n (stays_word strict up a b size) word (stays_small signed strict up a b size h k o) (never_all signed strict up a b size n h o))
      where
        by_end : (t : Bool) → t ≡ t → (n m : ℕ) → m ≡ n % 2 ^ 64 → n ≤ 2 ^ 64 → (n ≡ 2 ^ 64 → t ≡ false) → (if t then Some n else None) ≡ (if t then Some m else None)
        by_end false r n m e l f = refl
        by_end true r n m e l f = at_most (cases_lt n (2 ^ 64))
          where
            at_most : (n < 2 ^ 64) ⊎ (2 ^ 64 ≤ n) → Some n ≡ Some m
            at_most (inl b) = ap Some (let q : n ≡ m = omega (arith, e, b) in q)
            at_most (inr b) = let q = f (let z : n ≡ 2 ^ 64 = omega (arith, b, l) in z) in absurd (cc)

-- two integers that are the same modulo 2 ^ 64 have the same word
same_word : (u v : ℤ) → Alike u v → word_of u ≡ word_of v
same_word u v a = word_is (word_of u) v (word_below u) (alike_trans _ _ _ (word_alike u) a)

wrapped_is : (z : ℤ) → wrapped z ≡ word_of z
wrapped_is (pos n) = refl
wrapped_is (negsuc n) = refl

read_alike : (signed : Bool) (a : ℕ) → a < 2 ^ 64 → Alike (pos a) (reading signed a)
read_alike false a h = alike_from (pos a) (pos a) refl
read_alike true a h = by_order (cases_lt a (2 ^ 63))
  where
    by_order : (a < 2 ^ 63) ⊎ (2 ^ 63 ≤ a) → Alike (pos a) (cast_signed w64 a)
    by_order (inl l) = alike_from (pos a) (cast_signed w64 a) (sym (signed_low a l))
    by_order (inr l) = let e = signed_high a l in record { turns = pos 1; is = omega (arith, ints, e, h, l) }

-- the step by its size
abbrev step_of : Bool → ℕ → ℤ
step_of true size = pos size
step_of false zero = pos 0
step_of false (suc k) = negsuc k

down_times : (size n : ℕ) → pos 0 -ℤ pos (n * size) ≡ step_of false size *ℤ pos n
down_times zero n = let e : n * 0 ≡ 0 = omega arith in omega (arith, ints, e)
down_times (suc k) n = let e : n * suc k ≡ suc k * n = omega arith in omega (arith, ints, e)

step_alike : (up : Bool) (x : ℤ) (a n size : ℕ) → Alike (pos a) x → value_at up a n size ≡ word_of (x +ℤ step_of up size *ℤ pos n)
step_alike true x a n size h =
    wrapped_is (pos a +ℤ pos (n * size))
    ∙ same_word (pos a +ℤ pos (n * size)) (x +ℤ pos size *ℤ pos n) (alike_add _ _ _ _ h (alike_from _ _ (let e : pos (n * size) ≡ pos size *ℤ pos n = omega (arith, ints) in e)))
step_alike false x a n size h =
    wrapped_is (pos a -ℤ pos (n * size))
    ∙ same_word (pos a -ℤ pos (n * size)) (x +ℤ step_of false size *ℤ pos n) (alike_trans _ _ _ (alike_from _ _ (minus (pos a) (pos (n * size)))) (alike_add _ _ _ _ h (alike_from _ _ (down_times size n))))
  where
    minus : (u v : ℤ) → u -ℤ v ≡ u +ℤ (pos 0 -ℤ v)
    minus u v = omega (arith, ints)

value_word : (signed up : Bool) (a n size : ℕ) → a < 2 ^ 64 → value_at up a n size ≡ word_of (reading signed a +ℤ step_of up size *ℤ pos n)
value_word signed up a n size h = step_alike up (reading signed a) a n size (read_alike signed a h)

suc_zero : (q : ℕ) → (suc q == 0) ≡ false
suc_zero q = grind (arith, nat_tests)

-- the number of an order, by whether the relation fails at the start and by where it leads
abbrev told : Bool → Bool → ℕ → Option ℕ
told fails ended n = if fails then Some 0 else (if ended then Some n else None)

less_told : (signed : Bool) (x s y : ℤ) (t : Bool) → int_lt x y ≡ t → (let n = suc ((unsigned_abs (y -ℤ x) - 1) / unsigned_abs s) in number Less signed x s y ≡ told (not t) (not (int_lt (reading signed (word_of (x +ℤ s *ℤ pos n))) y)) n)
less_told signed x s y true e = rw (e, suc_zero ((unsigned_abs (y -ℤ x) - 1) / unsigned_abs s)) refl
less_told signed x s y false e = rw e refl

more_told : (signed : Bool) (x s y : ℤ) (t : Bool) → int_lt y x ≡ t → (let n = suc ((unsigned_abs (x -ℤ y) - 1) / unsigned_abs s) in number More signed x s y ≡ told (not t) (not (int_lt y (reading signed (word_of (x +ℤ s *ℤ pos n))))) n)
more_told signed x s y true e = rw (e, suc_zero ((unsigned_abs (x -ℤ y) - 1) / unsigned_abs s)) refl
more_told signed x s y false e = rw e refl

twice_not : (t : Bool) → not (not t) ≡ t
twice_not true = refl
twice_not false = refl

at_most_told : (signed : Bool) (x s y : ℤ) (t : Bool) → int_lt y x ≡ t → (let n = suc (unsigned_abs (y -ℤ x) / unsigned_abs s) in number AtMost signed x s y ≡ told t (not (not (int_lt y (reading signed (word_of (x +ℤ s *ℤ pos n)))))) n)
at_most_told signed x s y false e = rw (e, suc_zero (unsigned_abs (y -ℤ x) / unsigned_abs s)) refl
at_most_told signed x s y true e = rw e refl

at_least_told : (signed : Bool) (x s y : ℤ) (t : Bool) → int_lt x y ≡ t → (let n = suc (unsigned_abs (x -ℤ y) / unsigned_abs s) in number AtLeast signed x s y ≡ told t (not (not (int_lt (reading signed (word_of (x +ℤ s *ℤ pos n))) y))) n)
at_least_told signed x s y false e = rw (e, suc_zero (unsigned_abs (x -ℤ y) / unsigned_abs s)) refl
at_least_told signed x s y true e = rw e refl

plus : (q : ℕ) → suc q ≡ q + 1
plus q = omega arith

minus_none : (q : ℕ) → q ≡ q - 0
minus_none q = omega arith

size_of : (up : Bool) (size : ℕ) → unsigned_abs (step_of up size) ≡ size
size_of true size = refl
size_of false zero = refl
size_of false (suc k) = refl

-- where the step is that of the direction
number_is : (relation : Relation) (signed : Bool) (a b size : ℕ) → IsOrder relation → a < 2 ^ 64 → number relation signed (reading signed a) (step_of (is_up relation) size) (reading signed b) ≡ trip_of signed (is_strict relation) (is_up relation) a b size
number_is Differ signed a b size o h = absurd o
number_is Less signed a b size o h =
    let x = reading signed a in
    let y = reading signed b in
    let q = (unsigned_abs (y -ℤ x) - 1) / size in
    less_told signed x (pos size) y (int_lt x y) refl
    ∙ ap (λ n. told (not (int_lt x y)) (not (int_lt (reading signed (word_of (x +ℤ pos size *ℤ pos n))) y)) n) (plus q)
    ∙ ap (λ v. told (not (int_lt x y)) (not (int_lt (reading signed v) y)) (q + 1)) (sym (value_word signed true a (q + 1) size h))
number_is AtMost signed a b size o h =
    let x = reading signed a in
    let y = reading signed b in
    let d = unsigned_abs (y -ℤ x) in
    at_most_told signed x (pos size) y (int_lt y x) refl
    ∙ ap (λ e. told (int_lt y x) (not (not (int_lt y (reading signed (word_of (x +ℤ pos size *ℤ pos (suc (e / size)))))))) (suc (e / size))) (minus_none d)
    ∙ ap (λ n. told (int_lt y x) (not (not (int_lt y (reading signed (word_of (x +ℤ pos size *ℤ pos n)))))) n) (plus ((d - 0) / size))
    ∙ ap (λ v. told (int_lt y x) (not (not (int_lt y (reading signed v)))) ((d - 0) / size + 1)) (sym (value_word signed true a ((d - 0) / size + 1) size h))
    ∙ ap (λ t. told (int_lt y x) t ((d - 0) / size + 1)) (twice_not _)
number_is More signed a b size o h =
    let x = reading signed a in
    let y = reading signed b in
    let s = step_of false size in
    let d = unsigned_abs (x -ℤ y) - 1 in
    more_told signed x s y (int_lt y x) refl
    ∙ ap (λ k. told (not (int_lt y x)) (not (int_lt y (reading signed (word_of (x +ℤ s *ℤ pos (suc (d / k))))))) (suc (d / k))) (size_of false size)
    ∙ ap (λ n. told (not (int_lt y x)) (not (int_lt y (reading signed (word_of (x +ℤ s *ℤ pos n))))) n) (plus (d / size))
    ∙ ap (λ v. told (not (int_lt y x)) (not (int_lt y (reading signed v))) (d / size + 1)) (sym (value_word signed false a (d / size + 1) size h))
number_is AtLeast signed a b size o h =
    let x = reading signed a in
    let y = reading signed b in
    let s = step_of false size in
    let d = unsigned_abs (x -ℤ y) in
    at_least_told signed x s y (int_lt x y) refl
    ∙ ap (λ k. told (int_lt x y) (not (not (int_lt (reading signed (word_of (x +ℤ s *ℤ pos (suc (d / k))))) y))) (suc (d / k))) (size_of false size)
    ∙ ap (λ e. told (int_lt x y) (not (not (int_lt (reading signed (word_of (x +ℤ s *ℤ pos (suc (e / size))))) y))) (suc (e / size))) (minus_none d)
    ∙ ap (λ n. told (int_lt x y) (not (not (int_lt (reading signed (word_of (x +ℤ s *ℤ pos n))) y))) n) (plus ((d - 0) / size))
    ∙ ap (λ v. told (int_lt x y) (not (not (int_lt (reading signed v) y))) ((d - 0) / size + 1)) (sym (value_word signed false a ((d - 0) / size + 1) size h))
    ∙ ap (λ t. told (int_lt x y) t ((d - 0) / size + 1)) (twice_not _)

-- the step that approaches is that of the direction, by its size
step_up : (s : ℤ) → int_lt (pos 0) s ≡ true → (s ≡ pos (unsigned_abs s)) × (0 < unsigned_abs s)
step_up (pos n) h = (refl, grind (arith, ints, nat_tests))
step_up (negsuc n) h = absurd (cc)

step_down : (s : ℤ) → int_lt s (pos 0) ≡ true → (s ≡ step_of false (unsigned_abs s)) × (0 < unsigned_abs s)
step_down (pos n) h = absurd (not_less n h)
  where
    not_less : (n : ℕ) → int_lt (pos n) (pos 0) ≡ true → ⊥
    not_less n h = grind (arith, ints, nat_tests)
step_down (negsuc n) h = (refl, omega arith)

toward : (relation : Relation) (s : ℤ) → IsOrder relation → approaches relation s ≡ true → (s ≡ step_of (is_up relation) (unsigned_abs s)) × (0 < unsigned_abs s)
toward Differ s o h = absurd o
toward Less s o h = step_up s h
toward AtMost s o h = step_up s h
toward More s o h = step_down s h
toward AtLeast s o h = step_down s h

pub trip_words : (relation : Relation) (signed : Bool) (a b : ℕ) (s : ℤ) → IsOrder relation → approaches relation s ≡ true → a < 2 ^ 64 → b < 2 ^ 64
    → number relation signed (reading signed a) s (reading signed b) ≡ (if trip_holds signed (is_strict relation) (is_up relation) a b (unsigned_abs s) then Some (trip_word signed (is_strict relation) (is_up relation) a b (unsigned_abs s)) else None)
trip_words relation signed a b s o h la lb =
    let t = toward relation s o h in
    ap (λ z. number relation signed (reading signed a) z (reading signed b)) t.0
    ∙ number_is relation signed a b (unsigned_abs s) o la
    ∙ trip_is signed (is_strict relation) (is_up relation) a b (unsigned_abs s) la lb t.1

-- The number of a trip, over plain integers: below it the relation holds, and at it the word there has ended it.
use Rattle.std.proofs.Common.{◌≡◌, ◌≢◌, ℕ, suc, ◌+◌, ◌-◌, ◌*◌, ◌/◌, ◌%◌, ◌<◌, ◌≤◌, Bool, true, false, not, Some, None, refl, ap, sym, ◌∙◌, subst, arith, if◌then◌else◌, ◌==◌, int_lt, pos, negsuc, ℤ, ◌+ℤ◌, ◌-ℤ◌, ◌*ℤ◌, ◌≤ℤ◌, ◌<ℤ◌}
use Rattle.std.proofs.lemmas.Int.{ints}
use Rattle.std.proofs.Math.Nat.{mul-le-mul_left}
use Rattle.std.specs.Int.RustNames.{unsigned_abs}
use Rattle.linear_forms.specs.Forms.{Alike, word_of}
use Rattle.linear_forms.proofs.Sums.{alike_from, alike_trans}
use Rattle.loop_data.specs.declared.trips.Relation.{Relation}
use Rattle.loop_data.specs.declared.trips.Relation.TheVariants.{Differ, Less, AtMost, More, AtLeast}
use Rattle.loop_data.specs.Trips.{approaches, reading, relates, count, has_ended, number}
use Rattle.loop_data.proofs.Tests.{eq_of}
use Rattle.trip_counts.proofs.Readings.{InRange, alike_equal, same_reading, lt_is, ge_is, is_lt, is_ge, not_true}

-- a relation of an order
abbrev pub IsOrder : Relation → Type 0
IsOrder Differ = ⊥
IsOrder _ = Unit {0}

-- below the count the relation holds, of an integer that a word can be read as
pub record Held (rel : Relation) (signed : Bool) (x b : ℤ) : Type 0 where
  pub is : relates rel x b ≡ true
  pub inside : InRange signed x

between : (signed : Bool) (x y z : ℤ) → InRange signed x → InRange signed z → x ≤ℤ y → y ≤ℤ z → InRange signed y
between true x y z p q l m = let p0 = p.0 in let q1 = q.1 in (omega (arith, ints), omega (arith, ints))
between false x y z p q l m = let p0 = p.0 in let q1 = q.1 in (omega (arith, ints), omega (arith, ints))

positive : (a : ℕ) → int_lt (pos 0) (pos a) ≡ true → a ≢ 0
positive a g = let l = is_lt (pos 0) (pos a) g in omega (arith, ints)

pub below_count : (rel : Relation) (signed : Bool) (x a b : ℤ) (t : ℕ) → IsOrder rel → InRange signed x → InRange signed b → approaches rel a ≡ true → t < count rel x a b → Held rel signed (x +ℤ a *ℤ pos t) b
below_count Differ signed x a b t o ix ib g = absurd o
below_count Less signed x (pos a) b t o ix ib g = go (int_lt x b) refl
  where
    go : (c : Bool) → int_lt x b ≡ c → t < (if c then suc ((unsigned_abs (b -ℤ x) - 1) / a) else 0) → Held Less signed (x +ℤ pos a *ℤ pos t) b
    go true e lt =
        let l : x <ℤ b = is_lt x b e in
        let ne : a ≢ 0 = positive a g in
        let m = unsigned_abs (b -ℤ x) - 1 in
        let q : a * t ≤ a * (m / a) = mul-le-mul_left a (omega arith) in
        let r : a * (m / a) + m % a ≡ m = omega arith in
        let k : (x +ℤ pos a *ℤ pos t) <ℤ b = omega (arith, ints) in
        record { is = lt_is _ _ k; inside = between signed x (x +ℤ pos a *ℤ pos t) b ix ib (omega (arith, ints)) (omega (arith, ints)) }
    go false e lt = absurd (omega arith)
below_count AtMost signed x (pos a) b t o ix ib g = go (int_lt b x) refl
  where
    go : (c : Bool) → int_lt b x ≡ c → t < (if c then 0 else suc (unsigned_abs (b -ℤ x) / a)) → Held AtMost signed (x +ℤ pos a *ℤ pos t) b
    go false e lt =
        let l : x ≤ℤ b = is_ge b x e in
        let ne : a ≢ 0 = positive a g in
        let m = unsigned_abs (b -ℤ x) in
        let q : a * t ≤ a * (m / a) = mul-le-mul_left a (omega arith) in
        let r : a * (m / a) + m % a ≡ m = omega arith in
        let k : (x +ℤ pos a *ℤ pos t) ≤ℤ b = omega (arith, ints) in
        record { is = not_true _ (ge_is _ _ k); inside = between signed x (x +ℤ pos a *ℤ pos t) b ix ib (omega (arith, ints)) k }
    go true e lt = absurd (omega arith)
below_count More signed x (negsuc a) b t o ix ib g = go (int_lt b x) refl
  where
    go : (c : Bool) → int_lt b x ≡ c → t < (if c then suc ((unsigned_abs (x -ℤ b) - 1) / suc a) else 0) → Held More signed (x +ℤ negsuc a *ℤ pos t) b
    go true e lt =
        let l : b <ℤ x = is_lt b x e in
        let m = unsigned_abs (x -ℤ b) - 1 in
        let q : suc a * t ≤ suc a * (m / suc a) = mul-le-mul_left (suc a) (omega arith) in
        let r : suc a * (m / suc a) + m % suc a ≡ m = omega arith in
        let k : b <ℤ (x +ℤ negsuc a *ℤ pos t) = omega (arith, ints) in
        record { is = lt_is _ _ k; inside = between signed b (x +ℤ negsuc a *ℤ pos t) x ib ix (omega (arith, ints)) (omega (arith, ints)) }
    go false e lt = absurd (omega arith)
below_count AtLeast signed x (negsuc a) b t o ix ib g = go (int_lt x b) refl
  where
    go : (c : Bool) → int_lt x b ≡ c → t < (if c then 0 else suc (unsigned_abs (x -ℤ b) / suc a)) → Held AtLeast signed (x +ℤ negsuc a *ℤ pos t) b
    go false e lt =
        let l : b ≤ℤ x = is_ge x b e in
        let m = unsigned_abs (x -ℤ b) in
        let q : suc a * t ≤ suc a * (m / suc a) = mul-le-mul_left (suc a) (omega arith) in
        let r : suc a * (m / suc a) + m % suc a ≡ m = omega arith in
        let k : b ≤ℤ (x +ℤ negsuc a *ℤ pos t) = omega (arith, ints) in
        record { is = not_true _ (ge_is _ _ k); inside = between signed b (x +ℤ negsuc a *ℤ pos t) x ib ix k (omega (arith, ints)) }
    go true e lt = absurd (omega arith)
below_count Less signed x (negsuc a) b t o ix ib g = absurd (cc)
below_count AtMost signed x (negsuc a) b t o ix ib g = absurd (cc)
below_count More signed x (pos a) b t o ix ib g = let l = is_lt (pos a) (pos 0) g in absurd (omega (arith, ints))
below_count AtLeast signed x (pos a) b t o ix ib g = let l = is_lt (pos a) (pos 0) g in absurd (omega (arith, ints))

-- where the count is 0 the relation does not hold
no_count : (rel : Relation) (x a b : ℤ) → IsOrder rel → count rel x a b ≡ 0 → relates rel x b ≡ false
no_count Differ x a b o = absurd o
no_count Less x a b o = go (int_lt x b)
  where
    go : (c : Bool) → (if c then suc ((unsigned_abs (b -ℤ x) - 1) / unsigned_abs a) else 0) ≡ 0 → c ≡ false
    go true e = absurd (omega arith)
    go false e = refl
no_count AtMost x a b o = go (int_lt b x)
  where
    go : (c : Bool) → (if c then 0 else suc (unsigned_abs (b -ℤ x) / unsigned_abs a)) ≡ 0 → not c ≡ false
    go true e = refl
    go false e = absurd (omega arith)
no_count More x a b o = go (int_lt b x)
  where
    go : (c : Bool) → (if c then suc ((unsigned_abs (x -ℤ b) - 1) / unsigned_abs a) else 0) ≡ 0 → c ≡ false
    go true e = absurd (omega arith)
    go false e = refl
no_count AtLeast x a b o = go (int_lt x b)
  where
    go : (c : Bool) → (if c then 0 else suc (unsigned_abs (x -ℤ b) / unsigned_abs a)) ≡ 0 → not c ≡ false
    go true e = refl
    go false e = absurd (omega arith)

-- a number is the count, after which the relation has ended
pub record Counted (rel : Relation) (signed : Bool) (x a b : ℤ) (n : ℕ) : Type 0 where
  pub is : n ≡ count rel x a b
  pub ended : has_ended rel signed x a b n ≡ true

pub counted : (rel : Relation) (signed : Bool) (x a b : ℤ) (n : ℕ) → number rel signed x a b ≡ Some n → Counted rel signed x a b n
counted rel signed x a b n = go (has_ended rel signed x a b (count rel x a b)) refl
  where
    go : (c : Bool) → has_ended rel signed x a b (count rel x a b) ≡ c → (if c then Some (count rel x a b) else None) ≡ Some n → Counted rel signed x a b n
    go true e k = let q : count rel x a b ≡ n = cc in record { is = sym q; ended = subst (λ i. has_ended rel signed x a b i ≡ true) q e }
    go false e k = absurd (cc)

ended_by : (rel : Relation) (signed : Bool) (x a b : ℤ) (n : ℕ) → IsOrder rel → n ≡ count rel x a b → (if n == 0 then true else not (relates rel (reading signed (word_of (x +ℤ a *ℤ pos n))) b)) ≡ true
    → (y : ℤ) → InRange signed x → InRange signed y → Alike y (x +ℤ a *ℤ pos n) → relates rel y b ≡ false
ended_by rel signed x a b n o q e y ix iy p = go (n == 0) refl e
  where
    off : (c : Bool) → not c ≡ true → c ≡ false
    off true e = absurd (cc)
    off false e = refl

    go : (c : Bool) → (n == 0) ≡ c → (if c then true else not (relates rel (reading signed (word_of (x +ℤ a *ℤ pos n))) b)) ≡ true → relates rel y b ≡ false
    go true f k =
        let z : n ≡ 0 = eq_of n 0 f in
        let same_y : y ≡ x = alike_equal signed y x iy ix (alike_trans _ _ _ p (alike_from _ _ (ap (λ i. x +ℤ a *ℤ pos i) z ∙ omega (arith, ints)))) in
        subst (λ y. relates rel y b ≡ false) (sym same_y) (no_count rel x a b o (sym q ∙ z))
    go false f k = subst (λ y. relates rel y b ≡ false) (sym (same_reading signed (x +ℤ a *ℤ pos n) y iy p)) (off _ k)

pub at_count : (rel : Relation) (signed : Bool) (x a b : ℤ) (n : ℕ) → IsOrder rel → Counted rel signed x a b n → (y : ℤ) → InRange signed x → InRange signed y → Alike y (x +ℤ a *ℤ pos n) → relates rel y b ≡ false
at_count Differ signed x a b n o c = absurd o
at_count Less signed x a b n o c = ended_by Less signed x a b n o c.is c.ended
at_count AtMost signed x a b n o c = ended_by AtMost signed x a b n o c.is c.ended
at_count More signed x a b n o c = ended_by More signed x a b n o c.is c.ended
at_count AtLeast signed x a b n o c = ended_by AtLeast signed x a b n o c.is c.ended

-- a difference that comes to 0 after n turns is no multiple of 2 ^ 64 before
pub no_zero_before : (x a : ℤ) (n t : ℕ) → InRange true x → a ≢ pos 0 → x +ℤ a *ℤ pos n ≡ pos 0 → t < n → Alike (pos 0) (x +ℤ a *ℤ pos t) → ⊥
no_zero_before x (pos e) n t h ne z lt a =
    let h0 = h.0 in let h1 = h.1 in
    let p : 0 < e = grind (arith, ne) in
    let q : e * suc t ≤ e * n = mul-le-mul_left e lt in
    omega (arith, ints)
no_zero_before x (negsuc e) n t h ne z lt a =
    let h0 = h.0 in let h1 = h.1 in
    let q : suc e * suc t ≤ suc e * n = mul-le-mul_left (suc e) lt in
    omega (arith, ints)

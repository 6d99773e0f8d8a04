-- Steps of the search for the first vector.
use Rattle.std.proofs.Common.{◌≡◌, ◌<◌, ◌≤◌, inl, inr, ℕ, zero, suc, Bool, true, false, refl, ap, sym, ◌∙◌, subst, arith, ℤ, pos, negsuc, ◌-ℤ◌, ◌≤ℤ◌, to_z, of_z, w64}
use Rattle.std.specs.Prelude.{◌⊎◌, nat_lt, IsTrue}
use Rattle.std.specs.Int.RustNames.{unsigned_abs}
use Rattle.std.proofs.lemmas.Bool.Decides.{nat_tests}
use Rattle.std.proofs.lemmas.Int.{ints}
use Rattle.loop_data.specs.declared.accesses.Access.{Access}
use Rattle.distance_vectors.specs.Distances.{Vector, IsFirst, MeetAt, AreApart, ComesBefore, IsInBox, inner_limit}
use Rattle.distance_vectors.specs.Searching.{HasSizes, HasSecond, HasRoot}

-- one number is less than another, the same, or greater
order : (x y : ℕ) → (x < y) ⊎ ((x ≡ y) ⊎ (y < x))
order x y = go (nat_lt x y) (nat_lt y x) refl refl
  where
    go : (b d : Bool) → nat_lt x y ≡ b → nat_lt y x ≡ d → (x < y) ⊎ ((x ≡ y) ⊎ (y < x))
    go true d e f = inl (grind (arith, nat_tests))
    go false true e f = inr (inr (grind (arith, nat_tests)))
    go false false e f = inr (inl (grind (arith, nat_tests)))

-- the first with one size of the last entry, where none has a lesser one
pub found_third : (a b : Access) (root second i last : ℕ) (k : Vector) → i ≤ last → IsFirst (HasSizes root second i) a b k
    → ((l : Vector) → l.root ≡ pos root → unsigned_abs l.second ≡ second → unsigned_abs l.third < i → MeetAt a b l → ⊥)
    → IsFirst (HasSecond root second last) a b k
found_third a b root second i last k h f none = record {
  among = record { root_is = f.among.root_is; second_is = f.among.second_is; third = let e = f.among.third_is in omega arith };
  meet = f.meet;
  first = λ l g m. go l g m (order (unsigned_abs l.third) i);
}
  where
    go : (l : Vector) → HasSecond root second last l → MeetAt a b l
        → (unsigned_abs l.third < i) ⊎ ((unsigned_abs l.third ≡ i) ⊎ (i < unsigned_abs l.third)) → (l ≡ k) ⊎ ComesBefore k l
    go l g m (inl lt) = absurd (none l g.root_is g.second_is lt m)
    go l g m (inr (inl e)) = f.first l (record { root_is = g.root_is; second_is = g.second_is; third_is = e }) m
    go l g m (inr (inr gt)) =
        inr (inr (ap unsigned_abs (f.among.root_is ∙ sym g.root_is), inr (f.among.second_is ∙ sym g.second_is, inl (let e = f.among.third_is in omega arith))))

-- the first with one size of the second entry, where none has a lesser one
pub found_second : (a b : Access) (root i middle last : ℕ) (k : Vector) → i ≤ middle → IsFirst (HasSecond root i last) a b k
    → ((l : Vector) → l.root ≡ pos root → unsigned_abs l.second < i → unsigned_abs l.third ≤ last → MeetAt a b l → ⊥)
    → IsFirst (HasRoot root middle last) a b k
found_second a b root i middle last k h f none = record {
  among = record { root_is = f.among.root_is; second = let e = f.among.second_is in omega arith; third = f.among.third };
  meet = f.meet;
  first = λ l g m. go l g m (order (unsigned_abs l.second) i);
}
  where
    go : (l : Vector) → HasRoot root middle last l → MeetAt a b l
        → (unsigned_abs l.second < i) ⊎ ((unsigned_abs l.second ≡ i) ⊎ (i < unsigned_abs l.second)) → (l ≡ k) ⊎ ComesBefore k l
    go l g m (inl lt) = absurd (none l g.root_is lt g.third m)
    go l g m (inr (inl e)) = f.first l (record { root_is = g.root_is; second_is = e; third = g.third }) m
    go l g m (inr (inr gt)) =
        inr (inr (ap unsigned_abs (f.among.root_is ∙ sym g.root_is), inl (let e = f.among.second_is in omega arith)))

natural : (z : ℤ) → pos 1 ≤ℤ z → z ≡ pos (unsigned_abs z)
natural (pos n) h = refl
natural (negsuc n) h = absurd (omega (arith, ints))

-- the first with one entry of the root, where none has a lesser one
pub found_root : (a b : Access) (i : ℕ) (k : Vector) → 1 ≤ i → i ≤ 15
    → IsFirst (HasRoot i (inner_limit a b 1) (inner_limit a b 2)) a b k
    → ((l : Vector) → IsInBox a b l → unsigned_abs l.root < i → MeetAt a b l → ⊥) → IsFirst (IsInBox a b) a b k
found_root a b i k h j f none = record {
  among = record {
    from = let e = f.among.root_is in omega (arith, ints);
    to = let e = f.among.root_is in omega (arith, ints);
    second = f.among.second;
    third = f.among.third;
  };
  meet = f.meet;
  first = λ l g m. go l g m (order (unsigned_abs l.root) i);
}
  where
    go : (l : Vector) → IsInBox a b l → MeetAt a b l
        → (unsigned_abs l.root < i) ⊎ ((unsigned_abs l.root ≡ i) ⊎ (i < unsigned_abs l.root)) → (l ≡ k) ⊎ ComesBefore k l
    go l g m (inl lt) = absurd (none l g lt m)
    go l g m (inr (inl e)) = f.first l (record { root_is = natural l.root g.from ∙ ap pos e; second = g.second; third = g.third }) m
    go l g m (inr (inr gt)) = inr (inl (let e : unsigned_abs k.root ≡ i = ap unsigned_abs f.among.root_is in omega arith))

-- a number of this size, negative but for 0
abbrev pub minus : ℕ → ℤ
minus zero = pos zero
minus (suc n) = negsuc n

abbrev pub with_entries : ℕ → ℤ → ℤ → Vector
with_entries root second third = record { root = pos root; second = second; third = third }

minus_size : (n : ℕ) → unsigned_abs (minus n) ≡ n
minus_size zero = refl
minus_size (suc n) = refl

minus_is : (n : ℕ) → pos 0 -ℤ pos n ≡ minus n
minus_is zero = refl
minus_is (suc n) = omega (arith, ints)

by_sign : (z : ℤ) (n : ℕ) → unsigned_abs z ≡ n → (z ≡ pos n) ⊎ (z ≡ minus n)
by_sign (pos m) n e = inl (ap pos e)
by_sign (negsuc m) n e = inr (subst (λ x. negsuc m ≡ minus x) e refl)

abbrev in_code : ℤ → ℤ → ℤ → Vector
in_code root second third = record { root = root; second = second; third = third }

same_entries : (x y z u v w : ℤ) → x ≡ u → y ≡ v → z ≡ w → in_code x y z ≡ in_code u v w
same_entries x y z u v w e f g = rw (e, f, g) refl

-- the vectors with given sizes, in their order
abbrev IsOfFour : ℕ → ℕ → ℕ → Vector → Type 0
IsOfFour root s t l =
    (l ≡ with_entries root (pos s) (pos t))
    ⊎ ((l ≡ with_entries root (pos s) (minus t))
    ⊎ ((l ≡ with_entries root (minus s) (pos t)) ⊎ (l ≡ with_entries root (minus s) (minus t))))

four : (root s t : ℕ) (l : Vector) → HasSizes root s t l → IsOfFour root s t l
four root s t l h = go (by_sign l.second s h.second_is) (by_sign l.third t h.third_is)
  where
    go : (l.second ≡ pos s) ⊎ (l.second ≡ minus s) → (l.third ≡ pos t) ⊎ (l.third ≡ minus t) → IsOfFour root s t l
    go (inl e) (inl f) = inl (same_entries _ _ _ _ _ _ h.root_is e f)
    go (inl e) (inr f) = inr (inl (same_entries _ _ _ _ _ _ h.root_is e f))
    go (inr e) (inl f) = inr (inr (inl (same_entries _ _ _ _ _ _ h.root_is e f)))
    go (inr e) (inr f) = inr (inr (inr (same_entries _ _ _ _ _ _ h.root_is e f)))

-- the vector, or one that it comes before
abbrev IsUpTo : Vector → Vector → Type 0
IsUpTo k l = (l ≡ k) ⊎ ComesBefore k l

to_third : (a b : Access) (root s t : ℕ) (l : Vector) → (MeetAt a b (with_entries root (pos s) (pos t)) → ⊥) → MeetAt a b l
    → l ≡ with_entries root (minus s) (pos t) → IsUpTo (with_entries root (pos s) (minus t)) l
to_third a b root zero t l n m e = absurd (n (subst (λ x. MeetAt a b x) e m))
to_third a b root (suc s) t l n m e =
    inr (subst (λ x. ComesBefore (with_entries root (pos (suc s)) (minus t)) x) (sym e)
    (inr (refl, inr (refl, inr (minus_size t, inl (omega arith))))))

to_fourth : (root s t : ℕ) (l : Vector) → l ≡ with_entries root (minus s) (minus t)
    → IsUpTo (with_entries root (pos s) (minus t)) l
to_fourth root zero t l e = inl e
to_fourth root (suc s) t l e =
    inr (subst (λ x. ComesBefore (with_entries root (pos (suc s)) (minus t)) x) (sym e)
    (inr (refl, inr (refl, inr (refl, inl (omega arith))))))

last_two : (root s t : ℕ) (l : Vector) → l ≡ with_entries root (minus s) (minus t)
    → IsUpTo (with_entries root (minus s) (pos t)) l
last_two root s zero l e = inl e
last_two root s (suc t) l e =
    inr (subst (λ x. ComesBefore (with_entries root (minus s) (pos (suc t))) x) (sym e)
    (inr (refl, inr (refl, inr (refl, inr (refl, inl (omega arith)))))))

second_is_first : (a b : Access) (root s t : ℕ) → (MeetAt a b (with_entries root (pos s) (pos t)) → ⊥)
    → MeetAt a b (with_entries root (pos s) (minus t))
    → IsFirst (HasSizes root s t) a b (with_entries root (pos s) (minus t))
second_is_first a b root s t n m = record {
  among = record { root_is = refl; second_is = refl; third_is = minus_size t };
  meet = m;
  first = λ l h x. go l x (four root s t l h);
}
  where
    go : (l : Vector) → MeetAt a b l → IsOfFour root s t l → IsUpTo (with_entries root (pos s) (minus t)) l
    go l x (inl e) = absurd (n (subst (λ y. MeetAt a b y) e x))
    go l x (inr (inl e)) = inl e
    go l x (inr (inr (inl e))) = to_third a b root s t l n x e
    go l x (inr (inr (inr e))) = to_fourth root s t l e

third_is_first : (a b : Access) (root s t : ℕ) → (MeetAt a b (with_entries root (pos s) (pos t)) → ⊥)
    → (MeetAt a b (with_entries root (pos s) (minus t)) → ⊥) → MeetAt a b (with_entries root (minus s) (pos t))
    → IsFirst (HasSizes root s t) a b (with_entries root (minus s) (pos t))
third_is_first a b root s t n o m = record {
  among = record { root_is = refl; second_is = minus_size s; third_is = refl };
  meet = m;
  first = λ l h x. go l x (four root s t l h);
}
  where
    go : (l : Vector) → MeetAt a b l → IsOfFour root s t l → IsUpTo (with_entries root (minus s) (pos t)) l
    go l x (inl e) = absurd (n (subst (λ y. MeetAt a b y) e x))
    go l x (inr (inl e)) = absurd (o (subst (λ y. MeetAt a b y) e x))
    go l x (inr (inr (inl e))) = inl e
    go l x (inr (inr (inr e))) = last_two root s t l e

fourth_is_first : (a b : Access) (root s t : ℕ) → (MeetAt a b (with_entries root (pos s) (pos t)) → ⊥)
    → (MeetAt a b (with_entries root (pos s) (minus t)) → ⊥) → (MeetAt a b (with_entries root (minus s) (pos t)) → ⊥)
    → MeetAt a b (with_entries root (minus s) (minus t))
    → IsFirst (HasSizes root s t) a b (with_entries root (minus s) (minus t))
fourth_is_first a b root s t n o p m = record {
  among = record { root_is = refl; second_is = minus_size s; third_is = minus_size t };
  meet = m;
  first = λ l h x. go l x (four root s t l h);
}
  where
    go : (l : Vector) → MeetAt a b l → IsOfFour root s t l → IsUpTo (with_entries root (minus s) (minus t)) l
    go l x (inl e) = absurd (n (subst (λ y. MeetAt a b y) e x))
    go l x (inr (inl e)) = absurd (o (subst (λ y. MeetAt a b y) e x))
    go l x (inr (inr (inl e))) = absurd (p (subst (λ y. MeetAt a b y) e x))
    go l x (inr (inr (inr e))) = inl e

-- the numbers of the code
abbrev plus_bits : ℕ → ℤ
plus_bits n = to_z w64 n

abbrev minus_bits : ℕ → ℤ
minus_bits n = to_z w64 (of_z w64 (pos 0 -ℤ to_z w64 n))

plus_is : (n : ℕ) → n ≤ 15 → plus_bits n ≡ pos n
plus_is n h = omega (arith, ints)

minus_bits_is : (n : ℕ) → n ≤ 15 → minus_bits n ≡ minus n
minus_bits_is n h = rw (plus_is n h) (let e : to_z w64 (of_z w64 (pos 0 -ℤ pos n)) ≡ pos 0 -ℤ pos n = omega (arith, ints) in e ∙ minus_is n)

plus_plus : (root s t : ℕ) → root ≤ 15 → s ≤ 7 → t ≤ 7
    → in_code (plus_bits root) (plus_bits s) (plus_bits t) ≡ with_entries root (pos s) (pos t)
plus_plus root s t f g h =
    same_entries _ _ _ _ _ _ (plus_is root f) (plus_is s (omega arith)) (plus_is t (omega arith))

plus_minus : (root s t : ℕ) → root ≤ 15 → s ≤ 7 → t ≤ 7
    → in_code (plus_bits root) (plus_bits s) (minus_bits t) ≡ with_entries root (pos s) (minus t)
plus_minus root s t f g h =
    same_entries _ _ _ _ _ _ (plus_is root f) (plus_is s (omega arith)) (minus_bits_is t (omega arith))

minus_plus : (root s t : ℕ) → root ≤ 15 → s ≤ 7 → t ≤ 7
    → in_code (plus_bits root) (minus_bits s) (plus_bits t) ≡ with_entries root (minus s) (pos t)
minus_plus root s t f g h =
    same_entries _ _ _ _ _ _ (plus_is root f) (minus_bits_is s (omega arith)) (plus_is t (omega arith))

minus_minus : (root s t : ℕ) → root ≤ 15 → s ≤ 7 → t ≤ 7
    → in_code (plus_bits root) (minus_bits s) (minus_bits t) ≡ with_entries root (minus s) (minus t)
minus_minus root s t f g h =
    same_entries _ _ _ _ _ _ (plus_is root f) (minus_bits_is s (omega arith)) (minus_bits_is t (omega arith))

apart_at : (a b : Access) (k v : Vector) → k ≡ v → (MeetAt a b k → IsTrue false) → MeetAt a b v → ⊥
apart_at a b k v e n m = let f : false ≡ true = n (subst (λ x. MeetAt a b x) (sym e) m) in absurd (cc)

pub plus_minus_first : (a b : Access) (root s t : ℕ) → root ≤ 15 → s ≤ 7 → t ≤ 7
    → (MeetAt a b (in_code (plus_bits root) (plus_bits s) (plus_bits t)) → IsTrue false)
    → MeetAt a b (in_code (plus_bits root) (plus_bits s) (minus_bits t))
    → IsFirst (HasSizes root s t) a b (in_code (plus_bits root) (plus_bits s) (minus_bits t))
plus_minus_first a b root s t f g h n m =
    subst (λ x. IsFirst (HasSizes root s t) a b x) (sym (plus_minus root s t f g h))
    (second_is_first a b root s t (apart_at a b _ _ (plus_plus root s t f g h) n)
    (subst (λ x. MeetAt a b x) (plus_minus root s t f g h) m))

pub minus_plus_first : (a b : Access) (root s t : ℕ) → root ≤ 15 → s ≤ 7 → t ≤ 7
    → (MeetAt a b (in_code (plus_bits root) (plus_bits s) (plus_bits t)) → IsTrue false)
    → (MeetAt a b (in_code (plus_bits root) (plus_bits s) (minus_bits t)) → IsTrue false)
    → MeetAt a b (in_code (plus_bits root) (minus_bits s) (plus_bits t))
    → IsFirst (HasSizes root s t) a b (in_code (plus_bits root) (minus_bits s) (plus_bits t))
minus_plus_first a b root s t f g h n o m =
    subst (λ x. IsFirst (HasSizes root s t) a b x) (sym (minus_plus root s t f g h))
    (third_is_first a b root s t (apart_at a b _ _ (plus_plus root s t f g h) n)
    (apart_at a b _ _ (plus_minus root s t f g h) o)
    (subst (λ x. MeetAt a b x) (minus_plus root s t f g h) m))

pub minus_minus_first : (a b : Access) (root s t : ℕ) → root ≤ 15 → s ≤ 7 → t ≤ 7
    → (MeetAt a b (in_code (plus_bits root) (plus_bits s) (plus_bits t)) → IsTrue false)
    → (MeetAt a b (in_code (plus_bits root) (plus_bits s) (minus_bits t)) → IsTrue false)
    → (MeetAt a b (in_code (plus_bits root) (minus_bits s) (plus_bits t)) → IsTrue false)
    → MeetAt a b (in_code (plus_bits root) (minus_bits s) (minus_bits t))
    → IsFirst (HasSizes root s t) a b (in_code (plus_bits root) (minus_bits s) (minus_bits t))
minus_minus_first a b root s t f g h n o p m =
    subst (λ x. IsFirst (HasSizes root s t) a b x) (sym (minus_minus root s t f g h))
    (fourth_is_first a b root s t (apart_at a b _ _ (plus_plus root s t f g h) n)
    (apart_at a b _ _ (plus_minus root s t f g h) o) (apart_at a b _ _ (minus_plus root s t f g h) p)
    (subst (λ x. MeetAt a b x) (minus_minus root s t f g h) m))

pub none_first : (a b : Access) (root s t : ℕ) → root ≤ 15 → s ≤ 7 → t ≤ 7
    → (MeetAt a b (in_code (plus_bits root) (plus_bits s) (plus_bits t)) → IsTrue false)
    → (MeetAt a b (in_code (plus_bits root) (plus_bits s) (minus_bits t)) → IsTrue false)
    → (MeetAt a b (in_code (plus_bits root) (minus_bits s) (plus_bits t)) → IsTrue false)
    → (MeetAt a b (in_code (plus_bits root) (minus_bits s) (minus_bits t)) → IsTrue false)
    → AreApart (HasSizes root s t) a b
none_first a b root s t f g h n o p q = λ l i x. go l x (four root s t l i)
  where
    go : (l : Vector) → MeetAt a b l → IsOfFour root s t l → ⊥
    go l x (inl e) = apart_at a b _ _ (plus_plus root s t f g h) n (subst (λ y. MeetAt a b y) e x)
    go l x (inr (inl e)) = apart_at a b _ _ (plus_minus root s t f g h) o (subst (λ y. MeetAt a b y) e x)
    go l x (inr (inr (inl e))) = apart_at a b _ _ (minus_plus root s t f g h) p (subst (λ y. MeetAt a b y) e x)
    go l x (inr (inr (inr e))) = apart_at a b _ _ (minus_minus root s t f g h) q (subst (λ y. MeetAt a b y) e x)

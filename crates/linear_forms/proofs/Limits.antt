-- Forms that keep to the limits, part by part.
use Rattle.std.proofs.Common.{◌≡◌, suc, ◌-◌, ◌^◌, ◌≤◌, List, [], ◌∷◌, length, Bool, true, false, ◌&&◌, Some, None, refl, ap, sym, ◌∙◌, arith, nat_le, if◌then◌else◌, pos, negsuc, ℤ, ◌+ℤ◌, ◌-ℤ◌, ◌*ℤ◌, to_z, of_z, w64, ◌≤ℤ◌, ◌<ℤ◌, int_lt}
use Rattle.std.proofs.lemmas.Int.{ints, to_z-of_z}
use Rattle.std.proofs.lemmas.Bool.Decides.{nat_tests}
use Rattle.linear_forms.specs.Forms.{EntryTerm, LinearForm, is_small, constant_fits, are_small, are_limited, limited_terms, is_limited, limited, scaled_terms, is_zero, multiple}
use Rattle.linear_forms.proofs.Ranges.{small_is, constant_is, fits_small, fits_constant}
use Rattle.linear_forms.proofs.Merges.{and_true, both_true, are_limited-from}

no_and : (a b : Bool) → b ≡ false → (a && b) ≡ false
no_and true b e = e
no_and false b e = refl

no_first : (a b : Bool) → a ≡ false → (a && b) ≡ false
no_first a b e = rw e refl

not_limited : (f : LinearForm) → is_limited f ≡ false → None ≡ limited f
not_limited f e = rw e refl

pub no_constant : (f : LinearForm) → constant_fits f.constant ≡ false → None ≡ limited f
no_constant f e = not_limited f (no_first _ _ e)

pub no_terms : (f : LinearForm) → are_limited f.terms ≡ false → None ≡ limited f
no_terms f e = not_limited f (no_and (constant_fits f.constant) _ (no_first _ _ e))

pub no_first_stride : (f : LinearForm) → is_small f.first ≡ false → None ≡ limited f
no_first_stride f e = not_limited f (no_and (constant_fits f.constant) _ (no_and (are_limited f.terms) _ (no_first _ _ e)))

pub no_second_stride : (f : LinearForm) → is_small f.second ≡ false → None ≡ limited f
no_second_stride f e = not_limited f (no_and (constant_fits f.constant) _ (no_and (are_limited f.terms) _ (no_and (is_small f.first) _ (no_first _ _ e))))

pub no_third_stride : (f : LinearForm) → is_small f.third ≡ false → None ≡ limited f
no_third_stride f e = not_limited f (no_and (constant_fits f.constant) _ (no_and (are_limited f.terms) _ (no_and (is_small f.first) _ (no_and (is_small f.second) _ e))))

pub are_those : (ts us : List EntryTerm) → Some ts ≡ limited_terms us → ts ≡ us
are_those ts us = go (are_limited us)
  where
    go : (b : Bool) → Some ts ≡ (if b then Some us else None) → ts ≡ us
    go true e = cc
    go false e = absurd (cc)

-- the negative of a small number is small
small_from : (z : ℤ) → negsuc (2 ^ 30 - 2) ≤ℤ z → z <ℤ pos (2 ^ 30) → is_small z ≡ true
small_from z l h =
    let e : int_lt z (negsuc (2 ^ 30 - 2)) ≡ false = grind (arith, ints) in
    let f : int_lt z (pos (2 ^ 30)) ≡ true = grind (arith, ints) in
    rw (e, f) refl

small_negative : (z : ℤ) → is_small z ≡ true → is_small (negsuc 0 *ℤ z) ≡ true
small_negative z e =
    let p = small_is z e in let a = p.0 in let b = p.1 in
    small_from (negsuc 0 *ℤ z) (omega (arith, ints)) (omega (arith, ints))

negatives : (ts : List EntryTerm) → are_small ts ≡ true → (are_small (scaled_terms (negsuc 0) ts) ≡ true) × (length (scaled_terms (negsuc 0) ts) ≤ length ts)
negatives [] e = (refl, omega arith)
negatives (t ∷ ts) e =
    let p = and_true (is_small t.by) (are_small ts) e in
    go (is_zero (negsuc 0 *ℤ t.by)) (small_negative t.by p.0) (negatives ts p.1)
  where
    go : (b : Bool) → is_small (negsuc 0 *ℤ t.by) ≡ true → (are_small (scaled_terms (negsuc 0) ts) ≡ true) × (length (scaled_terms (negsuc 0) ts) ≤ length ts)
        → (are_small (if b then scaled_terms (negsuc 0) ts else record { loc = t.loc; by = negsuc 0 *ℤ t.by } ∷ scaled_terms (negsuc 0) ts) ≡ true) × (length (if b then scaled_terms (negsuc 0) ts else record { loc = t.loc; by = negsuc 0 *ℤ t.by } ∷ scaled_terms (negsuc 0) ts) ≤ suc (length ts))
    go true s later = (later.0, let l = later.1 in omega arith)
    go false s later = (both_true _ _ s later.0, let l = later.1 in omega arith)

pub negative_limited : (ts : List EntryTerm) → are_limited ts ≡ true → are_limited (scaled_terms (negsuc 0) ts) ≡ true
negative_limited ts e =
    let p = and_true (nat_le (length ts) 4) (are_small ts) e in
    let q = negatives ts p.1 in
    let l = q.1 in
    let k : length ts ≤ 4 = let f : nat_le (length ts) 4 ≡ true = p.0 in grind (arith, nat_tests) in
    are_limited-from (scaled_terms (negsuc 0) ts) (omega arith) q.0

-- sums and differences of numbers that are read from their bits
pub small_sum : (a b : ℤ) → is_small a ≡ true → is_small b ≡ true → to_z w64 (of_z w64 (to_z w64 (of_z w64 a) +ℤ to_z w64 (of_z w64 b))) ≡ a +ℤ b
small_sum a b e f = let p = small_is a e in let q = small_is b f in let c = p.0 in let d = p.1 in let g = q.0 in let h = q.1 in omega (arith, ints)

pub small_difference : (a b : ℤ) → is_small a ≡ true → is_small b ≡ true → to_z w64 (of_z w64 (to_z w64 (of_z w64 a) -ℤ to_z w64 (of_z w64 b))) ≡ a +ℤ negsuc 0 *ℤ b
small_difference a b e f = let p = small_is a e in let q = small_is b f in let c = p.0 in let d = p.1 in let g = q.0 in let h = q.1 in omega (arith, ints)

pub constant_sum : (a b : ℤ) → constant_fits a ≡ true → constant_fits b ≡ true → to_z w64 (of_z w64 (to_z w64 (of_z w64 a) +ℤ to_z w64 (of_z w64 b))) ≡ a +ℤ b
constant_sum a b e f = let p = constant_is a e in let q = constant_is b f in let c = p.0 in let d = p.1 in let g = q.0 in let h = q.1 in omega (arith, ints)

pub constant_difference : (a b : ℤ) → constant_fits a ≡ true → constant_fits b ≡ true → to_z w64 (of_z w64 (to_z w64 (of_z w64 a) -ℤ to_z w64 (of_z w64 b))) ≡ a +ℤ negsuc 0 *ℤ b
constant_difference a b e f = let p = constant_is a e in let q = constant_is b f in let c = p.0 in let d = p.1 in let g = q.0 in let h = q.1 in omega (arith, ints)

-- the form of limited parts
pub all_limited : (f : LinearForm) → constant_fits f.constant ≡ true → are_limited f.terms ≡ true → is_small f.first ≡ true → is_small f.second ≡ true → is_small f.third ≡ true → Some f ≡ limited f
all_limited f a b c d e = rw (a, b, c, d, e) refl

pub limited_those : (ts us : List EntryTerm) → Some ts ≡ limited_terms us → are_limited us ≡ true
limited_those ts us = go (are_limited us) refl
  where
    go : (b : Bool) → are_limited us ≡ b → Some ts ≡ (if b then Some us else None) → are_limited us ≡ true
    go true e h = e
    go false e h = absurd (cc)

-- a number within the limits that is read from its bits
pub small_within : (y x z : ℤ) → x ≡ z → (y ≡ x) × (is_small x ≡ true) → (to_z w64 (of_z w64 y) ≡ z) × (is_small z ≡ true)
small_within y x z e p =
    let f = fits_small y (ap is_small p.0 ∙ p.1) in
    (to_z-of_z w64 y f ∙ p.0 ∙ e, sym (ap is_small e) ∙ p.1)

pub constant_within : (y x z : ℤ) → x ≡ z → (y ≡ x) × (constant_fits x ≡ true) → (to_z w64 (of_z w64 y) ≡ z) × (constant_fits z ≡ true)
constant_within y x z e p =
    let f = fits_constant y (ap constant_fits p.0 ∙ p.1) in
    (to_z-of_z w64 y f ∙ p.0 ∙ e, sym (ap constant_fits e) ∙ p.1)

-- the multiple from its parts
pub limited_multiple : (by : ℤ) (f : LinearForm) (k a b d : ℤ) (ts : List EntryTerm) → (k ≡ by *ℤ f.constant) × (constant_fits (by *ℤ f.constant) ≡ true) → Some ts ≡ limited_terms (scaled_terms by f.terms)
    → (a ≡ by *ℤ f.first) × (is_small (by *ℤ f.first) ≡ true) → (b ≡ by *ℤ f.second) × (is_small (by *ℤ f.second) ≡ true) → (d ≡ by *ℤ f.third) × (is_small (by *ℤ f.third) ≡ true)
    → Some (record { constant = k; terms = ts; first = a; second = b; third = d }) ≡ limited (multiple by f)
limited_multiple by f k a b d ts p t q r s =
    let e = are_those ts (scaled_terms by f.terms) t in
    rw (p.0, e, q.0, r.0, s.0) (all_limited (multiple by f) p.1 (limited_those ts (scaled_terms by f.terms) t) q.1 r.1 s.1)

-- The sum of terms in order, from its first term on.
use Rattle.std.proofs.Common.{◌≡◌, ◌≢◌, ℕ, zero, suc, ◌<◌, ◌≤◌, List, [], ◌∷◌, ◌++◌, length, true, false, Bool, ◌&&◌, refl, ap, ◌∙◌, subst, arith, nat_lt, nat_le, ◌==◌, if◌then◌else◌, ℤ, pos, negsuc, ◌+ℤ◌}
use Rattle.std.proofs.lemmas.Bool.Decides.{nat_tests}
use Rattle.linear_forms.specs.Forms.{EntryTerm, is_zero, unless_zero, with_term, merged, AreFrom, is_small, are_small, are_limited}

pub not_zero : (z : ℤ) → z ≢ pos 0 → is_zero z ≡ false
not_zero (pos zero) h = absurd (h refl)
not_zero (pos (suc n)) h = grind (arith, nat_tests)
not_zero (negsuc n) h = refl

pub is_not_zero : (z : ℤ) → is_zero z ≡ false → z ≢ pos 0
is_not_zero (pos n) h e = cc
is_not_zero (negsuc n) h e = cc

pub kept : (t : EntryTerm) (ts : List EntryTerm) → t.by ≢ pos 0 → unless_zero t ts ≡ t ∷ ts
kept t ts h = rw (not_zero t.by h) refl

pub AreFrom-weaker : (low least : ℕ) (ts : List EntryTerm) → low ≤ least → AreFrom least ts → AreFrom low ts
AreFrom-weaker low least [] h a = tt
AreFrom-weaker low least (t ∷ ts) h a = (omega arith, a.1, a.2, a.3)

pub with_term-first : (t : EntryTerm) (us : List EntryTerm) → t.by ≢ pos 0 → AreFrom (suc t.loc) us → with_term t us ≡ t ∷ us
with_term-first t [] h a = kept t [] h
with_term-first t (u ∷ us) h a =
    let e : nat_lt t.loc u.loc ≡ true = let l = a.0 in grind (arith, nat_tests) in
    rw e (kept t (u ∷ us) h)

with_term-last : (t u : EntryTerm) (us : List EntryTerm) → u.loc < t.loc → with_term t (u ∷ us) ≡ u ∷ with_term t us
with_term-last t u us h =
    let e : nat_lt t.loc u.loc ≡ false = grind (arith, nat_tests) in
    let f : (t.loc == u.loc) ≡ false = grind (arith, nat_tests) in
    rw (e, f) refl

pub AreFrom-unless_zero : (low : ℕ) (t : EntryTerm) (ts : List EntryTerm) → low ≤ t.loc → t.loc < 48 → AreFrom (suc t.loc) ts → AreFrom low (unless_zero t ts)
AreFrom-unless_zero low t ts l h a = go (is_zero t.by) refl
  where
    go : (b : Bool) → is_zero t.by ≡ b → AreFrom low (if b then ts else t ∷ ts)
    go true e = AreFrom-weaker low (suc t.loc) ts (omega arith) a
    go false e = (l, h, is_not_zero t.by e, a)

AreFrom-with_term : (low : ℕ) (t : EntryTerm) (us : List EntryTerm) → low ≤ t.loc → t.loc < 48 → AreFrom low us → AreFrom low (with_term t us)
AreFrom-with_term low t [] l h a = AreFrom-unless_zero low t [] l h tt
AreFrom-with_term low t (u ∷ us) l h a = go (nat_lt t.loc u.loc) (t.loc == u.loc) refl refl (λ m. AreFrom-with_term (suc u.loc) t us m h a.3)
  where
    go : (b c : Bool) → nat_lt t.loc u.loc ≡ b → (t.loc == u.loc) ≡ c → (suc u.loc ≤ t.loc → AreFrom (suc u.loc) (with_term t us))
        → AreFrom low (if b then unless_zero t (u ∷ us) else (if c then unless_zero (record { loc = t.loc; by = t.by +ℤ u.by }) us else u ∷ with_term t us))
    go true c e f later = let m : suc t.loc ≤ u.loc = grind (arith, nat_tests) in AreFrom-unless_zero low t (u ∷ us) l h (m, a.1, a.2, a.3)
    go false true e f later =
        let m : u.loc ≡ t.loc = grind (arith, nat_tests) in
        AreFrom-unless_zero low (record { loc = t.loc; by = t.by +ℤ u.by }) us l h (subst (λ x. AreFrom (suc x) us) m a.3)
    go false false e f later = let m : suc u.loc ≤ t.loc = grind (arith, nat_tests) in (a.0, a.1, a.2, later m)

pub AreFrom-merged : (low : ℕ) (ts us : List EntryTerm) → AreFrom low ts → AreFrom low us → AreFrom low (merged ts us)
AreFrom-merged low [] us a b = b
AreFrom-merged low (t ∷ ts) us a b =
    let later : AreFrom low (merged ts us) = AreFrom-merged low ts us (AreFrom-weaker low (suc t.loc) ts (let l = a.0 in omega arith) a.3) b in
    AreFrom-with_term low t (merged ts us) a.0 a.1 later

-- the first term of the first list stands before the second list
pub merged-first : (t : EntryTerm) (ts us : List EntryTerm) (low : ℕ) → AreFrom low (t ∷ ts) → AreFrom (suc t.loc) us → merged (t ∷ ts) us ≡ t ∷ merged ts us
merged-first t ts us low a b = with_term-first t (merged ts us) a.2 (AreFrom-merged (suc t.loc) ts us a.3 b)

-- the first term of the second list stands before the first list
pub merged-second : (u : EntryTerm) (ts us : List EntryTerm) → AreFrom (suc u.loc) ts → merged ts (u ∷ us) ≡ u ∷ merged ts us
merged-second u [] us a = refl
merged-second u (t ∷ ts) us a =
    let later : merged ts (u ∷ us) ≡ u ∷ merged ts us = merged-second u ts us (AreFrom-weaker (suc u.loc) (suc t.loc) ts (let l = a.0 in omega arith) a.3) in
    ap (with_term t) later ∙ with_term-last t u (merged ts us) (let l = a.0 in omega arith)

-- both lists begin at one location
pub merged-both : (t u : EntryTerm) (ts us : List EntryTerm) (low : ℕ) → t.loc ≡ u.loc → AreFrom low (t ∷ ts)
    → merged (t ∷ ts) (u ∷ us) ≡ unless_zero (record { loc = t.loc; by = t.by +ℤ u.by }) (merged ts us)
merged-both t u ts us low e a =
    ap (with_term t) (merged-second u ts us (subst (λ x. AreFrom (suc x) ts) e a.3)) ∙ same
  where
    same : with_term t (u ∷ merged ts us) ≡ unless_zero (record { loc = t.loc; by = t.by +ℤ u.by }) (merged ts us)
    same =
        let f : nat_lt t.loc u.loc ≡ false = grind (arith, nat_tests) in
        let g : (t.loc == u.loc) ≡ true = grind (arith, nat_tests) in
        rw (f, g) refl

pub and_true : (a b : Bool) → (a && b) ≡ true → (a ≡ true) × (b ≡ true)
and_true true b e = (refl, e)
and_true false b e = absurd (cc)

pub both_true : (a b : Bool) → a ≡ true → b ≡ true → (a && b) ≡ true
both_true a b e f = rw (e, f) refl

-- a coefficient that passes the limit
pub are_small-large : (xs : List EntryTerm) (t : EntryTerm) (ys : List EntryTerm) → is_small t.by ≡ false → are_small (xs ++ t ∷ ys) ≡ false
are_small-large [] t ys e = rw e refl
are_small-large (x ∷ xs) t ys e =
    let later : are_small (xs ++ t ∷ ys) ≡ false = are_small-large xs t ys e in
    go (is_small x.by) later
  where
    go : (b : Bool) → are_small (xs ++ t ∷ ys) ≡ false → (b && are_small (xs ++ t ∷ ys)) ≡ false
    go true e = e
    go false e = refl

pub are_small-push : (xs : List EntryTerm) (t : EntryTerm) → are_small xs ≡ true → is_small t.by ≡ true → are_small (xs ++ t ∷ []) ≡ true
are_small-push [] t a e = both_true _ _ e refl
are_small-push (x ∷ xs) t a e =
    let p = and_true (is_small x.by) (are_small xs) a in
    both_true _ _ p.0 (are_small-push xs t p.1 e)

not_both : (a b : Bool) → b ≡ false → (a && b) ≡ false
not_both true b e = e
not_both false b e = refl

pub are_limited-large : (xs : List EntryTerm) (t : EntryTerm) (ys : List EntryTerm) → is_small t.by ≡ false → are_limited (xs ++ t ∷ ys) ≡ false
are_limited-large xs t ys e = not_both (nat_le (length (xs ++ t ∷ ys)) 4) _ (are_small-large xs t ys e)

pub are_limited-long : (ts : List EntryTerm) → 4 < length ts → are_limited ts ≡ false
are_limited-long ts h = let e : nat_le (length ts) 4 ≡ false = grind (arith, nat_tests) in rw e refl

pub are_limited-from : (ts : List EntryTerm) → length ts ≤ 4 → are_small ts ≡ true → are_limited ts ≡ true
are_limited-from ts h e = let f : nat_le (length ts) 4 ≡ true = grind (arith, nat_tests) in both_true _ _ f e

pub are_limited-tail : (t : EntryTerm) (ts : List EntryTerm) → are_limited (t ∷ ts) ≡ true → (is_small t.by ≡ true) × (are_limited ts ≡ true)
are_limited-tail t ts e =
    let p = and_true (nat_le (length (t ∷ ts)) 4) (are_small (t ∷ ts)) e in
    let q = and_true (is_small t.by) (are_small ts) p.1 in
    let h : length ts ≤ 4 = let f : nat_le (suc (length ts)) 4 ≡ true = p.0 in grind (arith, nat_tests) in
    (q.0, are_limited-from ts h q.1)

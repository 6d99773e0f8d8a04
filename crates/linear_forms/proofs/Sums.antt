-- The value of a sum is the sum of the values, and so for multiples; and integers modulo 2 ^ 64.
use Rattle.std.proofs.Common.{◌≡◌, ℕ, ◌*◌, ◌/◌, ◌%◌, ◌^◌, ◌<◌, List, [], ◌∷◌, Bool, true, false, Option, Some, None, IfSome, refl, ap, sym, ◌∙◌, arith, if◌then◌else◌, ◌==◌, nat_lt, pos, negsuc, ℤ, ◌+ℤ◌, ◌-ℤ◌, ◌*ℤ◌, ◌≤ℤ◌, ◌<ℤ◌}
use Rattle.std.proofs.lemmas.Int.{ints}
use Rattle.std.proofs.lemmas.Bool.Decides.{nat_tests}
use borrow.Author.Differences.{up, down, sum_is_lem, product_is}
use Rattle.linear_forms.specs.Forms.{Alike, EntryTerm, LinearForm, weight, exact, word_of, is_zero, unless_zero, with_term, merged, scaled_terms, is_limited, limited, sum_of, multiple, difference, pure, moving}

pub times_plus : (a b c : ℤ) → a *ℤ (b +ℤ c) ≡ a *ℤ b +ℤ a *ℤ c
times_plus a b c =
    let p = ap (λ x. up a * x) (sum_is_lem b c) in
    let q = ap (λ x. down a * x) (sum_is_lem b c) in
    omega (arith, ints)

pub plus_times : (a b c : ℤ) → (a +ℤ b) *ℤ c ≡ a *ℤ c +ℤ b *ℤ c
plus_times a b c =
    let p = ap (λ x. up c * x) (sum_is_lem a b) in
    let q = ap (λ x. down c * x) (sum_is_lem a b) in
    omega (arith, ints)

pub times_times : (a b c : ℤ) → (a *ℤ b) *ℤ c ≡ a *ℤ (b *ℤ c)
times_times a b c =
    let p = product_is a b in
    let q = product_is b c in
    let r = ap (λ x. x * up c) p.0 in
    let s = ap (λ x. x * down c) p.1 in
    let t = ap (λ x. x * down c) p.0 in
    let u = ap (λ x. x * up c) p.1 in
    let v = ap (λ x. up a * x) q.0 in
    let w = ap (λ x. down a * x) q.1 in
    let x = ap (λ x. up a * x) q.1 in
    let y = ap (λ x. down a * x) q.0 in
    omega (arith, ints)

pub same : (a : ℤ) → Alike a a
same a = record { turns = pos 0; is = omega (arith, ints) }

pub alike_from : (a b : ℤ) → a ≡ b → Alike a b
alike_from a b e = record { turns = pos 0; is = omega (arith, ints) }

pub alike_trans : (a b c : ℤ) → Alike a b → Alike b c → Alike a c
alike_trans a b c p q = record { turns = p.turns +ℤ q.turns; is = omega (arith, ints) }

pub alike_add : (a b c d : ℤ) → Alike a b → Alike c d → Alike (a +ℤ c) (b +ℤ d)
alike_add a b c d p q = record { turns = p.turns +ℤ q.turns; is = omega (arith, ints) }

pub alike_sub : (a b c d : ℤ) → Alike a b → Alike c d → Alike (a -ℤ c) (b -ℤ d)
alike_sub a b c d p q = record { turns = p.turns -ℤ q.turns; is = omega (arith, ints) }

pub alike_times : (m a b : ℤ) → Alike a b → Alike (m *ℤ a) (m *ℤ b)
alike_times m a b p =
    record { turns = m *ℤ p.turns; is = ap (λ x. m *ℤ x) p.is ∙ times_plus m b (p.turns *ℤ pos (2 ^ 64)) ∙ ap (λ x. m *ℤ b +ℤ x) (sym (times_times m p.turns (pos (2 ^ 64)))) }

-- a number reduced modulo 2 ^ 64
pub alike_mod : (n : ℕ) → Alike (pos (n % 2 ^ 64)) (pos n)
alike_mod n = record { turns = pos 0 -ℤ pos (n / 2 ^ 64); is = omega (arith, ints) }

-- two numbers below 2 ^ 64 that are the same modulo 2 ^ 64 are equal
pub alike_small : (a b : ℤ) → Alike a b → pos 0 ≤ℤ a → a <ℤ pos (2 ^ 64) → pos 0 ≤ℤ b → b <ℤ pos (2 ^ 64) → a ≡ b
alike_small a b p la ha lb hb = omega (arith, ints)

zero_times : (z x : ℤ) → is_zero z ≡ true → z *ℤ x ≡ pos 0
zero_times (pos n) x e = let k : n ≡ 0 = grind (arith, nat_tests) in rw k (omega (arith, ints))
zero_times (negsuc n) x e = absurd (cc)

pub weight-unless_zero : (entry : ℕ → ℤ) (t : EntryTerm) (ts : List EntryTerm) → weight entry (unless_zero t ts) ≡ t.by *ℤ entry t.loc +ℤ weight entry ts
weight-unless_zero entry t ts = go (is_zero t.by) refl
  where
    go : (b : Bool) → is_zero t.by ≡ b → weight entry (if b then ts else t ∷ ts) ≡ t.by *ℤ entry t.loc +ℤ weight entry ts
    go true e = let z = zero_times t.by (entry t.loc) e in omega (arith, ints)
    go false e = refl

step_less : (entry : ℕ → ℤ) (t u : EntryTerm) (us : List EntryTerm) → weight entry (unless_zero t (u ∷ us)) ≡ t.by *ℤ entry t.loc +ℤ weight entry (u ∷ us)
step_less entry t u us = weight-unless_zero entry t (u ∷ us)

step_same : (entry : ℕ → ℤ) (t u : EntryTerm) (us : List EntryTerm) → t.loc ≡ u.loc → weight entry (unless_zero (record { loc = t.loc; by = t.by +ℤ u.by }) us) ≡ t.by *ℤ entry t.loc +ℤ weight entry (u ∷ us)
step_same entry t u us e =
    let a = weight-unless_zero entry (record { loc = t.loc; by = t.by +ℤ u.by }) us in
    let b = plus_times t.by u.by (entry t.loc) in
    let c : u.by *ℤ entry t.loc ≡ u.by *ℤ entry u.loc = ap (λ l. u.by *ℤ entry l) e in
    omega (arith, ints)

step_more : (entry : ℕ → ℤ) (t u : EntryTerm) (us : List EntryTerm) → weight entry (with_term t us) ≡ t.by *ℤ entry t.loc +ℤ weight entry us → weight entry (u ∷ with_term t us) ≡ t.by *ℤ entry t.loc +ℤ weight entry (u ∷ us)
step_more entry t u us e = omega (arith, ints)

pub weight-with_term : (entry : ℕ → ℤ) (t : EntryTerm) (us : List EntryTerm) → weight entry (with_term t us) ≡ t.by *ℤ entry t.loc +ℤ weight entry us
weight-with_term entry t [] = weight-unless_zero entry t []
weight-with_term entry t (u ∷ us) = go (nat_lt t.loc u.loc) (t.loc == u.loc) refl (weight-with_term entry t us)
  where
    go : (a b : Bool) → (t.loc == u.loc) ≡ b → weight entry (with_term t us) ≡ t.by *ℤ entry t.loc +ℤ weight entry us
        → weight entry (if a then unless_zero t (u ∷ us) else (if b then unless_zero (record { loc = t.loc; by = t.by +ℤ u.by }) us else u ∷ with_term t us)) ≡ t.by *ℤ entry t.loc +ℤ weight entry (u ∷ us)
    go true b e later = step_less entry t u us
    go false true e later = step_same entry t u us (grind (arith, nat_tests))
    go false false e later = step_more entry t u us later

pub weight-merged : (entry : ℕ → ℤ) (ts us : List EntryTerm) → weight entry (merged ts us) ≡ weight entry ts +ℤ weight entry us
weight-merged entry [] us = omega (arith, ints)
weight-merged entry (t ∷ ts) us =
    let a = weight-with_term entry t (merged ts us) in
    let b : weight entry (merged ts us) ≡ weight entry ts +ℤ weight entry us = weight-merged entry ts us in
    omega (arith, ints)

pub weight-scaled : (entry : ℕ → ℤ) (by : ℤ) (ts : List EntryTerm) → weight entry (scaled_terms by ts) ≡ by *ℤ weight entry ts
weight-scaled entry by [] = omega (arith, ints)
weight-scaled entry by (t ∷ ts) =
    let a = weight-unless_zero entry (record { loc = t.loc; by = by *ℤ t.by }) (scaled_terms by ts) in
    let b : weight entry (scaled_terms by ts) ≡ by *ℤ weight entry ts = weight-scaled entry by ts in
    let c = times_plus by (t.by *ℤ entry t.loc) (weight entry ts) in
    let d = times_times by t.by (entry t.loc) in
    a ∙ omega (arith, ints)

pub exact-sum : (f g : LinearForm) (entry : ℕ → ℤ) (t : ℕ → ℕ) → exact (sum_of f g) entry t ≡ exact f entry t +ℤ exact g entry t
exact-sum f g entry t =
    let a = weight-merged entry f.terms g.terms in
    let b = plus_times f.first g.first (pos (t 0)) in
    let c = plus_times f.second g.second (pos (t 1)) in
    let d = plus_times f.third g.third (pos (t 2)) in
    omega (arith, ints)

pub exact-multiple : (by : ℤ) (f : LinearForm) (entry : ℕ → ℤ) (t : ℕ → ℕ) → exact (multiple by f) entry t ≡ by *ℤ exact f entry t
exact-multiple by f entry t =
    let a = weight-scaled entry by f.terms in
    let b = times_plus by (f.constant +ℤ weight entry f.terms) (f.first *ℤ pos (t 0) +ℤ (f.second *ℤ pos (t 1) +ℤ f.third *ℤ pos (t 2))) in
    let c = times_plus by f.constant (weight entry f.terms) in
    let d = times_plus by (f.first *ℤ pos (t 0)) (f.second *ℤ pos (t 1) +ℤ f.third *ℤ pos (t 2)) in
    let e = times_plus by (f.second *ℤ pos (t 1)) (f.third *ℤ pos (t 2)) in
    let g = times_times by f.first (pos (t 0)) in
    let h = times_times by f.second (pos (t 1)) in
    let i = times_times by f.third (pos (t 2)) in
    a_is a (sym (b ∙ ap (λ x. x +ℤ by *ℤ (f.first *ℤ pos (t 0) +ℤ (f.second *ℤ pos (t 1) +ℤ f.third *ℤ pos (t 2)))) c ∙ ap (λ x. by *ℤ f.constant +ℤ by *ℤ weight entry f.terms +ℤ x) (d ∙ ap (λ x. by *ℤ (f.first *ℤ pos (t 0)) +ℤ x) e))) g h i
  where
    a_is : weight entry (scaled_terms by f.terms) ≡ by *ℤ weight entry f.terms
        → by *ℤ f.constant +ℤ by *ℤ weight entry f.terms +ℤ (by *ℤ (f.first *ℤ pos (t 0)) +ℤ (by *ℤ (f.second *ℤ pos (t 1)) +ℤ by *ℤ (f.third *ℤ pos (t 2)))) ≡ by *ℤ exact f entry t
        → (by *ℤ f.first) *ℤ pos (t 0) ≡ by *ℤ (f.first *ℤ pos (t 0)) → (by *ℤ f.second) *ℤ pos (t 1) ≡ by *ℤ (f.second *ℤ pos (t 1)) → (by *ℤ f.third) *ℤ pos (t 2) ≡ by *ℤ (f.third *ℤ pos (t 2))
        → exact (multiple by f) entry t ≡ by *ℤ exact f entry t
    a_is a e g h i = simp (a, g, h, i) e

pub exact-difference : (f g : LinearForm) (entry : ℕ → ℤ) (t : ℕ → ℕ) → exact (difference f g) entry t ≡ exact f entry t -ℤ exact g entry t
exact-difference f g entry t =
    let a = exact-sum f (multiple (negsuc 0) g) entry t in
    let b = exact-multiple (negsuc 0) g entry t in
    let c : negsuc 0 *ℤ exact g entry t ≡ pos 0 -ℤ exact g entry t = omega (arith, ints) in
    a ∙ ap (λ x. exact f entry t +ℤ x) (b ∙ c) ∙ omega (arith, ints)

pub exact-pure : (z : ℤ) (entry : ℕ → ℤ) (t : ℕ → ℕ) → exact (pure z) entry t ≡ z
exact-pure z entry t = omega (arith, ints)

pub limited_is : (f g : LinearForm) → limited f ≡ Some g → f ≡ g
limited_is f g = go (is_limited f)
  where
    go : (b : Bool) → (if b then Some f else None) ≡ Some g → f ≡ g
    go true e = cc
    go false e = absurd (cc)

pub exact-moving : (loc : ℕ) (step : ℤ) (entry : ℕ → ℤ) (t : ℕ → ℕ) → exact (moving loc step) entry t ≡ entry loc +ℤ step *ℤ pos (t 0)
exact-moving loc step entry t = omega (arith, ints)

-- an integer and its word
pub word_alike : (z : ℤ) → Alike (pos (word_of z)) z
word_alike (pos a) = record { turns = pos 0 -ℤ pos (a / 2 ^ 64); is = omega (arith, ints) }
word_alike (negsuc a) = record { turns = pos (a / 2 ^ 64) +ℤ pos 1; is = omega (arith, ints) }

pub word_below : (z : ℤ) → word_of z < 2 ^ 64
word_below (pos a) = omega arith
word_below (negsuc a) = omega arith

pub alike_sym : (a b : ℤ) → Alike a b → Alike b a
alike_sym a b p = record { turns = pos 0 -ℤ p.turns; is = omega (arith, ints) }

-- a word that is the same as an integer is its word
pub word_is : (n : ℕ) (z : ℤ) → n < 2 ^ 64 → Alike (pos n) z → n ≡ word_of z
word_is n z h a =
    let b = word_below z in
    let c = alike_trans _ _ _ a (alike_sym _ _ (word_alike z)) in
    let e : pos n ≡ pos (word_of z) = alike_small (pos n) (pos (word_of z)) c (omega (arith, ints)) (omega (arith, ints)) (omega (arith, ints)) (omega (arith, ints)) in
    cc

pub limited_if : (f : LinearForm) (P : LinearForm → Type 0) → P f → (o : Option LinearForm) → o ≡ limited f → IfSome o P
limited_if f P p o e = rw e (go (is_limited f))
  where
    go : (b : Bool) → IfSome (if b then Some f else None) P
    go true = p
    go false = tt

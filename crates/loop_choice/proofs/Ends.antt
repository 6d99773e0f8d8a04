-- A turn of a nest ends.
use Rattle.std.proofs.Common.{◌≡◌, ◌≢◌, ℕ, zero, suc, ◌+◌, ◌*◌, ◌<◌, ◌≤◌, ◌⊎◌, inl, inr, List, [], ◌∷◌, true, false, Option, Some, None, refl, ap, sym, ◌∙◌, subst, arith, if◌then◌else◌, ◌==◌}
use Rattle.std.proofs.Math.Nat.{mul-le-mul_left}
use Rattle.loop_data.specs.declared.shape.Level.{Level}
use Rattle.loop_data.specs.Nests.{Nest, has, In, levels, Among, Edge, around, IsNest, ClosesNone, IsRank}
use Rattle.loop_data.specs.Passes.{pass, pass_in, passes}
use Rattle.loop_data.proofs.Tests.{eq_of, ne_of, is_eq, is_ne, true_or_false, yes_no}
use Rattle.loop_data.proofs.Arounds.{around_is, around_found, time_at}

-- a pair of digits, by the first
pub lex_first : (a b t u base : ℕ) → a < b → t < base → a * base + t < b * base + u
lex_first a b t u base h lt = let q : base * suc a ≤ base * b = mul-le-mul_left base h in omega arith

pub lex_second : (a b t u base : ℕ) → a ≡ b → t < u → a * base + t < b * base + u
lex_second a b t u base e lt = let q : a * base ≡ b * base = ap (λ x. x * base) e in omega arith

-- where a loop of the depth is round the word, its header's rank, else the word's
abbrev pub place_in : (ℕ → ℕ) → Option Level → ℕ → ℕ
place_in rank (Some l) x = rank l.header
place_in rank None x = rank x

abbrev pub place : Nest → (ℕ → ℕ) → ℕ → ℕ → ℕ
place N rank k x = place_in rank (around (levels N) k x) x

-- how far a visit is in its turn
abbrev pub progress : Nest → (ℕ → ℕ) → ℕ → ℕ → (ℕ → ℕ) → ℕ → ℕ
progress N rank R B pc n =
    (((place N rank 1 (pc n) * B + passes N pc n 1) * R + place N rank 2 (pc n)) * B + passes N pc n 2) * R + rank (pc n)

-- the ranks of the headers round a visit
pub record Ranked (N : Nest) (rank : ℕ → ℕ) (pc : (ℕ → ℕ)) (n : ℕ) : Type 0 where
  pub low : (l : Level) → Among N l → has l.body (pc n) ≡ true → rank l.header ≤ rank (pc n)
  pub outer : (l m : Level) → Among N l → Among N m → has m.body (pc n) ≡ true → has l.body m.header ≡ true → rank l.header ≤ rank m.header

-- the edge closes a loop, or it is forward
back_or : (N : Nest) (u v : ℕ) → ((m : Level) × Among N m × (has m.body u ≡ true) × (v ≡ m.header)) ⊎ ClosesNone N u v
back_or N u v = search_in (levels N)
  where
    search_in : (ls : List Level) → ((m : Level) × In ls m × (has m.body u ≡ true) × (v ≡ m.header)) ⊎ ((l : Level) → In ls l → has l.body u ≡ true → v ≢ l.header)
    search_in [] = inr (λ l i. absurd i)
    search_in (m ∷ ms) = go (true_or_false (has m.body u)) (true_or_false (v == m.header)) (search_in ms)
      where
        up : ((l : Level) × In ms l × (has l.body u ≡ true) × (v ≡ l.header)) ⊎ ((l : Level) → In ms l → has l.body u ≡ true → v ≢ l.header) → (has m.body u ≡ true → v ≢ m.header)
            → ((l : Level) × In (m ∷ ms) l × (has l.body u ≡ true) × (v ≡ l.header)) ⊎ ((l : Level) → In (m ∷ ms) l → has l.body u ≡ true → v ≢ l.header)
        up (inl o) here = inl (o.0, inr o.1, o.2, o.3)
        up (inr o) here = inr (λ l i h. by l i h)
          where
            by : (l : Level) → (m ≡ l) ⊎ In ms l → has l.body u ≡ true → v ≢ l.header
            by l (inl e) h = subst (λ (z : Level). has z.body u ≡ true → v ≢ z.header) e here h
            by l (inr j) h = o l j h

        go : (has m.body u ≡ true) ⊎ (has m.body u ≡ false) → ((v == m.header) ≡ true) ⊎ ((v == m.header) ≡ false)
            → ((l : Level) × In ms l × (has l.body u ≡ true) × (v ≡ l.header)) ⊎ ((l : Level) → In ms l → has l.body u ≡ true → v ≢ l.header)
            → ((l : Level) × In (m ∷ ms) l × (has l.body u ≡ true) × (v ≡ l.header)) ⊎ ((l : Level) → In (m ∷ ms) l → has l.body u ≡ true → v ≢ l.header)
        go (inl h) (inl e) o = inl (m, inl refl, h, eq_of _ _ e)
        go (inl h) (inr e) o = up o (λ h. ne_of _ _ e)
        go (inr h) e o = up o (λ k. absurd (yes_no _ k h))

pub ranked_start : (N : Nest) (rank : ℕ → ℕ) (pc : (ℕ → ℕ)) → IsNest N → pc 0 ≡ N.root.header → Ranked N rank pc 0
ranked_start N rank pc nest start =
    record {
      low = λ l i h. let e = root_only l i h in subst (λ (z : Level). rank z.header ≤ rank (pc 0)) e (let k : rank N.root.header ≡ rank (pc 0) = ap rank (sym start) in omega arith);
      outer = λ l m i j h k. let e = root_only m j h in
          let f : N.root ≡ l = nest.bodies.apart N.root l (inl refl) i (subst (λ (z : Level). has l.body z.header ≡ true) (sym e) k) (nest.bodies.within l i l.header (nest.bodies.header l i)) in
          let g : rank l.header ≡ rank m.header = ap (λ (z : Level). rank z.header) (sym f ∙ e) in omega arith;
    }
  where
    root_only : (l : Level) → Among N l → has l.body (pc 0) ≡ true → N.root ≡ l
    root_only l i h =
        let h' : has l.body N.root.header ≡ true = subst (λ x. has l.body x ≡ true) start h in
        nest.bodies.apart N.root l (inl refl) i h' (nest.bodies.within l i l.header (nest.bodies.header l i))

pub ranked_step : (N : Nest) (rank : ℕ → ℕ) (R : ℕ) (pc : (ℕ → ℕ)) (n : ℕ) → IsNest N → IsRank N rank R → Edge N N.root.body (pc n) (pc (suc n)) → Ranked N rank pc n → Ranked N rank pc (suc n)
ranked_step N rank R pc n nest ranks edge r = record { low = low; outer = outer }
  where
    u : ℕ
    u = pc n

    v : ℕ
    v = pc (suc n)

    low : (l : Level) → Among N l → has l.body v ≡ true → rank l.header ≤ rank v
    low l i hv = go (true_or_false (has l.body u)) (back_or N u v)
      where
        go : (has l.body u ≡ true) ⊎ (has l.body u ≡ false) → ((m : Level) × Among N m × (has m.body u ≡ true) × (v ≡ m.header)) ⊎ ClosesNone N u v → rank l.header ≤ rank v
        go (inr hu) o = let e : rank v ≡ rank l.header = ap rank (nest.bodies.enter l i u v edge hu hv) in omega arith
        go (inl hu) (inl m) =
            let e : rank v ≡ rank (m.0).header = ap rank m.3 in
            let k = r.outer l m.0 i m.1 m.2 (subst (λ x. has l.body x ≡ true) m.3 hv) in
            omega arith
        go (inl hu) (inr f) = let a = r.low l i hu in let b = ranks.up u v edge f in omega arith

    outer : (l m : Level) → Among N l → Among N m → has m.body v ≡ true → has l.body m.header ≡ true → rank l.header ≤ rank m.header
    outer l m i j hv h = go (true_or_false (has m.body u))
      where
        go : (has m.body u ≡ true) ⊎ (has m.body u ≡ false) → rank l.header ≤ rank m.header
        go (inl hu) = r.outer l m i j hu h
        go (inr hu) =
            let e = nest.bodies.enter m j u v edge hu hv in
            let k = low l i (subst (λ x. has l.body x ≡ true) (sym e) h) in
            let f : rank v ≡ rank m.header = ap rank e in
            omega arith

-- along a forward edge, the place of a depth goes up, or it stays with its time
forward_place : (N : Nest) (rank : ℕ → ℕ) (R : ℕ) (pc : (ℕ → ℕ)) (n k : ℕ) → IsNest N → IsRank N rank R → Edge N N.root.body (pc n) (pc (suc n)) → Ranked N rank pc n → ClosesNone N (pc n) (pc (suc n))
    → (place N rank k (pc n) < place N rank k (pc (suc n))) ⊎ ((place N rank k (pc n) ≡ place N rank k (pc (suc n))) × (passes N pc n k ≡ passes N pc (suc n) k))
forward_place N rank R pc n k nest ranks edge r f = go (around (levels N) k v) refl
  where
    u : ℕ
    u = pc n

    v : ℕ
    v = pc (suc n)

    low_place : place N rank k u ≤ rank u
    low_place = by (around (levels N) k u) refl
      where
        by : (o : Option Level) → around (levels N) k u ≡ o → place_in rank o u ≤ rank u
        by None e = omega arith
        by (Some l) e = let i = around_is (levels N) k u l e in r.low l i.0 i.2

    up : rank u < rank v
    up = ranks.up u v edge f

    go : (o : Option Level) → around (levels N) k v ≡ o → (place N rank k u < place_in rank o v) ⊎ ((place N rank k u ≡ place_in rank o v) × (passes N pc n k ≡ pass_in o pc (suc n)))
    go None e = let a = low_place in let b = up in inl (omega arith)
    go (Some l) e =
        let i = around_is (levels N) k v l e in
        by i.0 i.1 i.2 (true_or_false (has l.body u))
      where
        by : Among N l → l.depth ≡ k → has l.body v ≡ true → (has l.body u ≡ true) ⊎ (has l.body u ≡ false) → (place N rank k u < rank l.header) ⊎ ((place N rank k u ≡ rank l.header) × (passes N pc n k ≡ pass l pc (suc n)))
        by i d hv (inr hu) = let q : rank v ≡ rank l.header = ap rank (nest.bodies.enter l i u v edge hu hv) in let a = low_place in let b = up in inl (omega arith)
        by i d hv (inl hu) =
            let o : around (levels N) k u ≡ Some l = subst (λ z. around (levels N) z u ≡ Some l) d (around_found N l u nest i hu) in
            let p : pass l pc (suc n) ≡ pass l pc n = ap (λ b. if b then (if has l.body u then suc (pass l pc n) else 0) else pass l pc n) (is_ne _ _ (f l i hu)) in
            inr (ap (λ o. place_in rank o u) o, ap (λ o. pass_in o pc n) o ∙ sym p)

-- the back edge of a loop: its place stays and its time is one more
back_place : (N : Nest) (rank : ℕ → ℕ) (pc : (ℕ → ℕ)) (n : ℕ) (m : Level) → IsNest N → Among N m → has m.body (pc n) ≡ true → pc (suc n) ≡ m.header
    → (place N rank m.depth (pc n) ≡ place N rank m.depth (pc (suc n))) × (passes N pc (suc n) m.depth ≡ suc (passes N pc n m.depth))
back_place N rank pc n m nest i hu e =
    let hv : has m.body (pc (suc n)) ≡ true = subst (λ x. has m.body x ≡ true) (sym e) (nest.bodies.header m i) in (
      ap (λ o. place_in rank o (pc n)) (around_found N m (pc n) nest i hu) ∙ sym (ap (λ o. place_in rank o (pc (suc n))) (around_found N m (pc (suc n)) nest i hv)),
      time_at N m pc (suc n) nest i hv ∙ ap (λ b. if b then (if has m.body (pc n) then suc (pass m pc n) else 0) else pass m pc n) (is_eq _ _ e) ∙ ap (λ b. if b then suc (pass m pc n) else 0) hu ∙ ap suc (sym (time_at N m pc n nest i hu)),
    )

-- and for a loop of depth 2 the loop round it stays
back_outer : (N : Nest) (rank : ℕ → ℕ) (pc : (ℕ → ℕ)) (n : ℕ) (m : Level) → IsNest N → Among N m → m.depth ≡ 2 → has m.body (pc n) ≡ true → pc (suc n) ≡ m.header
    → (place N rank 1 (pc n) ≡ place N rank 1 (pc (suc n))) × (passes N pc n 1 ≡ passes N pc (suc n) 1)
back_outer N rank pc n m nest i d hu e =
    let b = nest.bodies.between m i d in
    by b.0 b.1 b.2 b.3
  where
    by : (l : Level) → Among N l → l.depth ≡ 1 → has l.body m.header ≡ true → (place N rank 1 (pc n) ≡ place N rank 1 (pc (suc n))) × (passes N pc n 1 ≡ passes N pc (suc n) 1)
    by l j dl h =
        let lu : has l.body (pc n) ≡ true = nest.bodies.nested m l i j h (pc n) hu in
        let lv : has l.body (pc (suc n)) ≡ true = subst (λ x. has l.body x ≡ true) (sym e) h in
        let ou : around (levels N) 1 (pc n) ≡ Some l = subst (λ z. around (levels N) z (pc n) ≡ Some l) dl (around_found N l (pc n) nest j lu) in
        let ov : around (levels N) 1 (pc (suc n)) ≡ Some l = subst (λ z. around (levels N) z (pc (suc n)) ≡ Some l) dl (around_found N l (pc (suc n)) nest j lv) in
        let p : pass l pc (suc n) ≡ pass l pc n = ap (λ b. if b then (if has l.body (pc n) then suc (pass l pc n) else 0) else pass l pc n) (is_ne _ _ (λ q. ne_headers l j dl (sym e ∙ q) h)) in
        (ap (λ o. place_in rank o (pc n)) ou ∙ sym (ap (λ o. place_in rank o (pc (suc n))) ov), ap (λ o. pass_in o pc n) ou ∙ sym p ∙ sym (ap (λ o. pass_in o pc (suc n)) ov))
      where
        ne_headers : (l : Level) → Among N l → l.depth ≡ 1 → m.header ≡ l.header → has l.body m.header ≡ true → ⊥
        ne_headers l j dl q h =
            let k = nest.bodies.apart m l i j h (subst (λ x. has m.body x ≡ true) q (nest.bodies.header m i)) in
            let z : m.depth ≡ l.depth = ap (λ (z : Level). z.depth) k in
            absurd (omega arith)

-- what bounds the digits at a visit
pub record Digits (N : Nest) (rank : ℕ → ℕ) (R B : ℕ) (pc : (ℕ → ℕ)) (n : ℕ) : Type 0 where
  pub second : place N rank 2 (pc n) < R
  pub one : passes N pc n 1 < B
  pub two : passes N pc n 2 < B
  pub last : rank (pc n) < R

up_first : (p p' t t' q q' s s' r r' R B : ℕ) → p < p' → t < B → q < R → s < B → r < R → (((p * B + t) * R + q) * B + s) * R + r < (((p' * B + t') * R + q') * B + s') * R + r'
up_first p p' t t' q q' s s' r r' R B a b c d e =
    lex_first _ _ r r' R (lex_first _ _ s s' B (lex_first _ _ q q' R (lex_first p p' t t' B a b) c) d) e

up_one : (p p' t t' q q' s s' r r' R B : ℕ) → p ≡ p' → t < t' → q < R → s < B → r < R → (((p * B + t) * R + q) * B + s) * R + r < (((p' * B + t') * R + q') * B + s') * R + r'
up_one p p' t t' q q' s s' r r' R B a b c d e =
    lex_first _ _ r r' R (lex_first _ _ s s' B (lex_first _ _ q q' R (lex_second p p' t t' B a b) c) d) e

same_top : (p p' t t' B : ℕ) → p ≡ p' → t ≡ t' → p * B + t ≡ p' * B + t'
same_top p p' t t' B a b = ap (λ x. x * B + t) a ∙ ap (λ x. p' * B + x) b

-- in a turn each step goes on
pub goes_up : (N : Nest) (rank : ℕ → ℕ) (R B : ℕ) (pc : (ℕ → ℕ)) (n : ℕ) → IsNest N → IsRank N rank R → Edge N N.root.body (pc n) (pc (suc n)) → Ranked N rank pc n → Digits N rank R B pc n → pc (suc n) ≢ N.root.header
    → progress N rank R B pc n < progress N rank R B pc (suc n)
goes_up N rank R B pc n nest ranks edge r d turn = go (back_or N u v)
  where
    u : ℕ
    u = pc n

    v : ℕ
    v = pc (suc n)

    t : ℕ → ℕ
    t = passes N pc n

    t' : ℕ → ℕ
    t' = passes N pc (suc n)

    p : ℕ → ℕ
    p k = place N rank k u

    p' : ℕ → ℕ
    p' k = place N rank k v

    forward : ClosesNone N u v → (p 1 < p' 1) ⊎ ((p 1 ≡ p' 1) × (t 1 ≡ t' 1)) → (p 2 < p' 2) ⊎ ((p 2 ≡ p' 2) × (t 2 ≡ t' 2)) → progress N rank R B pc n < progress N rank R B pc (suc n)
    forward f (inl a) o = up_first (p 1) (p' 1) (t 1) (t' 1) (p 2) (p' 2) (t 2) (t' 2) (rank u) (rank v) R B a d.one d.second d.two d.last
    forward f (inr a) (inl b) =
        lex_first _ _ (rank u) (rank v) R (lex_first _ _ (t 2) (t' 2) B (lex_second _ _ (p 2) (p' 2) R (same_top (p 1) (p' 1) (t 1) (t' 1) B a.0 a.1) b) d.two) d.last
    forward f (inr a) (inr b) =
        lex_second _ _ (rank u) (rank v) R (same_top _ _ (t 2) (t' 2) B (same_top _ _ (p 2) (p' 2) R (same_top (p 1) (p' 1) (t 1) (t' 1) B a.0 a.1) b.0) b.1) (ranks.up u v edge f)

    closes : (m : Level) → Among N m → has m.body u ≡ true → v ≡ m.header → (k : ℕ) → m.depth ≡ k → progress N rank R B pc n < progress N rank R B pc (suc n)
    closes m i hu e zero dm =
        absurd (turn (e ∙ ap (λ (z : Level). z.header) (nest.bodies.alone m N.root i (inl refl) (dm ∙ sym nest.bodies.outermost) u hu edge.from)))
    closes m i hu e (suc zero) dm =
        let b = back_place N rank pc n m nest i hu e in
        let a : p 1 ≡ p' 1 = subst (λ k. place N rank k u ≡ place N rank k v) dm b.0 in
        let c : t' 1 ≡ suc (t 1) = subst (λ k. passes N pc (suc n) k ≡ suc (passes N pc n k)) dm b.1 in
        up_one (p 1) (p' 1) (t 1) (t' 1) (p 2) (p' 2) (t 2) (t' 2) (rank u) (rank v) R B a (omega arith) d.second d.two d.last
    closes m i hu e (suc (suc zero)) dm =
        let o = back_outer N rank pc n m nest i dm hu e in
        let b = back_place N rank pc n m nest i hu e in
        let a : p 2 ≡ p' 2 = subst (λ k. place N rank k u ≡ place N rank k v) dm b.0 in
        let c : t' 2 ≡ suc (t 2) = subst (λ k. passes N pc (suc n) k ≡ suc (passes N pc n k)) dm b.1 in
        lex_first _ _ (rank u) (rank v) R (lex_second _ _ (t 2) (t' 2) B (same_top _ _ (p 2) (p' 2) R (same_top (p 1) (p' 1) (t 1) (t' 1) B o.0 o.1) a) (omega arith)) d.last
    closes m i hu e (suc (suc (suc k))) dm = let l = nest.bodies.depth m i in absurd (omega arith)

    go : ((m : Level) × Among N m × (has m.body u ≡ true) × (v ≡ m.header)) ⊎ ClosesNone N u v → progress N rank R B pc n < progress N rank R B pc (suc n)
    go (inl m) = closes m.0 m.1 m.2 m.3 (m.0).depth refl
    go (inr f) = forward f (forward_place N rank R pc n 1 nest ranks edge r f) (forward_place N rank R pc n 2 nest ranks edge r f)

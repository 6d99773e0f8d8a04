-- How the bodies of loops lie to each other.
use Rattle.std.proofs.Common.{◌≡◌, ◌≢◌, ℕ, zero, suc, ◌<◌, ◌⊎◌, inl, inr, List, [], ◌∷◌, length, Bool, true, false, refl, ap, sym, ◌∙◌, subst, arith, if◌then◌else◌, ◌==◌}
use Rattle.loop_data.specs.Nests.{has}
use Rattle.loop_data.proofs.Tests.{eq_of, ne_of, is_ne, true_or_false, yes_no}
use Rattle.loop_shapes.proofs.PathGraphs.{PathGraph, IsPath, IsFromStart, InPathBody, IsClosedPath}

pub has_head : (x h : ℕ) (xs : List ℕ) → has (x ∷ xs) h ≡ false → (x ≢ h) × (has xs h ≡ false)
has_head x h xs = go (x == h) refl
  where
    go : (b : Bool) → (x == h) ≡ b → (if b then true else has xs h) ≡ false → (x ≢ h) × (has xs h ≡ false)
    go true e f = absurd (cc)
    go false e f = (ne_of x h e, f)

has_not : (x h : ℕ) (xs : List ℕ) → x ≢ h → has xs h ≡ false → has (x ∷ xs) h ≡ false
has_not x h xs ne f = ap (λ b. if b then true else has xs h) (is_ne x h ne) ∙ f

-- backwards out of a body one comes only through its header
pub before : (G : PathGraph) (h u x y : ℕ) → G.leads x y ≡ true → y ≢ h → InPathBody G h u y → InPathBody G h u x
before G h u x y e ne (inl q) = absurd (ne q)
before G h u x y e ne (inr r) = go (x == h) refl
  where
    go : (b : Bool) → (x == h) ≡ b → InPathBody G h u x
    go true q = inl (eq_of x h q)
    go false q = inr (record { words = y ∷ r.words; path = (e, r.path); avoids = has_not x h (y ∷ r.words) (ne_of x h q) r.avoids })

pub backwards : (G : PathGraph) (h u : ℕ) (xs : List ℕ) (x y : ℕ) → IsPath G xs x y → has (x ∷ xs) h ≡ false → InPathBody G h u y → InPathBody G h u x
backwards G h u [] x y p f b = subst (InPathBody G h u) (sym p) b
backwards G h u (z ∷ zs) x y p f b =
    let a = has_head x h (z ∷ zs) f in
    before G h u x z p.0 (has_head z h zs a.1).0 (backwards G h u zs z y p.1 a.1 b)

-- from a start word each path into a body passes its header
pub passes : (G : PathGraph) (h u s x : ℕ) (xs : List ℕ) → IsClosedPath G h u → G.starts s ≡ true → IsPath G xs s x → InPathBody G h u x → has (s ∷ xs) h ≡ true
passes G h u s x xs c st p b = go (true_or_false (has (s ∷ xs) h))
  where
    go : (has (s ∷ xs) h ≡ true) ⊎ (has (s ∷ xs) h ≡ false) → has (s ∷ xs) h ≡ true
    go (inl e) = e
    go (inr e) = absurd ((has_head s h xs e).0 (c.starts s (backwards G h u xs s x p e b) st))

-- a path up to a word that it passes, which is shorter where that is not its end
pub record First (G : PathGraph) (s y : ℕ) (n : ℕ) : Type 0 where
  pub words : List ℕ
  pub path : IsPath G words s y
  pub shorter : length words < n

prefix : (G : PathGraph) (xs : List ℕ) (s x y : ℕ) → IsPath G xs s x → has (s ∷ xs) y ≡ true → y ≢ x → First G s y (length xs)
prefix G [] s x y p h ne = go (s == y) refl h
  where
    go : (b : Bool) → (s == y) ≡ b → (if b then true else false) ≡ true → First G s y 0
    go true e f = absurd (ne (sym (eq_of s y e) ∙ p))
    go false e f = absurd (cc)
prefix G (z ∷ zs) s x y p h ne = go (s == y) refl h (λ k. prefix G zs z x y p.1 k ne)
  where
    go : (b : Bool) → (s == y) ≡ b → (if b then true else has (z ∷ zs) y) ≡ true → (has (z ∷ zs) y ≡ true → First G z y (length zs)) → First G s y (suc (length zs))
    go true e f later = record { words = []; path = eq_of s y e; shorter = omega arith }
    go false e f later =
        let r = later f in
        let l = r.shorter in
        record { words = z ∷ r.words; path = (p.0, r.path); shorter = omega arith }

-- two headers do not lie in each other's bodies: else each path to one passes the other before
descend : (G : PathGraph) (h u k w s : ℕ) → IsClosedPath G h u → IsClosedPath G k w → h ≢ k → InPathBody G k w h → InPathBody G h u k → G.starts s ≡ true → (n : ℕ) (xs : List ℕ) → length xs < n → (x : ℕ) → (x ≡ h) ⊎ (x ≡ k) → IsPath G xs s x → ⊥
descend G h u k w s c d ne ih ik st zero xs lt x at p = absurd (omega arith)
descend G h u k w s c d ne ih ik st (suc n) xs lt x (inl e) p =
    let f = prefix G xs s x k p (passes G k w s x xs d st p (subst (InPathBody G k w) (sym e) ih)) (λ q. ne (sym (q ∙ e))) in
    let l = f.shorter in
    descend G h u k w s c d ne ih ik st n f.words (omega arith) k (inr refl) f.path
descend G h u k w s c d ne ih ik st (suc n) xs lt x (inr e) p =
    let f = prefix G xs s x h p (passes G h u s x xs c st p (subst (InPathBody G h u) (sym e) ik)) (λ q. ne (q ∙ e)) in
    let l = f.shorter in
    descend G h u k w s c d ne ih ik st n f.words (omega arith) h (inl refl) f.path

pub apart : (G : PathGraph) (h u k w : ℕ) → IsClosedPath G h u → IsClosedPath G k w → InPathBody G k w h → InPathBody G h u k → h ≡ k
apart G h u k w c d ih ik = go (h == k) refl
  where
    go : (b : Bool) → (h == k) ≡ b → h ≡ k
    go true e = eq_of h k e
    go false e = absurd (descend G h u k w c.reached.start c d (ne_of h k e) ih ik c.reached.starts (suc (length c.reached.words)) c.reached.words (omega arith) h (inl refl) c.reached.path)

-- from the last place at which a path passes y
pub record Last (G : PathGraph) (y x : ℕ) (xs : List ℕ) : Type 0 where
  pub words : List ℕ
  pub path : IsPath G words y x
  pub avoids : has words y ≡ false
  pub among : (z : ℕ) → has xs z ≡ false → has words z ≡ false

pub suffix : (G : PathGraph) (xs : List ℕ) (s x y : ℕ) → IsPath G xs s x → has (s ∷ xs) y ≡ true → Last G y x xs
suffix G [] s x y p h = go (s == y) refl h
  where
    go : (b : Bool) → (s == y) ≡ b → (if b then true else false) ≡ true → Last G y x []
    go true e f = record { words = []; path = sym (eq_of s y e) ∙ p; avoids = refl; among = λ z n. n }
    go false e f = absurd (cc)
suffix G (z ∷ zs) s x y p h = go (true_or_false (has (z ∷ zs) y)) (λ k. suffix G zs z x y p.1 k)
  where
    tail : (q : ℕ) → has (z ∷ zs) q ≡ false → has zs q ≡ false
    tail q n = (has_head z q zs n).1

    by : (b : Bool) → (s == y) ≡ b → (if b then true else has (z ∷ zs) y) ≡ true → has (z ∷ zs) y ≡ false → Last G y x (z ∷ zs)
    by true e f n = record { words = z ∷ zs; path = subst (λ q. (G.leads q z ≡ true) × IsPath G zs z x) (eq_of s y e) p; avoids = n; among = λ q m. m }
    by false e f n = absurd (yes_no _ f n)

    go : (has (z ∷ zs) y ≡ true) ⊎ (has (z ∷ zs) y ≡ false) → (has (z ∷ zs) y ≡ true → Last G y x zs) → Last G y x (z ∷ zs)
    go (inl k) later = let r = later k in record { words = r.words; path = r.path; avoids = r.avoids; among = λ q n. r.among q (tail q n) }
    go (inr k) later = by (s == y) refl h k

-- where two bodies meet, one holds the other's header
pub meet : (G : PathGraph) (h u k w x : ℕ) → IsClosedPath G h u → IsClosedPath G k w → h ≢ k → IsFromStart G x → InPathBody G h u x → InPathBody G k w x → InPathBody G h u k ⊎ InPathBody G k w h
meet G h u k w x c d ne r ih ik = go (true_or_false (has (h ∷ (l).words) k))
  where
    l : Last G h x r.words
    l = suffix G r.words r.start x h r.path (passes G h u r.start x r.words c r.starts r.path ih)

    go : (has (h ∷ l.words) k ≡ true) ⊎ (has (h ∷ l.words) k ≡ false) → InPathBody G h u k ⊎ InPathBody G k w h
    go (inr n) = inr (backwards G k w l.words h x l.path n ik)
    go (inl e) =
        let m = suffix G l.words h x k l.path e in
        inl (backwards G h u m.words k x m.path (has_not k h m.words (λ q. ne (sym q)) (m.among h l.avoids)) ih)

-- a loop whose header lies in another's body lies in it whole
pub nested : (G : PathGraph) (h u k w x : ℕ) → IsClosedPath G h u → IsClosedPath G k w → h ≢ k → InPathBody G k w h → InPathBody G h u x → InPathBody G k w x
nested G h u k w x c d ne ih (inl e) = subst (InPathBody G k w) (sym e) ih
nested G h u k w x c d ne ih (inr r) = go (true_or_false (has (x ∷ r.words) k))
  where
    go : (has (x ∷ r.words) k ≡ true) ⊎ (has (x ∷ r.words) k ≡ false) → InPathBody G k w x
    go (inl e) =
        let m = suffix G r.words x u k r.path e in
        let b : InPathBody G h u k = inr (record { words = m.words; path = m.path; avoids = has_not k h m.words (λ q. ne (sym q)) (m.among h (has_head x h r.words r.avoids).1) }) in
        absurd (ne (apart G h u k w c d ih b))
    go (inr n) = backwards G k w r.words x u r.path n (before G k w u h c.edge ne ih)

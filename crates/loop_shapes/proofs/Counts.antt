-- How many members a set has.
use Rattle.std.proofs.Common.{◌≡◌, ◌≢◌, ℕ, suc, ◌<◌, ◌≤◌, ◌⊎◌, inl, inr, List, [], ◌∷◌, length, refl, ap, sym, ◌∙◌, subst, arith}
use Rattle.loop_data.specs.Sets.{HasAtMost, IsListOf, HasCount}
use Rattle.loop_data.proofs.Lists.{In, to_in, from_in, Apart, pigeons, apart_from_increasing}

pub each_in : (P : ℕ → Type 0) (xs : List ℕ) → IsListOf P xs → (x : ℕ) → In xs x → P x
each_in P xs l x i = l.each x (from_in xs x i)

pub every_in : (P : ℕ → Type 0) (xs : List ℕ) → IsListOf P xs → (x : ℕ) → P x → In xs x
every_in P xs l x p = to_in xs x (l.every x p)

pub apart_in : (P : ℕ → Type 0) (xs : List ℕ) → IsListOf P xs → Apart xs
apart_in P xs l = apart_from_increasing xs l.ordered

pub fewer : (P Q : ℕ → Type 0) (m n : ℕ) → HasCount P m → HasCount Q n → ((x : ℕ) → P x → Q x) → (y : ℕ) → Q y → (P y → ⊥) → m < n
fewer P Q m n p q sub y qy absent =
    let a : length (y ∷ p.members) ≤ length q.members = pigeons (y ∷ p.members) q.members (λ i. absent (each_in P p.members p.are y i), apart_in P p.members p.are) all in
    let b = p.count in
    let c = q.count in
    let d : length (y ∷ p.members) ≡ suc (length p.members) = refl in
    omega arith
  where
    all : (x : ℕ) → (y ≡ x) ⊎ In p.members x → In q.members x
    all x (inl e) = every_in Q q.members q.are x (subst Q e qy)
    all x (inr i) = every_in Q q.members q.are x (sub x (each_in P p.members p.are x i))

pub at_most : (P : ℕ → Type 0) (n k : ℕ) → HasCount P n → HasAtMost k P → n ≤ k
at_most P n k p h =
    let a : length p.members ≤ length h.members = pigeons p.members h.members (apart_in P p.members p.are) (λ x i. to_in h.members x (h.all x (each_in P p.members p.are x i))) in
    let b = p.count in
    let c = h.bound in
    omega arith

pub none : (P : ℕ → Type 0) (n : ℕ) → HasCount P n → ((x : ℕ) → P x → ⊥) → n ≡ 0
none P n p absent = go p.members refl
  where
    go : (xs : List ℕ) → p.members ≡ xs → n ≡ 0
    go [] e = sym p.count ∙ ap length e
    go (x ∷ xs) e = absurd (absent x (each_in P p.members p.are x (subst (λ (ys : List ℕ). In ys x) (sym e) (inl refl))))

pub just_one : (P : ℕ → Type 0) (n a : ℕ) → HasCount P n → P a → ((x : ℕ) → P x → x ≡ a) → n ≡ 1
just_one P n a p pa only =
    let x : length p.members ≤ length (a ∷ []) = pigeons p.members (a ∷ []) (apart_in P p.members p.are) (λ x i. inl (sym (only x (each_in P p.members p.are x i)))) in
    let y : length (a ∷ []) ≤ length p.members = pigeons (a ∷ []) p.members ((λ i. absurd i), tt) all in
    let b = p.count in
    let d : length (a ∷ []) ≡ 1 = refl in
    omega arith
  where
    all : (x : ℕ) → (a ≡ x) ⊎ ⊥ → In p.members x
    all x (inl e) = every_in P p.members p.are x (subst P e pa)
    all x (inr i) = absurd i

-- of two members one is another than the first, and there is no third
pub record Second (P : ℕ → Type 0) (a : ℕ) : Type 0 where
  pub other : ℕ
  pub holds : P other
  pub differs : other ≢ a
  pub only : (x : ℕ) → P x → (x ≡ a) ⊎ (x ≡ other)

pub second : (P : ℕ → Type 0) (a : ℕ) → HasCount P 2 → P a → Second P a
second P a p pa = go p.members refl p.count
  where
    two : (x y : ℕ) → p.members ≡ x ∷ y ∷ [] → (x ≡ a) ⊎ (y ≡ a) → Second P a
    two x y e (inl q) = record { other = y; holds = each_in P p.members p.are y (subst (λ (zs : List ℕ). In zs y) (sym e) (inr (inl refl))); differs = λ r. (subst Apart e (apart_in P p.members p.are)).0 (inl (r ∙ sym q)); only = λ z pz. by z (subst (λ (zs : List ℕ). In zs z) e (every_in P p.members p.are z pz)) }
      where
        by : (z : ℕ) → In (x ∷ y ∷ []) z → (z ≡ a) ⊎ (z ≡ y)
        by z (inl r) = inl (sym r ∙ q)
        by z (inr (inl r)) = inr (sym r)
        by z (inr (inr r)) = absurd r
    two x y e (inr q) = record { other = x; holds = each_in P p.members p.are x (subst (λ (zs : List ℕ). In zs x) (sym e) (inl refl)); differs = λ r. (subst Apart e (apart_in P p.members p.are)).0 (inl (q ∙ sym r)); only = λ z pz. by z (subst (λ (zs : List ℕ). In zs z) e (every_in P p.members p.are z pz)) }
      where
        by : (z : ℕ) → In (x ∷ y ∷ []) z → (z ≡ a) ⊎ (z ≡ x)
        by z (inl r) = inr (sym r)
        by z (inr (inl r)) = inl (sym r ∙ q)
        by z (inr (inr r)) = absurd r

    go : (xs : List ℕ) → p.members ≡ xs → length p.members ≡ 2 → Second P a
    go [] e c = let d : length p.members ≡ 0 = ap length e in absurd (omega arith)
    go (x ∷ []) e c = let d : length p.members ≡ 1 = ap length e in absurd (omega arith)
    go (x ∷ y ∷ []) e c = two x y e (by (subst (λ (zs : List ℕ). In zs a) e (every_in P p.members p.are a pa)))
      where
        by : In (x ∷ y ∷ []) a → (x ≡ a) ⊎ (y ≡ a)
        by (inl r) = inl r
        by (inr (inl r)) = inr r
        by (inr (inr r)) = absurd r
    go (x ∷ y ∷ z ∷ zs) e c = let d : length p.members ≡ suc (suc (suc (length zs))) = ap length e in absurd (omega arith)

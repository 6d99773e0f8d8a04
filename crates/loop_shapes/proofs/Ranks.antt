-- Where no way of edges that close no loop comes back to its start, the longest ways are a rank.
use Rattle.std.proofs.Common.{◌≡◌, ◌≢◌, ℕ, zero, suc, ◌<◌, ◌≤◌, ◌⊎◌, inl, inr, List, [], ◌∷◌, length, Bool, true, false, ◌&&◌, refl, ap, sym, ◌∙◌, subst, arith, if◌then◌else◌, ◌==◌, max}
use native.Mathlib.Decide.{dec_le}
use Rattle.loop_data.specs.declared.shape.Level.{Level}
use Rattle.loop_data.specs.Nests.{Nest, has, In, levels, Edge, ClosesNone, IsRank}
use Rattle.loop_data.proofs.Tests.{eq_of, is_eq, true_or_false, and_true, true_and}

-- the edge closes none of these loops
abbrev is_open : List Level → ℕ → ℕ → Bool
is_open [] u v = true
is_open (l ∷ ls) u v = if has l.body u && (v == l.header) then false else is_open ls u v

-- an edge of the root's body that closes no loop
abbrev pub is_forward : Nest → ℕ → ℕ → Bool
is_forward N u v = has N.root.body u && (has N.root.body v && (N.leads u v && is_open (levels N) u v))

abbrev most_of : (ℕ → ℕ) → List ℕ → ℕ
most_of f [] = 0
most_of f (u ∷ us) = max (f u) (most_of f us)

-- the steps of the longest forward way to v, up to n of them
abbrev pub longest : Nest → ℕ → ℕ → ℕ
longest N zero v = 0
longest N (suc n) v = most_of (λ u. if is_forward N u v then suc (longest N n u) else 0) N.root.body

open_is : (ls : List Level) (u v : ℕ) → ((l : Level) → In ls l → has l.body u ≡ true → v ≢ l.header) → is_open ls u v ≡ true
open_is [] u v f = refl
open_is (l ∷ ls) u v f = go (has l.body u && (v == l.header)) refl (open_is ls u v (λ m i. f m (inr i)))
  where
    go : (b : Bool) → (has l.body u && (v == l.header)) ≡ b → is_open ls u v ≡ true → (if b then false else is_open ls u v) ≡ true
    go true e later = let a = and_true _ _ e in absurd (f l (inl refl) a.0 (eq_of v l.header a.1))
    go false e later = later

pub is_open_edge : (ls : List Level) (u v : ℕ) → is_open ls u v ≡ true → (l : Level) → In ls l → has l.body u ≡ true → v ≢ l.header
is_open_edge [] u v e l i h q = absurd i
is_open_edge (m ∷ ms) u v e l i h q = go (has m.body u && (v == m.header)) refl e i (λ f j. is_open_edge ms u v f l j h q)
  where
    go : (b : Bool) → (has m.body u && (v == m.header)) ≡ b → (if b then false else is_open ms u v) ≡ true → (m ≡ l) ⊎ In ms l → (is_open ms u v ≡ true → In ms l → ⊥) → ⊥
    go true f e i later = absurd (cc)
    go false f e (inl j) later = let a = true_and (has m.body u) (v == m.header) (subst (λ (z : Level). has z.body u ≡ true) (sym j) h) (is_eq v m.header (q ∙ sym (ap (λ (z : Level). z.header) j))) in absurd (cc)
    go false f e (inr j) later = later e j

pub forward_is : (N : Nest) (u v : ℕ) → Edge N N.root.body u v → ClosesNone N u v → is_forward N u v ≡ true
forward_is N u v d f = true_and _ _ d.from (true_and _ _ d.to (true_and _ _ d.leads (open_is (levels N) u v f)))

pub is_forward_edge : (N : Nest) (u v : ℕ) → is_forward N u v ≡ true → Edge N N.root.body u v × ClosesNone N u v
is_forward_edge N u v e =
    let a = and_true _ _ e in
    let b = and_true _ _ a.1 in
    let c = and_true _ _ b.1 in
    (record { from = a.0; to = b.0; leads = c.0 }, is_open_edge (levels N) u v c.1)

most_above : (f : ℕ → ℕ) (us : List ℕ) (u : ℕ) → has us u ≡ true → f u ≤ most_of f us
most_above f [] u h = absurd (cc)
most_above f (x ∷ xs) u h = go (x == u) refl h (most_above f xs u)
  where
    go : (b : Bool) → (x == u) ≡ b → (if b then true else has xs u) ≡ true → (has xs u ≡ true → f u ≤ most_of f xs) → f u ≤ max (f x) (most_of f xs)
    go true e h later = let q : f x ≡ f u = ap f (eq_of x u e) in omega arith
    go false e h later = let l = later h in omega arith

most_below : (f : ℕ → ℕ) (us : List ℕ) (k : ℕ) → ((u : ℕ) → f u ≤ k) → most_of f us ≤ k
most_below f [] k g = omega arith
most_below f (x ∷ xs) k g = let a = g x in let b : most_of f xs ≤ k = most_below f xs k g in omega arith

most_at : (f : ℕ → ℕ) (us : List ℕ) (k : ℕ) → most_of f us ≡ suc k → (u : ℕ) × (f u ≡ suc k)
most_at f [] k e = absurd (omega arith)
most_at f (x ∷ xs) k e = go (dec_le (most_of f xs) (f x)) (most_at f xs k)
  where
    go : Dec (most_of f xs ≤ f x) → (most_of f xs ≡ suc k → (u : ℕ) × (f u ≡ suc k)) → (u : ℕ) × (f u ≡ suc k)
    go (yes l) later = (x, omega arith)
    go (no l) later = later (omega arith)

most_same : (f g : ℕ → ℕ) (us : List ℕ) → ((u : ℕ) → has us u ≡ true → f u ≡ g u) → most_of f us ≡ most_of g us
most_same f g [] e = refl
most_same f g (x ∷ xs) e =
    let a : f x ≡ g x = e x (ap (λ b. if b then true else has xs x) (is_eq x x refl)) in
    let b : most_of f xs ≡ most_of g xs = most_same f g xs (λ u h. e u (up u h)) in
    ap (λ z. max z (most_of f xs)) a ∙ ap (λ z. max (g x) z) b
  where
    up : (u : ℕ) → has xs u ≡ true → has (x ∷ xs) u ≡ true
    up u h = go (x == u)
      where
        go : (b : Bool) → (if b then true else has xs u) ≡ true
        go true = refl
        go false = h

-- a forward way to x, the newest word first
abbrev pub IsChain : Nest → List ℕ → ℕ → Type 0
IsChain N [] x = Unit {0}
IsChain N (y ∷ ys) x = (is_forward N y x ≡ true) × IsChain N ys y

longest_le : (N : Nest) (n v : ℕ) → longest N n v ≤ n
longest_le N zero v = omega arith
longest_le N (suc n) v = most_below _ N.root.body (suc n) (λ u. go u (is_forward N u v) (longest_le N n u))
  where
    go : (u : ℕ) (b : Bool) → longest N n u ≤ n → (if b then suc (longest N n u) else 0) ≤ suc n
    go u true l = omega arith
    go u false l = omega arith

-- where n steps are the longest, some way has as many
pub record Way (N : Nest) (n v : ℕ) : Type 0 where
  pub words : List ℕ
  pub chain : IsChain N words v
  pub count : length words ≡ n

longest_way : (N : Nest) (n v : ℕ) → longest N n v ≡ n → Way N n v
longest_way N zero v e = record { words = []; chain = tt; count = refl }
longest_way N (suc n) v e = let a = most_at _ N.root.body n e in go a.0 (is_forward N a.0 v) refl a.1 (longest_way N n a.0)
  where
    go : (u : ℕ) (b : Bool) → is_forward N u v ≡ b → (if b then suc (longest N n u) else 0) ≡ suc n → (longest N n u ≡ n → Way N n u) → Way N (suc n) v
    go u true f e later =
        let w = later (omega arith) in
        record { words = u ∷ w.words; chain = (f, w.chain); count = ap suc w.count }
    go u false f e later = absurd (omega arith)

-- below the most, one step more gives no longer way
longest_stays : (N : Nest) (n v : ℕ) → longest N n v < n → longest N (suc n) v ≡ longest N n v
longest_stays N zero v l = absurd (omega arith)
longest_stays N (suc n) v l = most_same _ _ N.root.body (λ u h. go u h (is_forward N u v) refl (longest_stays N n u))
  where
    go : (u : ℕ) → has N.root.body u ≡ true → (b : Bool) → is_forward N u v ≡ b → (longest N n u < n → longest N (suc n) u ≡ longest N n u) → (if b then suc (longest N (suc n) u) else 0) ≡ (if b then suc (longest N n u) else 0)
    go u h true f later =
        let a : suc (longest N n u) ≤ longest N (suc n) v = subst (λ c. (if c then suc (longest N n u) else 0) ≤ longest N (suc n) v) f (most_above (λ u. if is_forward N u v then suc (longest N n u) else 0) N.root.body u h) in
        ap suc (later (omega arith))
    go u h false f later = refl

abbrev without : ℕ → List ℕ → List ℕ
without x [] = []
without x (y ∷ ys) = if y == x then ys else y ∷ without x ys

length_without : (x : ℕ) (ys : List ℕ) → has ys x ≡ true → suc (length (without x ys)) ≡ length ys
length_without x [] h = absurd (cc)
length_without x (y ∷ ys) h = go (y == x) h (length_without x ys)
  where
    go : (b : Bool) → (if b then true else has ys x) ≡ true → (has ys x ≡ true → suc (length (without x ys)) ≡ length ys) → suc (length (if b then ys else y ∷ without x ys)) ≡ suc (length ys)
    go true h later = refl
    go false h later = ap suc (later h)

has_without : (x z : ℕ) (ys : List ℕ) → z ≢ x → has ys z ≡ true → has (without x ys) z ≡ true
has_without x z [] ne h = h
has_without x z (y ∷ ys) ne h = go (y == x) (y == z) refl refl h (has_without x z ys ne)
  where
    go : (a b : Bool) → (y == x) ≡ a → (y == z) ≡ b → (if b then true else has ys z) ≡ true → (has ys z ≡ true → has (without x ys) z ≡ true) → has (if a then ys else y ∷ without x ys) z ≡ true
    go true true e f h later = let p = eq_of y x e in let q = eq_of y z f in absurd (ne (sym q ∙ p))
    go true false e f h later = h
    go false true e f h later = rw f refl
    go false false e f h later = rw f (later h)

abbrev Distinct : List ℕ → Type 0
Distinct [] = Unit {0}
Distinct (x ∷ xs) = (has xs x ≡ false) × Distinct xs

at_most : (xs ys : List ℕ) → Distinct xs → ((z : ℕ) → has xs z ≡ true → has ys z ≡ true) → length xs ≤ length ys
at_most [] ys d all = omega arith
at_most (x ∷ xs) ys d all =
    let here : has ys x ≡ true = all x (let e = is_eq x x refl in rw e refl) in
    let later : length xs ≤ length (without x ys) = at_most xs (without x ys) d.1 (λ z h. has_without x z ys (λ e. ne z h e) (all z (up z h))) in
    let n = length_without x ys here in
    omega arith
  where
    ne : (z : ℕ) → has xs z ≡ true → z ≡ x → ⊥
    ne z h e = let k = subst (λ y. has xs y ≡ true) e h in let m = d.0 in absurd (cc)

    up : (z : ℕ) → has xs z ≡ true → has (x ∷ xs) z ≡ true
    up z h = go (x == z)
      where
        go : (b : Bool) → (if b then true else has xs z) ≡ true
        go true = refl
        go false = h

-- a relation that forward edges lead along, and in which nothing comes back to itself
module _ (N : Nest) (Q : ℕ → ℕ → Type 0) (one : (u v : ℕ) → is_forward N u v ≡ true → Q u v) (more : (u v w : ℕ) → Q u v → is_forward N v w ≡ true → Q u w) (none : (x : ℕ) → Q x x → ⊥) where
  led : (ys : List ℕ) (x z : ℕ) → IsChain N ys x → has ys z ≡ true → Q z x
  led [] x z c h = absurd (cc)
  led (y ∷ ys) x z c h = go (y == z) refl h (led ys y z c.1)
    where
      go : (b : Bool) → (y == z) ≡ b → (if b then true else has ys z) ≡ true → (has ys z ≡ true → Q z y) → Q z x
      go true e h later = subst (λ w. Q w x) (eq_of y z e) (one y x c.0)
      go false e h later = more z y x (later h) c.0

  distinct : (ys : List ℕ) (x : ℕ) → IsChain N ys x → Distinct (x ∷ ys)
  distinct [] x c = (refl, tt)
  distinct (y ∷ ys) x c = (go (true_or_false (has (y ∷ ys) x)), distinct ys y c.1)
    where
      go : (has (y ∷ ys) x ≡ true) ⊎ (has (y ∷ ys) x ≡ false) → has (y ∷ ys) x ≡ false
      go (inl e) = absurd (none x (led (y ∷ ys) x x c e))
      go (inr e) = e

  inside : (ys : List ℕ) (x : ℕ) → has N.root.body x ≡ true → IsChain N ys x → (z : ℕ) → has (x ∷ ys) z ≡ true → has N.root.body z ≡ true
  inside [] x i c z h = go (x == z) refl h
    where
      go : (b : Bool) → (x == z) ≡ b → (if b then true else false) ≡ true → has N.root.body z ≡ true
      go true e h = subst (λ w. has N.root.body w ≡ true) (eq_of x z e) i
      go false e h = absurd (cc)
  inside (y ∷ ys) x i c z h = go (x == z) refl h (inside ys y ((is_forward_edge N y x c.0).0).from c.1 z)
    where
      go : (b : Bool) → (x == z) ≡ b → (if b then true else has (y ∷ ys) z) ≡ true → (has (y ∷ ys) z ≡ true → has N.root.body z ≡ true) → has N.root.body z ≡ true
      go true e h later = subst (λ w. has N.root.body w ≡ true) (eq_of x z e) i
      go false e h later = later h

  few : (v : ℕ) → has N.root.body v ≡ true → longest N (length N.root.body) v < length N.root.body
  few v i = go (dec_le (suc (longest N (length N.root.body) v)) (length N.root.body))
    where
      go : Dec (suc (longest N (length N.root.body) v) ≤ length N.root.body) → longest N (length N.root.body) v < length N.root.body
      go (yes l) = l
      go (no l) =
          let le = longest_le N (length N.root.body) v in
          let w = longest_way N (length N.root.body) v (omega arith) in
          let d : length (v ∷ w.words) ≤ length N.root.body = at_most (v ∷ w.words) N.root.body (distinct w.words v w.chain) (inside w.words v i w.chain) in
          let c = w.count in
          let e : length (v ∷ w.words) ≡ suc (length w.words) = refl in
          absurd (omega arith)

  pub rank_is : IsRank N (longest N (length N.root.body)) (length N.root.body)
  rank_is = record { up = up; below = few }
    where
      up : (u v : ℕ) → Edge N N.root.body u v → ClosesNone N u v → longest N (length N.root.body) u < longest N (length N.root.body) v
      up u v d f =
          let e = forward_is N u v d f in
          let a : suc (longest N (length N.root.body) u) ≤ longest N (suc (length N.root.body)) v =
          subst (λ c. (if c then suc (longest N (length N.root.body) u) else 0) ≤ longest N (suc (length N.root.body)) v) e (most_above (λ u. if is_forward N u v then suc (longest N (length N.root.body) u) else 0) N.root.body u d.from) in
          let s = longest_stays N (length N.root.body) v (few v d.to) in
          omega arith

-- The sources of the words of a loop are the edges that close no loop of its nest, and have a rank.
use Rattle.std.proofs.Common.{◌≡◌, ◌≢◌, ℕ, zero, suc, ◌<◌, ◌≤◌, ◌⊎◌, inl, inr, ◌==◌, ◌&&◌, Bool, true, false, if◌then◌else◌, nat_lt, List, [], ◌∷◌, length, get_or, refl, ap, sym, ◌∙◌, subst, arith}
use Rattle.std.specs.List.{All, Contains}
use Rattle.std.specs.List.Sorted.{IsStrictlyIncreasing}
use Rattle.std.proofs.lemmas.Bool.{cases_eq}
use Rattle.std.proofs.lemmas.Bool.Decides.{nat_tests}
use Rattle.std.proofs.lemmas.List.{get_or_default}
use Rattle.std.proofs.lemmas.List.Elements.{Contains-get_or}
use Rattle.loop_data.specs.declared.graph.Graph.{Graph}
use Rattle.loop_data.specs.declared.shape.Level.{Level}
use Rattle.loop_data.specs.Nests.{Nest, has, nest_of, In, Among, Holds}
use Rattle.loop_data.specs.LoopWords.{AreNest}
use Rattle.loop_data.specs.LoopCode.{IsForwardIn}
use Rattle.loop_data.specs.Flows.{row_at, at, closes_one, HasSources, HasRowRank}
use Rattle.loop_data.proofs.Tests.{eq_of, is_eq, and_true, true_and}
use Rattle.loop_data.proofs.Steps.{leads_is, is_leads, has_contains, contains_has}

-- the edge closes none of the loops
pub closes_none : (ls : List Level) (u v : ℕ) → closes_one ls u v ≡ false → (l : Level) → In ls l → Holds l u → v ≢ l.header
closes_none [] u v e l i h q = absurd i
closes_none (m ∷ ms) u v e l i h q = go ((m.header == v) && has m.body u) refl e i (λ f j. closes_none ms u v f l j h q)
  where
    go : (b : Bool) → ((m.header == v) && has m.body u) ≡ b → (if b then true else closes_one ms u v) ≡ false → (m ≡ l) ⊎ In ms l → (closes_one ms u v ≡ false → In ms l → ⊥) → ⊥
    go true f e i later = absurd (cc)
    go false f e (inl j) later =
        let a = true_and (m.header == v) (has m.body u) (is_eq m.header v (ap (λ (z : Level). z.header) j ∙ sym q)) (subst (λ (z : Level). has z.body u ≡ true) (sym j) h) in
        absurd (cc)
    go false f e (inr j) later = later e j

pub none_closes : (ls : List Level) (u v : ℕ) → ((l : Level) → In ls l → Holds l u → v ≢ l.header) → closes_one ls u v ≡ false
none_closes [] u v f = refl
none_closes (m ∷ ms) u v f = go ((m.header == v) && has m.body u) refl (none_closes ms u v (λ l i. f l (inr i)))
  where
    go : (b : Bool) → ((m.header == v) && has m.body u) ≡ b → closes_one ms u v ≡ false → (if b then true else closes_one ms u v) ≡ false
    go true e later = let a = and_true (m.header == v) (has m.body u) e in absurd (f m (inl refl) a.1 (sym (eq_of m.header v a.0)))
    go false e later = later

has_at : (body : List ℕ) (k : ℕ) → k < length body → has body (at body k) ≡ true
has_at body k l = contains_has body (at body k) (Contains-get_or body k 0 l)

-- the words of a row are those from which an edge leads to its place that closes no loop
pub sources_forward : (G : Graph) (root : Level) (inner : List Level) (body : List ℕ) (rows : List (List ℕ)) → HasSources G (root ∷ inner) body (length body) rows
    → (j k : ℕ) → Contains (row_at rows j) k → (k < length body) × IsForwardIn (nest_of G root inner) body (at body k) (at body j)
sources_forward G root inner body rows s j k c =
    let r = s.each j k c in (
      r.0,
      record {
        edge = record { from = has_at body k r.0; to = has_at body j r.1; leads = leads_is G (at body k) (at body j) r.2.leads };
        closes = closes_none (root ∷ inner) (at body k) (at body j) r.2.stays_open;
      },
    )

pub forward_sources : (G : Graph) (root : Level) (inner : List Level) (body : List ℕ) (rows : List (List ℕ)) → HasSources G (root ∷ inner) body (length body) rows
    → (j k : ℕ) → k < length body → j < length body → IsForwardIn (nest_of G root inner) body (at body k) (at body j) → Contains (row_at rows j) k
forward_sources G root inner body rows s j k lk lj f =
    s.every j k lk lj (record { leads = is_leads G (at body k) (at body j) f.edge.leads; stays_open = none_closes (root ∷ inner) (at body k) (at body j) f.closes })

-- a word of the body stands at a place
pub place_of_word : (body : List ℕ) (u : ℕ) → has body u ≡ true → (k : ℕ) × (k < length body) × (at body k ≡ u)
place_of_word body u h = let c = has_contains body u h in (c.0, c.1, get_or_default body c.0 0 u c.1 ∙ c.2)

-- how many of the first n places have a number below t
abbrev below : (ℕ → ℕ) → ℕ → ℕ → ℕ
below r zero t = 0
below r (suc n) t = if nat_lt (r n) t then suc (below r n t) else below r n t

below_most : (r : ℕ → ℕ) (n t : ℕ) → below r n t ≤ n
below_most r zero t = omega arith
below_most r (suc n) t = go (nat_lt (r n) t) (below_most r n t)
  where
    go : (b : Bool) → below r n t ≤ n → (if b then suc (below r n t) else below r n t) ≤ suc n
    go true l = omega arith
    go false l = omega arith

below_less : (r : ℕ → ℕ) (n q t : ℕ) → q < n → t ≤ r q → below r n t < n
below_less r zero q t l h = absurd (omega arith)
below_less r (suc n) q t l h = go (nat_lt (r n) t) refl (cases_eq q n) (below_most r n t) (λ m. below_less r n q t m h)
  where
    go : (b : Bool) → nat_lt (r n) t ≡ b → (q ≡ n) ⊎ (q ≢ n) → below r n t ≤ n → (q < n → below r n t < n) → (if b then suc (below r n t) else below r n t) < suc n
    go true e (inl i) m rec = let k : r q ≡ r n = ap r i in let lt : r n < t = grind (arith, nat_tests) in absurd (omega arith)
    go true e (inr i) m rec = let lt = rec (omega arith) in omega arith
    go false e i m rec = omega arith

below_grows : (r : ℕ → ℕ) (n s t : ℕ) → s ≤ t → below r n s ≤ below r n t
below_grows r zero s t h = omega arith
below_grows r (suc n) s t h = go (nat_lt (r n) s) (nat_lt (r n) t) refl refl (below_grows r n s t h)
  where
    go : (a b : Bool) → nat_lt (r n) s ≡ a → nat_lt (r n) t ≡ b → below r n s ≤ below r n t → (if a then suc (below r n s) else below r n s) ≤ (if b then suc (below r n t) else below r n t)
    go true true e f l = omega arith
    go true false e f l = let x : r n < s = grind (arith, nat_tests) in let y : t ≤ r n = grind (arith, nat_tests) in absurd (omega arith)
    go false true e f l = omega arith
    go false false e f l = l

below_more : (r : ℕ → ℕ) (n q t : ℕ) → q < n → r q < t → below r n (r q) < below r n t
below_more r zero q t l h = absurd (omega arith)
below_more r (suc n) q t l h = go (nat_lt (r n) (r q)) (nat_lt (r n) t) refl refl (cases_eq q n) (below_grows r n (r q) t (omega arith)) (λ m. below_more r n q t m h)
  where
    go : (a b : Bool) → nat_lt (r n) (r q) ≡ a → nat_lt (r n) t ≡ b → (q ≡ n) ⊎ (q ≢ n) → below r n (r q) ≤ below r n t → (q < n → below r n (r q) < below r n t) → (if a then suc (below r n (r q)) else below r n (r q)) < (if b then suc (below r n t) else below r n t)
    go true b e f (inl i) m rec = let k : r q ≡ r n = ap r i in let x : r n < r q = grind (arith, nat_tests) in absurd (omega arith)
    go false true e f (inl i) m rec = omega arith
    go false false e f (inl i) m rec = let k : r q ≡ r n = ap r i in let y : t ≤ r n = grind (arith, nat_tests) in absurd (omega arith)
    go true true e f (inr i) m rec = let x = rec (omega arith) in omega arith
    go true false e f (inr i) m rec = let x : r n < r q = grind (arith, nat_tests) in let y : t ≤ r n = grind (arith, nat_tests) in absurd (omega arith)
    go false true e f (inr i) m rec = let x = rec (omega arith) in omega arith
    go false false e f (inr i) m rec = rec (omega arith)

pub listed_in : (ls : List Level) (i : ℕ) (l : Level) → i < length ls → get_or ls i l ≡ l → In ls l
listed_in [] i l m e = absurd (omega arith)
listed_in (x ∷ xs) zero l m e = inl e
listed_in (x ∷ xs) (suc i) l m e = inr (listed_in xs i l (omega arith) e)

-- the rows of a loop of a nest have a rank, below the number of its words
pub row_rank : (G : Graph) (ls : List Level) (nest : AreNest G ls) (l : Level) → In ls l → (rows : List (List ℕ)) → HasSources G ls l.body (length l.body) rows → HasRowRank rows
row_rank G ls nest l i rows s = record { rank = rank; is = record { up = up; below = least } }
  where
    N : Nest
    N = nest_of G nest.root nest.inner

    among : Among N l
    among = subst (λ (xs : List Level). In xs l) nest.are i

    s' : HasSources G (nest.root ∷ nest.inner) l.body (length l.body) rows
    s' = subst (λ (xs : List Level). HasSources G xs l.body (length l.body) rows) nest.are s

    r : ℕ → ℕ
    r p = nest.nest.shapes.ranked.rank (at l.body p)

    rank : ℕ → ℕ
    rank p = below r (length l.body) (r p)

    in_root : (u : ℕ) → has l.body u ≡ true → has N.root.body u ≡ true
    in_root u h = nest.nest.bodies.within l among u h

    up : (j k : ℕ) → Contains (row_at rows j) k → (k < length rows) × (rank k < rank j)
    up j k c =
        let f = sources_forward G nest.root nest.inner l.body rows s' j k c in
        let e = s.count in
        let a = f.0 in
        let d = f.1.edge in
        let lt = nest.nest.shapes.ranked.is.up (at l.body k) (at l.body j) (record { from = in_root _ d.from; to = in_root _ d.to; leads = d.leads }) f.1.closes in
        (omega arith, below_more r (length l.body) k (r j) a lt)

    least : (j : ℕ) → j < length rows → rank j < length rows
    least j m =
        let e = s.count in
        let x = below_less r (length l.body) j (r j) (omega arith) (omega arith) in
        omega arith

-- each level of a nest has its words in order
pub levels_ordered : (G : Graph) (ls : List Level) → AreNest G ls → All (λ (l : Level). IsStrictlyIncreasing l.body) ls
levels_ordered G ls nest i d l =
    let x = get_or ls i d in
    nest.ordered x (subst (λ (xs : List Level). In xs x) nest.are (listed_in ls i x l (sym (get_or_default ls i d x l))))

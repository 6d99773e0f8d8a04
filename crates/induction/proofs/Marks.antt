-- What is written on all ways, from marks at the words.
use Rattle.std.proofs.Common.{◌≡◌, ◌≢◌, ℕ, zero, suc, ◌<◌, ◌⊎◌, inl, inr, List, [], ◌∷◌, Bool, true, false, ◌||◌, refl, ap, sym, ◌∙◌, subst, arith}
use Rattle.std.proofs.lemmas.Bool.{cases_eq}
use Rattle.loop_data.specs.declared.shape.Level.{Level}
use Rattle.loop_data.specs.Nests.{Nest, has, In, Among, Holds, Edge, IsRank, IsPassTo, IsPass, IsNest}
use Rattle.loop_data.specs.LoopCode.{LoopCode, writes, any_writes, IsForwardIn}
use Rattle.loop_data.proofs.Tests.{true_or_false, yes_no}
use Rattle.induction.specs.Marks.{marked_after, AreWriteMarks}

pub or_true : (a b : Bool) → (a || b) ≡ true → (a ≡ true) ⊎ (b ≡ true)
or_true true b e = inl refl
or_true false b e = inr e

pub or_left : (a b : Bool) → a ≡ true → (a || b) ≡ true
or_left true b e = refl
or_left false b e = absurd (cc)

pub or_right : (a b : Bool) → b ≡ true → (a || b) ≡ true
or_right true b e = refl
or_right false b e = e

pub or_false : (a b : Bool) → (a || b) ≡ false → (a ≡ false) × (b ≡ false)
or_false true b e = absurd (cc)
or_false false b e = (refl, e)

pub false_or : (a b : Bool) → a ≡ false → b ≡ false → (a || b) ≡ false
false_or true b e f = absurd (cc)
false_or false b e f = f

-- an edge inside a loop is one inside the root
pub edge_in_root : (N : Nest) (l : Level) (u v : ℕ) → IsNest N → Among N l → Edge N l.body u v → Edge N N.root.body u v
edge_in_root N l u v nest i edge =
    record { from = nest.bodies.within l i u edge.from; to = nest.bodies.within l i v edge.to; leads = edge.leads }

-- an edge closes a loop or none
abbrev Closing : List Level → ℕ → ℕ → Type 0
Closing ls u v = ((m : Level) × In ls m × Holds m u × (v ≡ m.header)) ⊎ ((m : Level) → In ls m → Holds m u → v ≢ m.header)

closing : (ls : List Level) (u v : ℕ) → Closing ls u v
closing [] u v = inr (λ m i. absurd i)
closing (l ∷ ls) u v = by (closing ls u v) (true_or_false (has l.body u)) (cases_eq v l.header)
  where
    by : Closing ls u v → (has l.body u ≡ true) ⊎ (has l.body u ≡ false) → (v ≡ l.header) ⊎ (v ≢ l.header) → Closing (l ∷ ls) u v
    by (inl c) h e = inl (c.0, inr c.1, c.2, c.3)
    by (inr n) (inl h) (inl e) = inl (l, inl refl, h, e)
    by (inr n) (inl h) (inr e) = inr none
      where
        none : (m : Level) → In (l ∷ ls) m → Holds m u → v ≢ m.header
        none m (inl q) k = subst (λ (z : Level). v ≢ z.header) q e
        none m (inr i) k = n m i k
    by (inr n) (inr h) e = inr none
      where
        none : (m : Level) → In (l ∷ ls) m → Holds m u → v ≢ m.header
        none m (inl q) k = absurd (yes_no (has l.body u) (subst (λ (z : Level). has z.body u ≡ true) (sym q) k) h)
        none m (inr i) k = n m i k

-- the marks of a loop of a nest
pub record Given (N : Nest) (B : LoopCode) (l : Level) (r : ℕ) (M : ℕ → Bool) : Type 0 where
  pub nest : IsNest N
  pub among : Among N l
  pub marks : AreWriteMarks N B l r M

-- where the header of an inner loop has the mark, all of its words have it
inside : (N : Nest) (B : LoopCode) (l m : Level) (r : ℕ) (M : ℕ → Bool) → Given N B l r M → Among N m → Holds l m.header → m.header ≢ l.header → M m.header ≡ true → (rank : ℕ → ℕ) (bound : ℕ) → IsRank N rank bound → (n u : ℕ) → rank u < n → Holds m u → M u ≡ true
inside N B l m r M g j at other marked rank bound is zero u lt h = absurd (omega arith)
inside N B l m r M g j at other marked rank bound is (suc n) u lt h = by (λ w. inside N B l m r M g j at other marked rank bound is n w) (cases_eq u m.header) (true_or_false (M u))
  where
    held : Holds l u
    held = g.nest.bodies.nested m l j g.among at u h

    below : u ≢ l.header
    below e = other (ap (λ (z : Level). z.header) (g.nest.bodies.apart m l j g.among at (subst (λ z. Holds m z) e h)))

    absent : ((w : ℕ) → rank w < n → Holds m w → M w ≡ true) → u ≢ m.header → M u ≡ false → ⊥
    absent later ne f = let k = up in from (true_or_false (has m.body b.0)) (later b.0 (omega arith))
      where
        b : (w : ℕ) × IsForwardIn N l.body w u × (marked_after B M w r ≡ false)
        b = g.marks.some u held below f

        edge : Edge N N.root.body b.0 u
        edge = edge_in_root N l b.0 u g.nest g.among (b.1).edge

        up : rank b.0 < rank u
        up = is.up b.0 u edge (b.1).closes

        from : (has m.body b.0 ≡ true) ⊎ (has m.body b.0 ≡ false) → (Holds m b.0 → M b.0 ≡ true) → ⊥
        from (inl k) later = yes_no (M b.0) (later k) (or_false (M b.0) (writes B b.0 r) b.2).0
        from (inr k) later = ne (g.nest.bodies.enter m j b.0 u edge k h)

    by : ((w : ℕ) → rank w < n → Holds m w → M w ≡ true) → (u ≡ m.header) ⊎ (u ≢ m.header) → (M u ≡ true) ⊎ (M u ≡ false) → M u ≡ true
    by later (inl e) t = subst (λ z. M z ≡ true) (sym e) marked
    by later (inr ne) (inl t) = t
    by later (inr ne) (inr f) = absurd (absent later ne f)

-- along each edge the mark comes from the word before or from what that writes
along : (N : Nest) (B : LoopCode) (l : Level) (r : ℕ) (M : ℕ → Bool) → Given N B l r M → (u v : ℕ) → Edge N l.body u v → v ≢ l.header → M v ≡ true → marked_after B M u r ≡ true
along N B l r M g u v edge ne t = by (closing (N.root ∷ N.inner) u v)
  where
    by : Closing (N.root ∷ N.inner) u v → marked_after B M u r ≡ true
    by (inl c) =
        let rank = g.nest.shapes.ranked in
        let at : Holds l (c.0).header = subst (λ z. has l.body z ≡ true) c.3 edge.to in
        let other : (c.0).header ≢ l.header = λ q. ne (c.3 ∙ q) in
        let mark : M (c.0).header ≡ true = subst (λ z. M z ≡ true) c.3 t in
        or_left (M u) (writes B u r) (inside N B l c.0 r M g c.1 at other mark rank.rank rank.bound rank.is (suc (rank.rank u)) u (omega arith) c.2)
    by (inr n) = g.marks.each u v (record { edge = edge; closes = n }) ne t

-- each way to a word with the mark has a write
pub marked : (N : Nest) (B : LoopCode) (l : Level) (r : ℕ) (M : ℕ → Bool) → Given N B l r M → (us : List ℕ) (x : ℕ) → IsPassTo N l us x → M x ≡ true → any_writes B us r ≡ true
marked N B l r M g [] x w t = absurd (yes_no (M l.header) (subst (λ z. M z ≡ true) w t) g.marks.header)
marked N B l r M g (y ∷ ys) x w t = by (or_true (M y) (writes B y r) (along N B l r M g y x w.0 w.1 t)) (marked N B l r M g ys y w.2)
  where
    by : (M y ≡ true) ⊎ (writes B y r ≡ true) → (M y ≡ true → any_writes B ys r ≡ true) → any_writes B (y ∷ ys) r ≡ true
    by (inl k) later = or_right (writes B y r) (any_writes B ys r) (later k)
    by (inr k) later = or_left (writes B y r) (any_writes B ys r) k

-- a way to a word on which nothing writes
pub record HasUnwritten (N : Nest) (B : LoopCode) (l : Level) (r x : ℕ) : Type 0 where
  pub words : List ℕ
  pub way : IsPassTo N l words x
  pub none : any_writes B words r ≡ false

unmarked_below : (N : Nest) (B : LoopCode) (l : Level) (r : ℕ) (M : ℕ → Bool) → Given N B l r M → (rank : ℕ → ℕ) (bound : ℕ) → IsRank N rank bound → (n v : ℕ) → rank v < n → Holds l v → M v ≡ false → HasUnwritten N B l r v
unmarked_below N B l r M g rank bound is zero v lt h f = absurd (omega arith)
unmarked_below N B l r M g rank bound is (suc n) v lt h f = by (cases_eq v l.header) (λ u. unmarked_below N B l r M g rank bound is n u)
  where
    by : (v ≡ l.header) ⊎ (v ≢ l.header) → ((u : ℕ) → rank u < n → Holds l u → M u ≡ false → HasUnwritten N B l r u) → HasUnwritten N B l r v
    by (inl e) later = record { words = []; way = e; none = refl }
    by (inr ne) later =
        let b = g.marks.some v h ne f in
        let up = is.up b.0 v (edge_in_root N l b.0 v g.nest g.among (b.1).edge) (b.1).closes in
        let o = or_false (M b.0) (writes B b.0 r) b.2 in
        let w = later b.0 (omega arith) (b.1).edge.from o.0 in
        record { words = b.0 ∷ w.words; way = ((b.1).edge, ne, w.way); none = false_or (writes B b.0 r) (any_writes B w.words r) o.1 w.none }

-- to a word without the mark leads a way on which nothing writes
pub unmarked : (N : Nest) (B : LoopCode) (l : Level) (r : ℕ) (M : ℕ → Bool) → Given N B l r M → (v : ℕ) → Holds l v → M v ≡ false → HasUnwritten N B l r v
unmarked N B l r M g v h f =
    let rank = g.nest.shapes.ranked in
    unmarked_below N B l r M g rank.rank rank.bound rank.is (suc (rank.rank v)) v (omega arith) h f

-- each pass writes, where the mark is there after the word that closes the loop
pub written_on_each : (N : Nest) (B : LoopCode) (l : Level) (r : ℕ) (M : ℕ → Bool) → Given N B l r M → marked_after B M l.back r ≡ true → (us : List ℕ) → IsPass N l us → any_writes B us r ≡ true
written_on_each N B l r M g t [] p = absurd p
written_on_each N B l r M g t (y ∷ ys) p = by (or_true (M y) (writes B y r) (subst (λ z. marked_after B M z r ≡ true) (sym (g.nest.shapes.back l g.among y p.0)) t))
  where
    by : (M y ≡ true) ⊎ (writes B y r ≡ true) → any_writes B (y ∷ ys) r ≡ true
    by (inl k) = or_right (writes B y r) (any_writes B ys r) (marked N B l r M g ys y p.1 k)
    by (inr k) = or_left (writes B y r) (any_writes B ys r) k

-- where it is not, a pass does not write
pub unwritten_pass : (N : Nest) (B : LoopCode) (l : Level) (r : ℕ) (M : ℕ → Bool) → Given N B l r M → marked_after B M l.back r ≡ false → (us : List ℕ) × IsPass N l us × (any_writes B us r ≡ false)
unwritten_pass N B l r M g f =
    let edge = g.nest.shapes.closes l g.among in
    let o = or_false (M l.back) (writes B l.back r) f in
    let w = unmarked N B l r M g l.back edge.from o.0 in
    (l.back ∷ w.words, (edge, w.way), false_or (writes B l.back r) (any_writes B w.words r) o.1 w.none)

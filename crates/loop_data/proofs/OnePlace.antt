-- The places of the loops round a word among the levels of a nest.
use Rattle.std.proofs.Common.{◌≡◌, ℕ, zero, suc, ◌<◌, inl, inr, List, [], ◌∷◌, length, get_or, refl, ap, sym, ◌∙◌, subst, arith}
use Rattle.loop_data.specs.declared.graph.Graph.{Graph}
use Rattle.loop_data.specs.declared.shape.Level.{Level}
use Rattle.loop_data.specs.LoopWords.{AreNest}
use Rattle.loop_data.specs.Nests.{In, AreDistinct, Among, Holds, nest_of}
use Rattle.loop_data.specs.Results.{IsInnermost, IsAround}
use Rattle.loop_data.proofs.FlowEdges.{listed_in}

one_of_distinct : (ls : List Level) → AreDistinct ls → (i j : ℕ) (l : Level) → i < length ls → j < length ls → get_or ls i l ≡ l → get_or ls j l ≡ l → i ≡ j
one_of_distinct [] a i j l m n e f = absurd (omega arith)
one_of_distinct (x ∷ xs) a zero zero l m n e f = refl
one_of_distinct (x ∷ xs) a zero (suc j) l m n e f = absurd (a.0 (subst (In xs) (sym e) (listed_in xs j l (omega arith) f)))
one_of_distinct (x ∷ xs) a (suc i) zero l m n e f = absurd (a.0 (subst (In xs) (sym f) (listed_in xs i l (omega arith) e)))
one_of_distinct (x ∷ xs) a (suc i) (suc j) l m n e f = ap suc (one_of_distinct xs a.1 i j l (omega arith) (omega arith) e f)

module _ (G : Graph) (ls : List Level) (nest : AreNest G ls) where
  distinct : AreDistinct ls
  distinct = subst AreDistinct (sym nest.are) (alone, nest.nest.bodies.distinct)
    where
      alone : In nest.inner nest.root → ⊥
      alone i = nest.nest.bodies.inner_header nest.root i refl

  -- a loop stands at one place
  pub one_at : (i j : ℕ) (l m : Level) → i < length ls → j < length ls → get_or ls i l ≡ l → get_or ls j m ≡ m → l ≡ m → i ≡ j
  one_at i j l m b c e f q = one_of_distinct ls distinct i j l b c e (subst (λ (x : Level). get_or ls j x ≡ x) (sym q) f)

  among : (i : ℕ) (l : Level) → i < length ls → get_or ls i l ≡ l → Among (nest_of G nest.root nest.inner) l
  among i l b e = subst (λ (xs : List Level). In xs l) nest.are (listed_in ls i l b e)

  -- there is one loop of a depth round a word
  pub one_of_depth : (i j : ℕ) (l m : Level) (u : ℕ) → i < length ls → j < length ls → get_or ls i l ≡ l → get_or ls j m ≡ m → Holds l u → Holds m u → l.depth ≡ m.depth → i ≡ j
  one_of_depth i j l m u b c e f h k d = one_at i j l m b c e f (nest.nest.bodies.alone l m (among i l b e) (among j m c f) d u h k)

  pub one_innermost : (u i j : ℕ) → IsInnermost ls u i → IsInnermost ls u j → i ≡ j
  one_innermost u i j a b =
      let low = b.innermost a.loop (i, a.within, a.at) a.holds in
      let high = a.innermost b.loop (j, b.within, b.at) b.holds in
      one_of_depth i j a.loop b.loop u a.within b.within a.at b.at a.holds b.holds (omega arith)

  pub one_around : (u k i j : ℕ) → IsAround ls u k i → IsAround ls u k j → i ≡ j
  one_around u k i j (inl a) (inl b) = one_of_depth i j a.0 b.0 u a.1 b.1 a.2 b.2 a.3 b.3 (a.4 ∙ sym b.4)
  one_around u k i j (inl a) (inr b) = absurd (b.0 a.0 (i, a.1, a.2) a.4 a.3)
  one_around u k i j (inr a) (inl b) = absurd (a.0 b.0 (j, b.1, b.2) b.4 b.3)
  one_around u k i j (inr a) (inr b) = a.1 ∙ sym b.1

-- Of two vectors one alone comes before the other.
use Rattle.std.proofs.Common.{◌≡◌, ℕ, List, [], ◌∷◌, inl, inr, sym, arith}
use Rattle.std.specs.Prelude.{◌⊎◌}
use Rattle.distance_vectors.specs.Distances.{ranks, AreBefore, ComesBefore, OneDistanceLaw}

not_both : (xs ys : List ℕ) → AreBefore xs ys → AreBefore ys xs → ⊥
not_both [] ys h i = h
not_both (x ∷ xs) [] h i = h
not_both (x ∷ xs) (y ∷ ys) (inl p) (inl q) = omega arith
not_both (x ∷ xs) (y ∷ ys) (inl p) (inr q) = let e = q.0 in omega arith
not_both (x ∷ xs) (y ∷ ys) (inr p) (inl q) = let e = p.0 in omega arith
not_both (x ∷ xs) (y ∷ ys) (inr p) (inr q) = not_both xs ys p.1 q.1

pub one_distance : OneDistanceLaw
one_distance a b k l f g = go (f.first l g.among g.meet) (g.first k f.among f.meet)
  where
    go : (l ≡ k) ⊎ ComesBefore k l → (k ≡ l) ⊎ ComesBefore l k → k ≡ l
    go (inl e) h = sym e
    go (inr c) (inl e) = e
    go (inr c) (inr d) = absurd (not_both (ranks k) (ranks l) c d)

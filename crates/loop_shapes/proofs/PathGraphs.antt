-- Paths along edges that are tests, and the bodies of loops by them.
use Rattle.std.specs.Prelude.{ℕ, ◌≡◌, ◌⊎◌, Bool, true, false, List, [], ◌∷◌}
use Rattle.loop_data.specs.Nests.{has}

pub record PathGraph : Type 0 where
  pub leads : ℕ → ℕ → Bool
  pub starts : ℕ → Bool

-- from x the words xs lead, in order, to u
abbrev pub IsPath : PathGraph → List ℕ → ℕ → ℕ → Type 0
IsPath G [] x u = x ≡ u
IsPath G (y ∷ ys) x u = (G.leads x y ≡ true) × IsPath G ys y u

-- a path from x to u that does not pass h
pub record IsPast (G : PathGraph) (h x u : ℕ) : Type 0 where
  pub words : List ℕ
  pub path : IsPath G words x u
  pub avoids : has (x ∷ words) h ≡ false

-- a word is reached: some path leads to it from a start word
pub record IsFromStart (G : PathGraph) (x : ℕ) : Type 0 where
  pub start : ℕ
  pub starts : G.starts start ≡ true
  pub words : List ℕ
  pub path : IsPath G words start x

-- the set B(h, u)
abbrev pub InPathBody : PathGraph → ℕ → ℕ → ℕ → Type 0
InPathBody G h u x = (x ≡ h) ⊎ IsPast G h x u

-- the edge from u to h is closed, but for the number of words
pub record IsClosedPath (G : PathGraph) (h u : ℕ) : Type 0 where
  pub edge : G.leads u h ≡ true
  pub reached : IsFromStart G h
  pub starts : (x : ℕ) → InPathBody G h u x → G.starts x ≡ true → x ≡ h

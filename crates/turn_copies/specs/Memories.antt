-- Memories of the same areas, and a memory after accesses.
use Rattle.std.specs.Prelude.{ℕ, ◌≡◌, List, [], ◌∷◌, length}
use Rattle.rv64_decode.specs.Area.{Area, byte_at}
use Rattle.rv64_decode.specs.Ask.{Ask, after}

-- two memories of the same areas with the same permissions, whatever their bytes
abbrev pub SameAreas : List Area → List Area → Type 0
SameAreas [] [] = Unit {0}
SameAreas (a ∷ rest) [] = ⊥
SameAreas [] (b ∷ others) = ⊥
SameAreas (a ∷ rest) (b ∷ others) =
    (a.low ≡ b.low) × (a.readable ≡ b.readable) × (a.writable ≡ b.writable) × (a.executable ≡ b.executable)
    × (length a.bytes ≡ length b.bytes) × SameAreas rest others

-- two memories of the same areas with the same bytes at these addresses
pub record Agree (at : ℕ → Type 0) (m n : List Area) : Type 0 where
  pub areas : SameAreas m n
  pub bytes : (b : ℕ) → at b → byte_at m b ≡ byte_at n b

-- the memory after these accesses, one after the other
abbrev pub replayed : List Area → List Ask → List Area
replayed m [] = m
replayed m (ask ∷ asks) = replayed (after m ask) asks

-- The bytes of segments.
use Rattle.std.proofs.Common.{ℕ, zero, suc, ◌≤◌, ◌<◌, List, [], ◌∷◌, length, take, subst, arith}
use Rattle.std.proofs.lemmas.List.{take_all}
use Rattle.std.specs.List.{All}
use Rattle.std.specs.Prelude.{slice_index}
use Rattle.elf_image.specs.declared.image.Segment.{Segment}
use Rattle.serial_run.specs.Sound.{HaveBytes}

-- each of these numbers is a byte
index_below : (xs : List ℕ) → All (λ b. b < 256) xs → (i : ℕ) → slice_index xs i < 256
index_below [] all i = omega arith
index_below (x ∷ xs) all zero = all 0 0 (omega arith)
index_below (x ∷ xs) all (suc i) = index_below xs (λ k d h. all (suc k) d (omega arith)) i

have_bytes : (ss : List Segment) → All (λ (s : Segment). All (λ b. b < 256) s.bytes) ss → HaveBytes ss
have_bytes [] all = tt
have_bytes (s ∷ ss) all =
    (index_below s.bytes (all 0 s (omega arith)), have_bytes ss (λ k d h. all (suc k) d (omega arith)))

pub taken_bytes : (ss : List Segment) (i : ℕ) → length ss ≤ i
    → All (λ (s : Segment). All (λ b. b < 256) s.bytes) (take i ss) → HaveBytes ss
taken_bytes ss i h all =
    have_bytes ss (subst (All (λ (s : Segment). All (λ b. b < 256) s.bytes)) (take_all i ss h) all)

-- A loop has one trip.
use Rattle.std.proofs.Common.{◌≡◌, ℕ, zero, suc, ◌<◌, List, [], ◌∷◌, length, get_or, refl, sym, ◌∙◌, arith}
use Rattle.loop_data.specs.declared.shape.Level.{Level}
use Rattle.trip_counts.specs.OneTrip.{OneTripLaw}

-- the loop at a place among the levels
level_at : (ls : List Level) (i : ℕ) → i < length ls → (l : Level) × (get_or ls i l ≡ l)
level_at [] i m = absurd (omega arith)
level_at (x ∷ xs) zero m = (x, refl)
level_at (x ∷ xs) (suc i) m = level_at xs i (omega arith)

pub one_trip : OneTripLaw
one_trip G ls at i o p m f g = let l = level_at ls i m in sym (f l.0 l.1) ∙ g l.0 l.1

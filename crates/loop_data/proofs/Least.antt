-- Of what holds of locations there is one least.
use Rattle.std.proofs.Common.{◌≡◌, ℕ, Option, Some, None, refl, ap, arith}
use Rattle.linear_forms.specs.declared.location.Loc.{Loc}
use Rattle.linear_forms.specs.declared.location.Loc.TheVariants.{Reg, Cell}
use Rattle.linear_forms.specs.Locations.{number_of, IsLocation}
use Rattle.loop_data.specs.Results.{IsLeastLocation}

-- a location is known by its number
pub location_is : (a b : Loc) → IsLocation a → IsLocation b → number_of a ≡ number_of b → a ≡ b
location_is (Reg r) (Reg s) i j e = ap Reg e
location_is (Cell k) (Cell l) i j e = let f : k ≡ l = omega arith in ap Cell f
location_is (Reg r) (Cell k) i j e = let h = i.1 in absurd (omega arith)
location_is (Cell k) (Reg r) i j e = let h = j.1 in absurd (omega arith)

-- two things that hold of the same locations have the same least one
pub least_is_one : (P Q : ℕ → Type 0) → ((r : ℕ) → P r → Q r) → ((r : ℕ) → Q r → P r) → (a b : Option Loc) → IsLeastLocation P a → IsLeastLocation Q b → a ≡ b
least_is_one P Q f g None None x y = refl
least_is_one P Q f g None (Some b) x y = absurd (x (number_of b) (g (number_of b) y.1))
least_is_one P Q f g (Some a) None x y = absurd (y (number_of a) (f (number_of a) x.1))
least_is_one P Q f g (Some a) (Some b) x y =
    let below = x.2 (number_of b) (g (number_of b) y.1) in
    let above = y.2 (number_of a) (f (number_of a) x.1) in
    ap (λ (l : Loc). Some l) (location_is a b x.0 y.0 (omega arith))

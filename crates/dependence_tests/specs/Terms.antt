-- What two accesses of a loop have in common before the loop begins.
use Rattle.std.specs.Prelude.{ℕ, ◌≡◌, ◌≢◌, ◌≤◌, ◌<◌, ◌^◌, ◌==◌, if◌then◌else◌, max, List, [], ◌∷◌, map, ℤ, pos, ◌-ℤ◌, Option, Some, None, slice_index}
use Rattle.std.specs.Int.{◌∣◌}
use Rattle.std.specs.Int.RustNames.{unsigned_abs}
use Rattle.std.specs.List.{All}
use Rattle.rv64_decode.specs.Area.{bytes_of}
use Rattle.loop_data.specs.declared.accesses.Access.{Access}
use Rattle.loop_data.specs.declared.plans.Term.{Term}
use Rattle.loop_data.specs.declared.plans.Term.TheVariants.{Same, Apart}

-- the stride of an access in the inner loop at a place among the levels: 0 where that loop is not round it
abbrev pub stride_in : Access → ℕ → ℤ
stride_in a place =
    if slice_index a.around 1 == place
    then a.form.second
    else if slice_index a.around 2 == place then a.form.third else pos 0

-- the strides in the inner loops, which stand at places 1 to 3
abbrev pub inner_strides : Access → List ℤ
inner_strides a = stride_in a 1 ∷ stride_in a 2 ∷ stride_in a 3 ∷ []

-- the strides are the same in the root, and loop by loop in the inner loops
pub record AreSameShape (a b : Access) : Type 0 where
  pub root : a.form.first ≡ b.form.first
  pub inner : inner_strides a ≡ inner_strides b

-- the number divides all of these
abbrev pub DividesAll : ℕ → List ℕ → Type 0
DividesAll d [] = Unit {0}
DividesAll d (n ∷ ns) = (d ∣ n) × DividesAll d ns

-- the number divides all of these, and each number that does divides it
pub record IsGcdOf (sizes : List ℕ) (g : ℕ) : Type 0 where
  pub divides : DividesAll g sizes
  pub greatest : (d : ℕ) → DividesAll d sizes → d ∣ g

-- the second address less the first at turn numbers 0, where both have the same terms
abbrev pub IsKnown : Access → Access → Option ℤ → Type 0
IsKnown a b None = a.form.terms ≢ b.form.terms
IsKnown a b (Some c) = (a.form.terms ≡ b.form.terms) × (c ≡ b.form.constant -ℤ a.form.constant)

-- what two accesses of the same shape have in common: the sizes r of the root's stride and ss of the inner ones, the
-- divisors g of these and h of all, the width w and the difference c
pub record AreShared (a b : Access) (r : ℕ) (ss : List ℕ) (g h w : ℕ) (c : Option ℤ) : Type 0 where
  pub shape : AreSameShape a b
  pub root : r ≡ unsigned_abs a.form.first
  pub inner : ss ≡ map unsigned_abs (inner_strides a)
  pub lanes : IsGcdOf (map unsigned_abs (inner_strides a)) g
  pub residue : IsGcdOf (unsigned_abs a.form.first ∷ map unsigned_abs (inner_strides a)) h
  pub width : w ≡ max (bytes_of a.width) (bytes_of b.width)
  pub known : IsKnown a b c

-- the term of two accesses
abbrev pub IsTermOf : Access → Access → Term → Type 0
IsTermOf a b (Same root inner lanes residue width known) = AreShared a b root inner lanes residue width known
IsTermOf a b Apart = ¬ AreSameShape a b

-- strides lie within 2 ^ 30 - 1 of 0, and widths are at most 8
pub record AreSized (r : ℕ) (ss : List ℕ) (w : ℕ) : Type 0 where
  pub root : r < 2 ^ 30
  pub inner : All (λ n. n < 2 ^ 30) ss
  pub width : w ≤ 8

abbrev pub IsSized : Term → Type 0
IsSized (Same root inner lanes residue width known) = AreSized root inner width
IsSized Apart = Unit {0}

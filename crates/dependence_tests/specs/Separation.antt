-- The test of two accesses by their strides, their widths and their addresses at turn numbers 0.
use Rattle.std.specs.Prelude.{ℕ, ◌≡◌, ◌↔◌, ◌≤◌, ◌<◌, ◌+◌, ◌-◌, ◌*◌, ◌⊎◌, true, max, List, [], ◌∷◌, map, ℤ, ◌-ℤ◌, ◌≤ℤ◌, slice_index}
use Rattle.std.specs.Int.RustNames.{unsigned_abs}
use Rattle.rv64_decode.specs.Area.{bytes_of}
use Rattle.loop_data.specs.declared.accesses.Access.{Access}
use Rattle.loop_data.specs.declared.plans.Term.{Term}
use Rattle.dependence_tests.specs.declared.pairs.PairBox.{PairBox}
use Rattle.dependence_tests.specs.Terms.{inner_strides, AreSameShape, IsGcdOf, IsTermOf}
use Rattle.dependence_tests.specs.PairTests.{span, remainder, pair_test, hopeless}
use Rattle.dependence_tests.specs.Overlaps.{whole_range, IsBoxOf}

-- the size of the stride in the root, and of those in the inner loops
abbrev pub root_size : Access → ℕ
root_size a = unsigned_abs a.form.first

abbrev pub inner_sizes : Access → List ℕ
inner_sizes a = map unsigned_abs (inner_strides a)

abbrev pub greater_width : Access → Access → ℕ
greater_width a b = max (bytes_of a.width) (bytes_of b.width)

-- what all turns together move an access
abbrev pub reach : Access → List ℕ → ℕ
reach a last = root_size a * slice_index last 0

-- the stride of the root is beyond the distance, all passes and a width
pub record AreBlocks (a b : Access) (c : ℤ) (last : List ℕ) : Type 0 where
  pub stride : unsigned_abs c + span (inner_sizes a) last + greater_width a b ≤ root_size a

-- an inner stride is not 0, so that the divisor of the inner strides is not; the stride of the root is beyond the
-- distance and a width; and all turns with both stay below one step of the divisor
pub record AreLanes (a b : Access) (c : ℤ) (last : List ℕ) : Type 0 where
  pub step : ℕ
  pub divisor : IsGcdOf (inner_sizes a) step
  pub moves : 0 < step
  pub stride : unsigned_abs c + greater_width a b ≤ root_size a
  pub within : reach a last + unsigned_abs c + greater_width a b ≤ step

-- the divisor of all strides is not 0, and the difference stays a width away from its multiples
pub record AreResidues (a b : Access) (c : ℤ) : Type 0 where
  pub step : ℕ
  pub divisor : IsGcdOf (root_size a ∷ inner_sizes a) step
  pub moves : 0 < step
  pub above : greater_width a b ≤ remainder c step
  pub below : greater_width a b ≤ step - remainder c step

-- the distance is beyond all turns, all passes and a width
pub record AreFar (a b : Access) (c : ℤ) (last : List ℕ) : Type 0 where
  pub distance : reach a last + span (inner_sizes a) last + greater_width a b ≤ unsigned_abs c

-- accesses of the same shape, with this difference of the addresses at turn numbers 0, are told apart
abbrev pub AreApart : Access → Access → ℤ → List ℕ → Type 0
AreApart a b c last = AreBlocks a b c last ⊎ (AreLanes a b c last ⊎ (AreResidues a b c ⊎ AreFar a b c last))

-- one range ends where the other begins, or before
abbrev pub AreDisjoint : ℤ × ℤ → ℤ × ℤ → Type 0
AreDisjoint first second = (first.1 ≤ℤ second.0) ⊎ (second.1 ≤ℤ first.0)

-- accesses with these addresses at turn numbers 0 pass the test
abbrev pub PassTest : Access → Access → ℤ → ℤ → List ℕ → Type 0
PassTest a b x y last =
    (AreSameShape a b × AreApart a b (y -ℤ x) last)
    ⊎ ((¬ AreSameShape a b) × AreDisjoint (whole_range a x last) (whole_range b y last))

-- the forms have the same terms and strides, and the test fails for 16 turns with one pass of each inner loop
pub record AreHopeless (a b : Access) : Type 0 where
  pub shape : AreSameShape a b
  pub terms : a.form.terms ≡ b.form.terms
  pub fails : ¬ AreApart a b (b.form.constant -ℤ a.form.constant) (15 ∷ 0 ∷ 0 ∷ 0 ∷ [])

-- a term and a box tell of two accesses whether they pass the test, and a term whether they are hopeless
abbrev pub TestLaw : Type 0
TestLaw = (a b : Access) (term : Term) (at : PairBox) (x y : ℤ) → IsTermOf a b term → IsBoxOf a b x y at
    → (pair_test term at ≡ true) ↔ PassTest a b x y at.last

abbrev pub HopelessExactly : Type 0
HopelessExactly = (a b : Access) (term : Term) → IsTermOf a b term → (hopeless term ≡ true) ↔ AreHopeless a b

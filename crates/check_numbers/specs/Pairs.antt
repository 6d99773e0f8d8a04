-- What a pair of accesses has where its test can be worked out in words.
use Rattle.std.specs.Prelude.{ℕ, ◌≡◌, ◌≤◌, ◌<◌, ◌^◌, ◌*◌, ◌-◌, List, pos, ◌-ℤ◌, slice_index}
use Rattle.dependence_tests.specs.declared.pairs.PairBox.{PairBox}
use Rattle.dependence_tests.specs.PairTests.{span}

-- the most that the turns of a loop add to an address, by a stride within the limits
abbrev pub most : ℕ
most = (2 ^ 30 - 1) * (2 ^ 31 - 1)

-- the addresses at turn numbers 0 lie below 2 ^ 31, and sizes, divisors, widths and turns are within the limits
pub record IsPairInReach (root lanes residue width : ℕ) (inner : List ℕ) (at : PairBox) (a b : ℕ) : Type 0 where
  pub difference : at.difference ≡ pos b -ℤ pos a
  pub first : a < 2 ^ 31
  pub second : b < 2 ^ 31
  pub small_root : root < 2 ^ 30
  pub small_lanes : lanes < 2 ^ 30
  pub small_residue : residue < 2 ^ 30
  pub narrow : width ≤ 8
  pub turns : slice_index at.last 0 < 2 ^ 31
  pub spans : span inner at.last ≤ 3 * most

-- When two accesses of a loop, made in different turns, are told apart.
use Rattle.std.specs.Prelude.{ℕ, ◌+◌, ◌-◌, ◌*◌, nat_le, nat_lt, Bool, false, not, ◌&&◌, ◌||◌, List, [], ◌∷◌, ℤ, pos, int_lt, Some, None, slice_index}
use Rattle.std.specs.Int.{int_rem_euclid}
use Rattle.std.specs.Int.RustNames.{unsigned_abs}
use Rattle.loop_data.specs.declared.plans.Term.{Term}
use Rattle.loop_data.specs.declared.plans.Term.TheVariants.{Same, Apart}
use Rattle.dependence_tests.specs.declared.pairs.PairBox.{PairBox}

-- how far the passes of the inner loops take two accesses from each other at most
abbrev pub span : List ℕ → List ℕ → ℕ
span inner last =
    slice_index inner 0 * slice_index last 1
    + (slice_index inner 1 * slice_index last 2 + slice_index inner 2 * slice_index last 3)

-- the root's stride is beyond all that the passes and the widths take
abbrev pub are_blocks : ℕ → ℕ → ℕ → ℕ → Bool
are_blocks root distance span width = nat_le (distance + span + width) root

-- the root's stride is beyond the distance, and all turns together stay within one step of the inner loops
abbrev pub are_lanes : ℕ → ℕ → ℕ → ℕ → ℕ → Bool
are_lanes root reach distance width lanes =
    nat_lt 0 lanes && (nat_le (distance + width) root && nat_le (reach + distance + width) lanes)

-- the remainder modulo all strides' divisor, which is not negative
abbrev pub remainder : ℤ → ℕ → ℕ
remainder difference residue = unsigned_abs (int_rem_euclid difference (pos residue))

-- modulo all strides' divisor the addresses stay a width away from each other
abbrev pub are_residues : ℤ → ℕ → ℕ → Bool
are_residues difference width residue =
    nat_lt 0 residue
    && (nat_le width (remainder difference residue) && nat_le width (residue - remainder difference residue))

-- the distance is beyond all that turns, passes and widths take
abbrev pub are_apart : ℕ → ℕ → ℕ → ℕ → Bool
are_apart reach distance span width = nat_le (reach + span + width) distance

-- one of two ranges ends where the other begins, or before
abbrev pub are_disjoint : ℤ × ℤ → ℤ × ℤ → Bool
are_disjoint first second = not (int_lt second.0 first.1) || not (int_lt first.0 second.1)

-- the test of two accesses with this term
abbrev pub pair_test : Term → PairBox → Bool
pair_test (Same root inner lanes residue width known) at =
    let reach = root * slice_index at.last 0 in
    let distance = unsigned_abs at.difference in
    (are_blocks root distance (span inner at.last) width || are_lanes root reach distance width lanes)
    || (are_residues at.difference width residue || are_apart reach distance (span inner at.last) width)
pair_test Apart at = are_disjoint at.first at.second

-- 16 turns with one pass of each inner loop, at this difference
abbrev pub least_box : ℤ → PairBox
least_box c =
    record {
      difference = c;
      last = 15 ∷ 0 ∷ 0 ∷ 0 ∷ [];
      first = (pos 0, pos 0);
      second = (pos 0, pos 0);
    }

-- the difference is known, and even the least number of turns fails the test
abbrev pub hopeless : Term → Bool
hopeless (Same root inner lanes residue width (Some c)) =
    not (pair_test (Same root inner lanes residue width (Some c)) (least_box c))
hopeless (Same root inner lanes residue width None) = false
hopeless Apart = false

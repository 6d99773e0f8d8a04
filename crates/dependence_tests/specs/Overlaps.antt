-- Accesses of two turns of a loop that have bytes in common.
use Rattle.std.specs.Prelude.{ℕ, zero, suc, ◌≡◌, ◌≢◌, ◌≤◌, ◌<◌, true, List, ℤ, pos, ◌+ℤ◌, ◌-ℤ◌, ◌*ℤ◌, ◌≤ℤ◌, ◌<ℤ◌, slice_index, length, Option}
use Rattle.rv64_decode.specs.Area.{bytes_of}
use Rattle.linear_forms.specs.Forms.{LinearForm}
use Rattle.linear_forms.specs.Extremes.{lowest_shift, highest_shift}
use Rattle.loop_data.specs.declared.accesses.Access.{Access}
use Rattle.loop_data.specs.declared.plans.Term.{Term}
use Rattle.loop_data.specs.declared.shape.Level.{Level}
use Rattle.loop_data.specs.LoopCode.{LoopCode}
use Rattle.loop_data.specs.Accesses.{IsAccessOf}
use Rattle.dependence_tests.specs.declared.pairs.PairBox.{PairBox}
use Rattle.dependence_tests.specs.Terms.{IsTermOf}
use Rattle.dependence_tests.specs.PairTests.{pair_test}

-- the last pass of the loop at a place, out of the last turn of the root and the last pass of each inner loop by
-- place: place 0 says that there is no inner loop, which makes pass 0 alone
abbrev pub last_pass : List ℕ → ℕ → ℕ
last_pass last zero = 0
last_pass last (suc place) = slice_index last (suc place)

-- by depth the last turn number of an access: of the root, and of the loops round the access
abbrev pub last_round : Access → List ℕ → ℕ → ℕ
last_round a last zero = slice_index last 0
last_round a last (suc depth) = last_pass last (slice_index a.around (suc depth))

-- the inner loops round an access stand at places 1 to 3, each at its own
pub record IsPlaced (a : Access) : Type 0 where
  pub second : slice_index a.around 1 < 4
  pub third : slice_index a.around 2 < 4
  pub apart : slice_index a.around 1 ≡ slice_index a.around 2 → slice_index a.around 1 ≡ 0

-- turn numbers by depth: of the root this turn, and of the loops round the access any up to the last
pub record AreTurns (a : Access) (last : List ℕ) (turn : ℕ) (t : ℕ → ℕ) : Type 0 where
  pub root : t 0 ≡ turn
  pub second : t 1 ≤ last_round a last 1
  pub third : t 2 ≤ last_round a last 2

-- the address at these turn numbers, by that at turn numbers 0
abbrev pub address_in : LinearForm → ℤ → (ℕ → ℕ) → ℤ
address_in f base t = base +ℤ (f.first *ℤ pos (t 0) +ℤ (f.second *ℤ pos (t 1) +ℤ f.third *ℤ pos (t 2)))

-- in a turn of the root, and in some passes of the other loops round it, the access is of this byte
pub record Touches (a : Access) (base : ℤ) (last : List ℕ) (turn : ℕ) (byte : ℤ) : Type 0 where
  pub turns : ℕ → ℕ
  pub are : AreTurns a last turn turns
  pub low : address_in a.form base turns ≤ℤ byte
  pub high : byte <ℤ (address_in a.form base turns +ℤ pos (bytes_of a.width))

-- some byte is one of the first access in turn i and of the second in turn j, with these addresses at turn numbers 0
pub record Overlap (a b : Access) (first second : ℤ) (last : List ℕ) (i j : ℕ) : Type 0 where
  pub byte : ℤ
  pub of_first : Touches a first last i byte
  pub of_second : Touches b second last j byte

-- from the least address over all turns and passes to the greatest with the width
abbrev pub whole_range : Access → ℤ → List ℕ → ℤ × ℤ
whole_range a base last = (
  base +ℤ lowest_shift a.form (last_round a last),
  base +ℤ highest_shift a.form (last_round a last) +ℤ pos (bytes_of a.width),
)

-- the difference and the ranges are those of accesses with these addresses at turn numbers 0
pub record IsBoxOf (a b : Access) (x y : ℤ) (at : PairBox) : Type 0 where
  pub difference : at.difference ≡ y -ℤ x
  pub first : at.first ≡ whole_range a x at.last
  pub second : at.second ≡ whole_range b y at.last

-- where the test holds, accesses of different turns have no byte in common
abbrev pub PairLaw : Type 0
PairLaw = (a b : Access) (term : Term) (at : PairBox) (first second : ℤ) → IsPlaced a → IsPlaced b
    → IsTermOf a b term → IsBoxOf a b first second at → pair_test term at ≡ true
    → (i j : ℕ) → i ≤ slice_index at.last 0 → j ≤ slice_index at.last 0 → i ≢ j
    → ¬ Overlap a b first second at.last i j

-- the accesses of a loop with at most three inner loops are placed
abbrev pub PlacedLaw : Type 0
PlacedLaw = (levels : List Level) (B : LoopCode) (at : ℕ → ℕ → Option LinearForm) (a : Access)
    → length levels ≤ 4 → IsAccessOf levels B at a → IsPlaced a

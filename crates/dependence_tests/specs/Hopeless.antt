-- What becomes of hopeless pairs.
use Rattle.std.specs.Prelude.{ℕ, ◌≡◌, ◌≤◌, true, false, List, ℤ, Some, slice_index}
use Rattle.loop_data.specs.declared.plans.Term.TheVariants.{Same}
use Rattle.dependence_tests.specs.declared.pairs.PairBox.{PairBox}
use Rattle.dependence_tests.specs.PairTests.{pair_test, hopeless}

-- at the known difference the test fails for 16 turns and for more, whatever the passes
abbrev pub HopelessLaw : Type 0
HopelessLaw = (root : ℕ) (inner : List ℕ) (lanes residue width : ℕ) (c : ℤ) (at : PairBox)
    → hopeless (Same root inner lanes residue width (Some c)) ≡ true → at.difference ≡ c
    → 15 ≤ slice_index at.last 0 → pair_test (Same root inner lanes residue width (Some c)) at ≡ false

-- Terms and boxes of small cases.
use Rattle.std.specs.Prelude.{ℕ, [], ◌∷◌, ℤ, pos, Option}
use Rattle.loop_data.specs.declared.plans.Term.{Term}
use Rattle.loop_data.specs.declared.plans.Term.TheVariants.{Same}
use Rattle.dependence_tests.specs.declared.pairs.PairBox.{PairBox}

-- a stride in the root and one in the first inner loop, with the divisor of both, at widths of 8
abbrev pub strided : ℕ → ℕ → ℕ → Option ℤ → Term
strided root inner residue known = Same root (inner ∷ 0 ∷ 0 ∷ []) inner residue 8 known

-- a difference, a last turn, and a last pass of the first inner loop
abbrev pub boxed : ℤ → ℕ → ℕ → PairBox
boxed c turn pass =
    record {
      difference = c;
      last = turn ∷ pass ∷ 0 ∷ 0 ∷ [];
      first = (pos 0, pos 0);
      second = (pos 0, pos 0);
    }

-- two ranges from these numbers on and up to those
abbrev pub ranged : ℕ → ℕ → ℕ → ℕ → PairBox
ranged low high from to =
    record {
      difference = pos 0;
      last = 15 ∷ 0 ∷ 0 ∷ 0 ∷ [];
      first = (pos low, pos high);
      second = (pos from, pos to);
    }

-- A test that fails for 16 turns of one pass fails for more turns and passes.
use Rattle.std.proofs.Common.{◌≡◌, ℕ, ◌*◌, ◌≤◌, Bool, true, false, not, ◌||◌, List, Some, refl, sym, subst, arith, slice_index, ℤ}
use Rattle.std.proofs.lemmas.Bool.Decides.{nat_tests}
use Rattle.std.proofs.Math.Nat.{mul-le-mul_left}
use Rattle.std.specs.Int.RustNames.{unsigned_abs}
use Rattle.loop_data.specs.declared.plans.Term.TheVariants.{Same}
use Rattle.dependence_tests.specs.declared.pairs.PairBox.{PairBox}
use Rattle.dependence_tests.specs.PairTests.{are_blocks, are_lanes, are_residues, are_apart, span, pair_test, hopeless, least_box}

-- the four tests, of the reach, the span and the rest
abbrev pub one_holds : ℕ → ℕ → ℕ → ℕ → ℕ → Bool → ℕ → Bool
one_holds r d reach s w residues g =
    (are_blocks r d s w || are_lanes r reach d w g) || (residues || are_apart reach d s w)

none_hold : (r d m n s t w : ℕ) (b : Bool) (g : ℕ) → m ≤ n → s ≤ t → one_holds r d m s w b g ≡ false → one_holds r d n t w b g ≡ false
none_hold r d m n s t w b g h l e = go (are_blocks r d s w) (are_lanes r m d w g) b (are_apart m d s w) refl refl refl refl e
  where
    blocks : are_blocks r d s w ≡ false → are_blocks r d t w ≡ false
    blocks f = grind (arith, nat_tests)

    lanes : are_lanes r m d w g ≡ false → are_lanes r n d w g ≡ false
    lanes f = grind (arith, nat_tests)

    apart : are_apart m d s w ≡ false → are_apart n d t w ≡ false
    apart f = grind (arith, nat_tests)

    go : (f1 f2 f3 f4 : Bool) → are_blocks r d s w ≡ f1 → are_lanes r m d w g ≡ f2 → b ≡ f3 → are_apart m d s w ≡ f4 → ((f1 || f2) || (f3 || f4)) ≡ false → one_holds r d n t w b g ≡ false
    go false false false false e1 e2 e3 e4 x = rw (blocks e1) (rw (lanes e2) (rw e3 (rw (apart e4) refl)))
    go true f2 f3 f4 e1 e2 e3 e4 x = absurd (cc)
    go false true f3 f4 e1 e2 e3 e4 x = absurd (cc)
    go false false true f4 e1 e2 e3 e4 x = absurd (cc)
    go false false false true e1 e2 e3 e4 x = absurd (cc)

not_true : (b : Bool) → not b ≡ true → b ≡ false
not_true true e = absurd (cc)
not_true false e = refl

pub fails : (r : ℕ) (ss : List ℕ) (g h w : ℕ) (c : ℤ) (at : PairBox) → hopeless (Same r ss g h w (Some c)) ≡ true → at.difference ≡ c → 15 ≤ slice_index at.last 0
    → pair_test (Same r ss g h w (Some c)) at ≡ false
fails r ss g h w c at e f l =
    let q : r * 15 ≤ r * slice_index at.last 0 = mul-le-mul_left r l in
    let n = none_hold r (unsigned_abs c) (r * 15) (r * slice_index at.last 0) (span ss (least_box c).last) (span ss at.last) w (are_residues c w h) g q (omega arith) (not_true _ e) in
    subst (λ z. one_holds r (unsigned_abs z) (r * slice_index at.last 0) (span ss at.last) w (are_residues z w h) g ≡ false) (sym f) n

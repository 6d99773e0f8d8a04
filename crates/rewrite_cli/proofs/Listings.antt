-- What a list of loops has.
use Rattle.std.proofs.Common.{◌≡◌, ◌≢◌, ◌<◌, ℕ, suc, true, false, List, [], ◌∷◌, length, get_or, Contains, Ok, Err, refl, subst, arith}
use Rattle.std.proofs.Math.Dec.{eqb}
use Rattle.std.proofs.lemmas.Bool.{eq-eqb, ne_eqb}
use Rattle.std.proofs.lemmas.List.Elements.{Contains-get_or}
use Rattle.std.proofs.lemmas.List.Folds.{list_any_at}
use Rattle.std.proofs.lemmas.List.Sorted.{searched}
use Rattle.std.specs.List.Sorted.{IsStrictlyIncreasing, IsBinarySearchResult}
use Rattle.std.specs.Ordering.{nat_cmp}
use Rattle.loop_data.proofs.Lists.{rises}
use Rattle.loop_data.proofs.Searched.{none_found}
use Rattle.rewrite_cli.specs.Listing.{is_among}

-- ---- places

pub found_among : (xs : List ℕ) (x i : ℕ) → IsStrictlyIncreasing xs
    → IsBinarySearchResult (λ y. nat_cmp y x) xs (Ok i) → is_among xs x ≡ true
found_among xs x i ordered h =
    let at = searched xs x (Ok i) h (rises xs ordered) in list_any_at (λ p. eqb p x) xs i 0 at.0 (eq-eqb _ _ at.1)

not_among : (xs : List ℕ) (x : ℕ) → ((k : ℕ) → k < length xs → get_or xs k 0 ≢ x) → is_among xs x ≡ false
not_among [] x h = refl
not_among (y ∷ ys) x h = rw (ne_eqb y x (h 0 (omega arith))) (not_among ys x (λ k w. h (suc k) (omega arith)))

pub missed_among : (xs : List ℕ) (x i : ℕ) → IsStrictlyIncreasing xs
    → IsBinarySearchResult (λ y. nat_cmp y x) xs (Err i) → is_among xs x ≡ false
missed_among xs x i ordered h = not_among xs x
    (λ k w e. none_found xs x i ordered h (subst (λ (v : ℕ). Contains xs v) e (Contains-get_or xs k 0 w)))

-- The sum of the events of all harts, one after the other.
use Rattle.std.proofs.Common.{◌≡◌, ℕ, ◌+◌, ◌<◌, ◌≤◌, ◌^◌, ◌-◌, List, [], ◌∷◌, ◌++◌, replicate, length, drop, ap, sym, ◌∙◌, arith}
use Rattle.std.proofs.Math.ListN.{drop_of_length-le}
use Rattle.std.proofs.lemmas.List.{replicate-append-replicate}
use Rattle.hart_core.specs.Machine.{Hart, capped}
use Rattle.hart_core.specs.Start.{idle_hart}
use Rattle.hart_core.specs.Counting.{sum_of_events, steps_of}

pub whole_sum : (n : ℕ) (xs : List Hart) (i : ℕ) → length xs ≤ i → n < 2 ^ 64
    → capped (n + sum_of_events (drop i xs)) ≡ steps_of xs → n ≡ steps_of xs
whole_sum n xs i l b e =
    let zero_more : n ≡ n + 0 = omega arith in
    let none : drop i xs ≡ [] = drop_of_length-le xs l in
    let f : capped n ≡ capped (n + sum_of_events (drop i xs)) =
    ap capped zero_more ∙ ap (λ (ys : List Hart). capped (n + sum_of_events ys)) (sym none) in
    let small : n ≡ capped n = omega arith in
    small ∙ f ∙ e

-- one more idle hart
pub one_more_idle : (x : Hart) (i : ℕ) (xs ys : List Hart) → 0 < i → xs ≡ x ∷ replicate (i - 1) idle_hart → ys ≡ xs ++ idle_hart ∷ []
    → ys ≡ x ∷ replicate (i + 1 - 1) idle_hart
one_more_idle x i xs ys l h e =
    let n : i - 1 + 1 ≡ i + 1 - 1 = omega arith in
    e ∙ ap (λ (v : List Hart). v ++ idle_hart ∷ []) h
    ∙ ap (λ (v : List Hart). x ∷ v) (replicate-append-replicate (i - 1) 1 idle_hart ∙ ap (λ (k : ℕ). replicate k idle_hart) n)

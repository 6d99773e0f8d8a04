-- The known difference of two accesses is that of their addresses in each run.
use Rattle.std.specs.Prelude.{ℕ, ◌≡◌, ◌<◌, ◌^◌, true, ℤ, pos, ◌-ℤ◌, Some}
use Rattle.linear_forms.specs.Forms.{value, constant_fits}
use Rattle.loop_data.specs.declared.accesses.Access.{Access}
use Rattle.dependence_tests.specs.Terms.{IsKnown}

-- so it is whatever the values at the entry are, where both addresses at turn numbers 0 are below 2 ^ 31
abbrev pub KnownLaw : Type 0
KnownLaw = (a b : Access) (c : ℤ) (entry : ℕ → ℤ) → IsKnown a b (Some c)
    → constant_fits a.form.constant ≡ true → constant_fits b.form.constant ≡ true
    → value a.form entry (λ k. 0) < 2 ^ 31 → value b.form entry (λ k. 0) < 2 ^ 31
    → pos (value b.form entry (λ k. 0)) -ℤ pos (value a.form entry (λ k. 0)) ≡ c

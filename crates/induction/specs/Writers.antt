-- Which of the first words of a loop write a location.
use Rattle.std.specs.Prelude.{ℕ, ◌≡◌, ◌≢◌, ◌<◌, Bool, true, false}
use Rattle.loop_data.specs.declared.flow.Flow.{Flow}
use Rattle.induction.specs.declared.writers.Writers.{Writers}
use Rattle.induction.specs.declared.writers.Writers.TheVariants.{Nowhere, At, Several}
use Rattle.induction.specs.Masks.{place_writes}

abbrev pub with_writer : Writers → ℕ → Bool → Writers
with_writer found place false = found
with_writer Nowhere place true = At place
with_writer (At p) place true = Several
with_writer Several place true = Several

abbrev pub AreWriters : Flow → ℕ → ℕ → Writers → Type 0
AreWriters f n r Nowhere = (p : ℕ) → p < n → place_writes f p r ≡ false
AreWriters f n r (At k) =
    (k < n) × (place_writes f k r ≡ true) × ((p : ℕ) → p < n → place_writes f p r ≡ true → p ≡ k)
AreWriters f n r Several =
    (p : ℕ) × (q : ℕ) × (p < n) × (q < n) × (p ≢ q)
    × (place_writes f p r ≡ true) × (place_writes f q r ≡ true)

-- The words that write a location, word by word.
use Rattle.std.proofs.Common.{◌≡◌, ◌≢◌, ℕ, zero, suc, ◌+◌, ◌<◌, ◌⊎◌, inl, inr, Bool, true, false, get_or, replicate, refl, ap, sym, ◌∙◌, subst, arith}
use Rattle.std.proofs.lemmas.Bool.{cases_eq}
use Rattle.loop_data.specs.declared.flow.Flow.{Flow}
use Rattle.induction.specs.Masks.{place_writes}
use Rattle.induction.specs.Writers.{with_writer, AreWriters}
use Rattle.induction.specs.declared.writers.Writers.{Writers}
use Rattle.induction.specs.declared.writers.Writers.TheVariants.{Nowhere, At, Several}

all_nowhere : (n r : ℕ) → get_or (replicate n Nowhere) r Nowhere ≡ Nowhere
all_nowhere zero zero = refl
all_nowhere zero (suc r) = refl
all_nowhere (suc n) zero = refl
all_nowhere (suc n) (suc r) = all_nowhere n r

pub no_writers : (f : Flow) (r : ℕ) → AreWriters f 0 r (get_or (replicate 48 Nowhere) r Nowhere)
no_writers f r = subst (AreWriters f 0 r) (sym (all_nowhere 48 r)) none
  where
    none : AreWriters f 0 r Nowhere
    none p l = absurd (omega arith)

-- one word more
pub writers_more : (f : Flow) (n r : ℕ) (old : Writers) (b : Bool) → AreWriters f n r old → place_writes f n r ≡ b → AreWriters f (n + 1) r (with_writer old n b)
writers_more f n r Nowhere false a e = λ p l. by p l (cases_eq p n)
  where
    by : (p : ℕ) → p < n + 1 → (p ≡ n) ⊎ (p ≢ n) → place_writes f p r ≡ false
    by p l (inl i) = ap (λ q. place_writes f q r) i ∙ e
    by p l (inr ne) = a p (omega arith)
writers_more f n r (At k) false a e = let l = a.0 in (omega arith, a.1, λ p l w. by p l w (cases_eq p n))
  where
    by : (p : ℕ) → p < n + 1 → place_writes f p r ≡ true → (p ≡ n) ⊎ (p ≢ n) → p ≡ k
    by p l w (inl i) = let u = ap (λ q. place_writes f q r) (sym i) ∙ w in absurd (cc)
    by p l w (inr ne) = a.2 p (omega arith) w
writers_more f n r Several false a e = let l = a.2 in let m = a.3 in (a.0, a.1, omega arith, omega arith, a.4, a.5, a.6)
writers_more f n r Nowhere true a e = (omega arith, e, λ p l w. by p l w (cases_eq p n))
  where
    by : (p : ℕ) → p < n + 1 → place_writes f p r ≡ true → (p ≡ n) ⊎ (p ≢ n) → p ≡ n
    by p l w (inl i) = i
    by p l w (inr ne) = let u = a p (omega arith) in absurd (cc)
writers_more f n r (At k) true a e = let l = a.0 in (k, n, omega arith, omega arith, (λ i. absurd (omega arith)), a.1, e)
writers_more f n r Several true a e = let l = a.2 in let m = a.3 in (a.0, a.1, omega arith, omega arith, a.4, a.5, a.6)

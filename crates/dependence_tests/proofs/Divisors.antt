-- The greatest common divisor of several numbers, from those of two.
use Rattle.std.proofs.Common.{ℕ, [], ◌∷◌}
use Rattle.std.specs.Int.{IsGcd}
use Rattle.std.proofs.lemmas.Nat.Gcd.{dvd_trans}
use Rattle.dependence_tests.specs.Terms.{IsGcdOf}

pub three : (a b c g h : ℕ) → IsGcd b c h → IsGcd a h g → IsGcdOf (a ∷ b ∷ c ∷ []) g
three a b c g h p q =
    record {
      divides = (q.0, (dvd_trans g q.1 p.0, (dvd_trans g q.1 p.1, tt)));
      greatest = λ d x. q.2 d x.0 (p.2 d x.1.0 x.1.1.0);
    }

pub four : (a b c d g h : ℕ) → IsGcdOf (b ∷ c ∷ d ∷ []) h → IsGcd a h g → IsGcdOf (a ∷ b ∷ c ∷ d ∷ []) g
four a b c d g h p q =
    let x = p.divides in
    record {
      divides = (q.0, (dvd_trans g q.1 x.0, (dvd_trans g q.1 x.1.0, (dvd_trans g q.1 x.1.1.0, tt))));
      greatest = λ e y. q.2 e y.0 (p.greatest e y.1);
    }

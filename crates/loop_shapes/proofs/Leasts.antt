-- The first that passes a test among numbers in order, and how many there are.
use Rattle.std.proofs.Common.{◌≡◌, ℕ, ◌<◌, ◌≤◌, ◌⊎◌, ◌↔◌, inl, inr, List, length, get_or, sym, ◌∙◌, subst, arith}
use Rattle.std.specs.List.{Contains}
use Rattle.std.proofs.lemmas.Bool.{cases_lt}
use Rattle.std.proofs.lemmas.List.{get_or_default}
use Rattle.std.proofs.lemmas.List.Elements.{Contains-get_or}
use Rattle.loop_data.specs.Sets.{IsListOf, IsLeast, HasAtMost}
use Rattle.loop_data.proofs.Lists.{rises, no_longer, apart_from_increasing}

-- the first member of Q in the list of P is the least number in both
pub least_at : (P Q R : ℕ → Type 0) (xs : List ℕ) → IsListOf P xs → ((x : ℕ) → (P x × Q x) ↔ R x) → (i : ℕ) → i < length xs → ((k : ℕ) → k < i → Q (get_or xs k 0) → ⊥) → Q (get_or xs i 0) → IsLeast R (get_or xs i 0)
least_at P Q R xs l both i li before q = record { holds = (both (get_or xs i 0)).0 (l.each (get_or xs i 0) (Contains-get_or xs i 0 li), q); least = least }
  where
    least : (y : ℕ) → R y → get_or xs i 0 ≤ y
    least y r = by (cases_lt c.0 i)
      where
        c : Contains xs y
        c = l.every y ((both y).1 r).0

        is : get_or xs c.0 0 ≡ y
        is = get_or_default xs c.0 0 y c.1 ∙ c.2

        by : (c.0 < i) ⊎ (i ≤ c.0) → get_or xs i 0 ≤ y
        by (inl lt) = absurd (before c.0 lt (subst Q (sym is) ((both y).1 r).1))
        by (inr ge) = let e = is in let m = rises xs l.ordered i c.0 ge c.1 in omega arith

pub none_at : (P Q R : ℕ → Type 0) (xs : List ℕ) → IsListOf P xs → ((x : ℕ) → (P x × Q x) ↔ R x) → (n : ℕ) → length xs ≤ n → ((k : ℕ) → k < n → Q (get_or xs k 0) → ⊥) → (x : ℕ) → R x → ⊥
none_at P Q R xs l both n ln before x r =
    let b = (both x).1 r in
    let c = l.every x b.0 in
    let m = c.1 in
    let is : get_or xs c.0 0 ≡ x = get_or_default xs c.0 0 x c.1 ∙ c.2 in
    before c.0 (omega arith) (subst Q (sym is) b.1)

-- how many members a set has, by their list
pub most_by : (P : ℕ → Type 0) (xs : List ℕ) (n : ℕ) → IsListOf P xs → (length xs ≤ n) ↔ HasAtMost n P
most_by P xs n l = (λ le. record { members = xs; bound = le; all = l.every }, λ m. back m)
  where
    back : HasAtMost n P → length xs ≤ n
    back m =
        let a : length xs ≤ length m.members = no_longer xs m.members (apart_from_increasing xs l.ordered) (λ x c. m.all x (l.each x c)) in
        let b = m.bound in
        omega arith

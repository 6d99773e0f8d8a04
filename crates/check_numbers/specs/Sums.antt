-- Sums of terms as added code works them out: product by product, each step modulo 2 ^ 64.
use Rattle.std.specs.Prelude.{ℕ, ◌+◌, ◌*◌, ◌%◌, ◌^◌, ◌≤ℤ◌, List, [], ◌∷◌, ℤ, pos, negsuc, ◌-◌}
use Rattle.linear_forms.specs.Forms.{EntryTerm}
use Rattle.check_numbers.specs.Parts.{bits}

-- from n on the terms, where the locations have these words
abbrev pub sum_from : (ℕ → ℕ) → List EntryTerm → ℕ → ℕ
sum_from e [] n = n
sum_from e (t ∷ ts) n = sum_from e ts ((n + e t.loc * bits t.by % 2 ^ 64) % 2 ^ 64)

-- a constant and the terms
abbrev pub value_of : (ℕ → ℕ) → ℤ → List EntryTerm → ℕ
value_of e c ts = sum_from e ts (bits c)

-- a signed number of 32 bits
abbrev pub IsShort : ℤ → Type 0
IsShort z = (negsuc (2 ^ 31 - 1) ≤ℤ z) × (z ≤ℤ pos (2 ^ 31 - 1))

-- each coefficient is one
abbrev pub AreShort : List EntryTerm → Type 0
AreShort [] = Unit {0}
AreShort (t ∷ ts) = IsShort t.by × AreShort ts

-- a signed number of 64 bits
abbrev pub IsLong : ℤ → Type 0
IsLong z = (negsuc (2 ^ 63 - 1) ≤ℤ z) × (z ≤ℤ pos (2 ^ 63 - 1))

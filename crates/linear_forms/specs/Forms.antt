-- Linear forms: a constant, terms over the entry values of locations, and a stride for each of three
-- levels of loops. A form's value is an integer first, and is then taken modulo 2 ^ 64.
use Rattle.std.specs.Prelude.{ℕ, zero, suc, ◌≡◌, ◌≢◌, ◌<◌, ◌≤◌, ◌^◌, ◌-◌, ◌%◌, ◌==◌, if◌then◌else◌, nat_lt, nat_le, Bool, true, false, ◌&&◌, List, [], ◌∷◌, length, Option, Some, None, ℤ, pos, negsuc, ◌+ℤ◌, ◌-ℤ◌, ◌*ℤ◌, int_lt, slice_index, slice_index_or}

-- two integers are the same modulo 2 ^ 64
pub record Alike (a b : ℤ) : Type 0 where
  pub turns : ℤ
  pub is : a ≡ b +ℤ turns *ℤ pos (2 ^ 64)

-- so many times the entry value of a location. Locations have numbers: registers are 0 to 31, and cells
-- follow from 32 on
pub record EntryTerm : Type 0 where
  pub loc : ℕ
  pub by : ℤ

-- a form with a stride for each of three levels, the outermost first
pub record LinearForm : Type 0 where
  pub constant : ℤ
  pub terms : List EntryTerm
  pub first : ℤ
  pub second : ℤ
  pub third : ℤ

-- the terms, summed up, where the locations have these values at the entry
abbrev pub weight : (ℕ → ℤ) → List EntryTerm → ℤ
weight entry [] = pos 0
weight entry (t ∷ ts) = t.by *ℤ entry t.loc +ℤ weight entry ts

-- the stride of a level
abbrev pub stride : LinearForm → ℕ → ℤ
stride f zero = f.first
stride f (suc zero) = f.second
stride f (suc (suc zero)) = f.third
stride f (suc (suc (suc k))) = pos 0

-- the form's value at these turn numbers, before it is reduced
abbrev pub exact : LinearForm → (ℕ → ℤ) → (ℕ → ℕ) → ℤ
exact f entry t =
    f.constant +ℤ weight entry f.terms +ℤ (f.first *ℤ pos (t 0) +ℤ (f.second *ℤ pos (t 1) +ℤ f.third *ℤ pos (t 2)))

-- an integer modulo 2 ^ 64
abbrev pub word_of : ℤ → ℕ
word_of (pos n) = n % 2 ^ 64
word_of (negsuc n) = 2 ^ 64 - 1 - n % 2 ^ 64

-- entry values from a list of words
abbrev pub integers : List ℕ → ℕ → ℤ
integers words r = pos (slice_index words r)

-- the form's value, as a word
abbrev pub value : LinearForm → (ℕ → ℤ) → (ℕ → ℕ) → ℕ
value f entry t = word_of (exact f entry t)

abbrev pub is_zero : ℤ → Bool
is_zero (pos n) = n == 0
is_zero (negsuc n) = false

-- a term whose coefficient is 0 is left out
abbrev pub unless_zero : EntryTerm → List EntryTerm → List EntryTerm
unless_zero t ts = if is_zero t.by then ts else t ∷ ts

-- the terms, in the order of the locations, with one more added
abbrev pub with_term : EntryTerm → List EntryTerm → List EntryTerm
with_term t [] = unless_zero t []
with_term t (u ∷ us) =
    if nat_lt t.loc u.loc
    then unless_zero t (u ∷ us)
    else if t.loc == u.loc
    then unless_zero (record { loc = t.loc; by = t.by +ℤ u.by }) us
    else u ∷ with_term t us

abbrev pub merged : List EntryTerm → List EntryTerm → List EntryTerm
merged [] us = us
merged (t ∷ ts) us = with_term t (merged ts us)

abbrev pub scaled_terms : ℤ → List EntryTerm → List EntryTerm
scaled_terms by [] = []
scaled_terms by (t ∷ ts) = unless_zero (record { loc = t.loc; by = by *ℤ t.by }) (scaled_terms by ts)

-- low ≤ z < high
abbrev pub between : ℤ → ℤ → ℤ → Bool
between low high z = if int_lt z low then false else int_lt z high

-- a coefficient or a stride lies within 2 ^ 30 - 1 of 0
abbrev pub is_small : ℤ → Bool
is_small z = between (negsuc (2 ^ 30 - 2)) (pos (2 ^ 30)) z

abbrev pub are_small : List EntryTerm → Bool
are_small [] = true
are_small (t ∷ ts) = is_small t.by && are_small ts

-- a constant is a signed number of 32 bits
abbrev pub constant_fits : ℤ → Bool
constant_fits z = between (negsuc (2 ^ 31 - 1)) (pos (2 ^ 31)) z

-- there are at most 4 terms, and each coefficient is small
abbrev pub are_limited : List EntryTerm → Bool
are_limited ts = nat_le (length ts) 4 && are_small ts

-- the limits of a form
abbrev pub is_limited : LinearForm → Bool
is_limited f =
    constant_fits f.constant && (are_limited f.terms && (is_small f.first && (is_small f.second && is_small f.third)))

-- the terms, where they keep to the limits
abbrev pub limited_terms : List EntryTerm → Option (List EntryTerm)
limited_terms ts = if are_limited ts then Some ts else None

-- the form, where it keeps to the limits
abbrev pub limited : LinearForm → Option LinearForm
limited f = if is_limited f then Some f else None

abbrev pub sum_of : LinearForm → LinearForm → LinearForm
sum_of f g =
    record {
      constant = f.constant +ℤ g.constant;
      terms = merged f.terms g.terms;
      first = f.first +ℤ g.first;
      second = f.second +ℤ g.second;
      third = f.third +ℤ g.third;
    }

abbrev pub multiple : ℤ → LinearForm → LinearForm
multiple by f =
    record {
      constant = by *ℤ f.constant;
      terms = scaled_terms by f.terms;
      first = by *ℤ f.first;
      second = by *ℤ f.second;
      third = by *ℤ f.third;
    }

abbrev pub difference : LinearForm → LinearForm → LinearForm
difference f g = sum_of f (multiple (negsuc 0) g)

-- a constant as a form
abbrev pub pure : ℤ → LinearForm
pure z = record { constant = z; terms = []; first = pos 0; second = pos 0; third = pos 0 }

-- the entry value of a location, and a step in each turn of the outermost loop
abbrev pub moving : ℕ → ℤ → LinearForm
moving r step =
    record {
      constant = pos 0;
      terms = record { loc = r; by = pos 1 } ∷ [];
      first = step;
      second = pos 0;
      third = pos 0;
    }

-- the terms stand in the order of their locations, each location once and from this one on, and no
-- coefficient is 0
abbrev pub AreFrom : ℕ → List EntryTerm → Type 0
AreFrom low [] = Unit {0}
AreFrom low (t ∷ ts) = (low ≤ t.loc) × (t.loc < 48) × (t.by ≢ pos 0) × AreFrom (suc t.loc) ts

-- the terms of a form: in order, none of x0, and within the limits
pub record AreTerms (ts : List EntryTerm) : Type 0 where
  pub ordered : AreFrom 1 ts
  pub limited : are_limited ts ≡ true

-- the constant and the strides keep to the limits
pub record IsBounded (f : LinearForm) : Type 0 where
  pub constant : constant_fits f.constant ≡ true
  pub first : is_small f.first ≡ true
  pub second : is_small f.second ≡ true
  pub third : is_small f.third ≡ true

-- a form has its terms in order, with no coefficient 0, and keeps to the limits, so that forms with the
-- same coefficients are the same
pub record IsForm (f : LinearForm) : Type 0 where
  pub terms : AreTerms f.terms
  pub bounded : IsBounded f

-- the form of a constant, terms and a list of strides
abbrev pub form_of : ℤ → List EntryTerm → List ℤ → LinearForm
form_of constant terms turns =
    record {
      constant = constant;
      terms = terms;
      first = slice_index_or turns 0 (pos 0);
      second = slice_index_or turns 1 (pos 0);
      third = slice_index_or turns 2 (pos 0);
    }

-- there are three strides, and the form keeps to the limits
pub record IsBoundedBy (constant : ℤ) (terms : List EntryTerm) (turns : List ℤ) : Type 0 where
  pub three : length turns ≡ 3
  pub bounded : IsBounded (form_of constant terms turns)

-- the number, where it passes the test
abbrev pub IsWithin : (ℤ → Bool) → Option ℤ → ℤ → Type 0
IsWithin test None z = test z ≡ false
IsWithin test (Some y) z = (y ≡ z) × (test z ≡ true)

-- one form is the sum, the difference, or the multiple, of others by its values
abbrev pub AddsUp : LinearForm → LinearForm → LinearForm → Type 0
AddsUp f g h = (entry : ℕ → ℤ) (t : ℕ → ℕ) → exact h entry t ≡ exact f entry t +ℤ exact g entry t

abbrev pub Differs : LinearForm → LinearForm → LinearForm → Type 0
Differs f g h = (entry : ℕ → ℤ) (t : ℕ → ℕ) → exact h entry t ≡ exact f entry t -ℤ exact g entry t

abbrev pub Scales : ℤ → LinearForm → LinearForm → Type 0
Scales by f h = (entry : ℕ → ℤ) (t : ℕ → ℕ) → exact h entry t ≡ by *ℤ exact f entry t

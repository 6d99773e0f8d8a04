-- Words that are numbers, and what is read from them.
use Rattle.std.proofs.Common.{◌≡◌, ℕ, ◌^◌, ◌<◌, ◌≤◌, List, [], ◌∷◌, length, get_or, Bool, true, false, eqb, leb, Result}
use Rattle.std.proofs.Common.{Ok, Err, Some, None, refl, arith, sym, ◌∙◌, ap}
use Rattle.std.specs.Str.{all_ascii_digits}
use Rattle.std.specs.Str.Parse.{digits_value, ParsesUnsigned}
use Rattle.std.proofs.lemmas.Str.Parse.{IsNumeralModel, numerals_by_value, tells_all_ascii_digits, parse_plain}
use Rattle.std.proofs.lemmas.Bool.{le-leb}
use Rattle.std.proofs.lemmas.Bool.Decides.{nat_tests}
use Rattle.std.specs.Prelude.{not, ◌&&◌}
use Rattle.std.specs.Char.{digit_value}
use Rattle.std.proofs.lemmas.Str.Parse.{digits_value-take-le}
use Rattle.rewrite_cli.specs.Words.{is_number, number_up_to}

digits : IsNumeralModel (λ ds. all_ascii_digits ds ≡ true) (digits_value 10)
digits = numerals_by_value _ tells_all_ascii_digits

-- a word that does not begin with 0 is a number exactly where it is digits
begun : (word : List ℕ) (b : Bool) → 49 ≤ get_or word 0 0 → all_ascii_digits word ≡ b → is_number word ≡ b
begun [] b h e = absurd (omega arith)
begun (first ∷ others) b h e = let other : eqb first 48 ≡ false = grind (arith, nat_tests) in rw other e

-- the number of a word of digits, by whether it passes the limit
number_within : (word : List ℕ) (limit : ℕ) → 49 ≤ get_or word 0 0 → all_ascii_digits word ≡ true
    → digits_value 10 word ≤ limit → number_up_to limit word ≡ Some (digits_value 10 word)
number_within word limit h e within =
    let is = begun word true h e in
    let test : leb (digits_value 10 word) limit ≡ true = le-leb (digits_value 10 word) limit within in
    simp (is, test)

number_above : (word : List ℕ) (limit : ℕ) (b : Bool) → 49 ≤ get_or word 0 0 → all_ascii_digits word ≡ b
    → (b ≡ true → limit < digits_value 10 word) → number_up_to limit word ≡ None
number_above word limit true h e above =
    let is = begun word true h e in
    let long = above refl in
    let test : leb (digits_value 10 word) limit ≡ false = grind (arith, nat_tests) in
    simp (is, test)
number_above word limit false h e above = let is = begun word false h e in simp is

has_digit : (word : List ℕ) → 49 ≤ get_or word 0 0 → 0 < length word
has_digit [] h = absurd (omega arith)
has_digit (first ∷ others) h = omega arith

passes : (limit value : ℕ) → limit < 2 ^ 64 → (value < 2 ^ 64 → ⊥) → limit < value
passes limit value fits none = omega arith

-- what is read of it
pub read_within : {E : Type 0} (word : List ℕ) (limit n : ℕ) (r : Result ℕ E) → 49 ≤ get_or word 0 0
    → ParsesUnsigned 64 10 word r → r ≡ Ok n → n ≤ limit → Some n ≡ number_up_to limit word
read_within {E} word limit n r h parsed e within =
    let read = parse_plain digits 64 word r parsed (omega arith) in
    let p = rw e at read in
    let same : n ≡ digits_value 10 word = p.1 in
    ap (λ (v : ℕ). Some v) same ∙ sym (number_within word limit h p.0.0 (rw (← same) within))

not_read : (word : List ℕ) (limit : ℕ) (b : Bool) → 49 ≤ get_or word 0 0 → limit < 2 ^ 64 → all_ascii_digits word ≡ b
    → ((all_ascii_digits word ≡ true) × (0 < length word) × (digits_value 10 word < 2 ^ 64) → ⊥)
    → number_up_to limit word ≡ None
not_read word limit b h fits e none =
    number_above word limit b h e
    (λ t. passes limit (digits_value 10 word) fits (λ small. none (e ∙ t, has_digit word h, small)))

pub read_none : {E : Type 0} (word : List ℕ) (limit : ℕ) (error : E) (r : Result ℕ E) → 49 ≤ get_or word 0 0
    → limit < 2 ^ 64 → ParsesUnsigned 64 10 word r → r ≡ Err error → None ≡ number_up_to limit word
read_none {E} word limit error r h fits parsed e =
    let read = parse_plain digits 64 word r parsed (omega arith) in
    let p = rw e at read in
    sym (not_read word limit (all_ascii_digits word) h fits refl p)

-- ---- a number is at least 1

counts : (first : ℕ) → eqb first 48 ≡ false → 1 ≤ digit_value first
counts first other = grind (arith, nat_tests)

no_zero : (zero others : Bool) → (not zero && others) ≡ true → zero ≡ false
no_zero true others h = absurd (cc)
no_zero false others h = refl

pub at_least_one : (word : List ℕ) → is_number word ≡ true → 1 ≤ digits_value 10 word
at_least_one [] h = absurd (cc)
at_least_one (first ∷ others) h =
    let front = counts first (no_zero (eqb first 48) (all_ascii_digits (first ∷ others)) h) in
    let whole = digits_value-take-le 10 (first ∷ others) 1 (omega arith) in
    omega (arith, front, whole)

-- What the lines of a list of loops show.
use Rattle.std.specs.Prelude.{ℕ, ◌≡◌, ◌==◌, ◌<◌, ◌-◌, ◌/◌, ◌%◌, ◌^◌, Bool, false, List, [], ◌∷◌, ◌++◌, length, slice_index, codes}
use Rattle.std.specs.List.{list_any}
use Rattle.loop_choice.specs.declared.judged.Judged.{Judged}
use Rattle.report_text.specs.Lines.{hex8, loop_line}

-- the hexadecimal digit of a number below 16
abbrev pub hex_digit : ℕ → ℕ
hex_digit d = slice_index (codes "0123456789abcdef") d

-- a text is the 8 hexadecimal digits of a number, the most significant first
pub record AreHexDigits (n : ℕ) (text : List ℕ) : Type 0 where
  pub count : length text ≡ 8
  pub each : (i : ℕ) → i < 8 → slice_index text i ≡ hex_digit (n / 16 ^ (7 - i) % 16)

-- an address that 8 digits can write is written by them
abbrev pub Hex8Law : Type 0
Hex8Law = (n : ℕ) → n < 2 ^ 32 → AreHexDigits n (hex8 n)

-- no byte of a text is a line feed
abbrev pub HasNoFeed : List ℕ → Type 0
HasNoFeed text = list_any (λ c. c == 10) text ≡ false

-- a text is one line: it ends with its only line feed
pub record IsOneLine (line : List ℕ) : Type 0 where
  pub text : List ℕ
  pub is : line ≡ text ++ 10 ∷ []
  pub no_feed : HasNoFeed text

-- each loop has one line
abbrev pub OneLineLaw : Type 0
OneLineLaw = (judged : Judged) (chosen : Bool) → IsOneLine (loop_line judged chosen)

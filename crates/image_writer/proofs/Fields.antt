-- Numbers in bytes that are put together from parts.
use Rattle.std.proofs.Common.{◌≡◌, ℕ, ◌+◌, ◌^◌, ◌<◌, ◌≤◌, inl, inr, List, ◌++◌, length, take, drop, get_or, ap, sym, ◌∙◌, arith}
use Rattle.std.proofs.lemmas.List.{drop-drop, drop_at, length-take, length-take-le, length-drop, get_or-take, get_or-drop, get_or_past}
use Rattle.std.proofs.lemmas.Nat.{le_bytes_2, le_bytes_8}
use Rattle.std.proofs.lemmas.Bool.{cases_lt}
use Rattle.std.specs.Int.{w16, w64, from_le_bytes}
use Rattle.byteorder.specs.Endian.{little_number}
use Rattle.byteorder.specs.Numbers.{little_number-reads_back, length-bytes_low_first, little_from-lt, little_from-take}
use Rattle.elf_image.specs.Header.{field}
use Rattle.image_writer.specs.Image.{number}

-- a field behind a part of known length
pub field-past : (n p k place : ℕ) (front back : List ℕ) → length front ≡ p → place ≡ p + k → field n place (front ++ back) ≡ field n k back
unfolding field
field-past n p k place front back len at =
    let moved : drop place (front ++ back) ≡ drop k back =
    ap (λ (i : ℕ). drop i (front ++ back)) at ∙ sym (drop-drop k p (front ++ back)) ∙ ap (λ (xs : List ℕ). drop k xs) (drop_at front back p len) in
    ap (λ (xs : List ℕ). little_number n xs) moved

-- the number that stands first
pub field-first : (n x : ℕ) (rest : List ℕ) → x < 256 ^ n → field n 0 (number n x ++ rest) ≡ x
unfolding field number
field-first n x rest h = little_number-reads_back n x rest h

pub length-number : (n x : ℕ) → length (number n x) ≡ n
unfolding number
length-number n x = length-bytes_low_first 0 n x

-- a field is below the power of its size
pub field-lt : (n place : ℕ) (bytes : List ℕ) → ((i : ℕ) → get_or bytes i 0 < 256) → field n place bytes < 256 ^ n
unfolding field
field-lt n place bytes h = little_from-lt 0 n (drop place bytes) (λ i. rw (get_or-drop place bytes i 0) (h (place + i)))

part-fits : (n place : ℕ) (bytes : List ℕ) → ((i : ℕ) → get_or bytes i 0 < 256) → (i : ℕ) → get_or (take n (drop place bytes)) i 0 < 256
part-fits n place bytes h i = elim (cases_lt i n) [
  | inl below ↦ rw (get_or-take n (drop place bytes) i 0 below, get_or-drop place bytes i 0) (h (place + i))
  | inr above ↦
      let short = length-take n (drop place bytes) in
      rw (get_or_past (take n (drop place bytes)) i 0 (omega arith)) (omega arith)
]

little2 : (part : List ℕ) → little_number 2 part ≡ from_le_bytes w16 part
little2 part = omega arith

little8 : (part : List ℕ) → little_number 8 part ≡ from_le_bytes w64 part
little8 part = omega arith

-- the bytes of a field, as the number's
pub number-field2 : (place : ℕ) (bytes : List ℕ) → ((i : ℕ) → get_or bytes i 0 < 256) → place + 2 ≤ length bytes → number 2 (field 2 place bytes) ≡ take 2 (drop place bytes)
unfolding field number
number-field2 place bytes h fits =
    let part : List ℕ = take 2 (drop place bytes) in
    let rest = length-drop place bytes in
    let len : length part ≡ 2 = length-take-le 2 (drop place bytes) (omega (arith, rest)) in
    le_bytes_2 part (little_number 2 (drop place bytes)) len (part-fits 2 place bytes h) (sym (little_from-take 0 2 2 (drop place bytes) (omega arith)) ∙ little2 part)

pub number-field8 : (place : ℕ) (bytes : List ℕ) → ((i : ℕ) → get_or bytes i 0 < 256) → place + 8 ≤ length bytes → number 8 (field 8 place bytes) ≡ take 8 (drop place bytes)
unfolding field number
number-field8 place bytes h fits =
    let part : List ℕ = take 8 (drop place bytes) in
    let rest = length-drop place bytes in
    let len : length part ≡ 8 = length-take-le 8 (drop place bytes) (omega (arith, rest)) in
    le_bytes_8 part (little_number 8 (drop place bytes)) len (part-fits 8 place bytes h) (sym (little_from-take 0 8 8 (drop place bytes) (omega arith)) ∙ little8 part)

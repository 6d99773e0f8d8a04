-- The 8 hexadecimal digits of a number.
use Rattle.std.proofs.Common.{ℕ, zero, suc, ◌≡◌, ◌<◌, ◌≤◌, ◌+◌, ◌-◌, ◌*◌, ◌/◌, ◌%◌, ◌^◌, Bool, true, false, cond, List, [], ◌∷◌, ◌++◌, length, replicate, get_or, inl, inr, refl, sym, ap, ◌∙◌, append_assoc, arith}
use Rattle.std.proofs.Math.Nat.{pow-suc, div-div-eq-div-mul}
use Rattle.std.proofs.Math.Dec.{eqb}
use Rattle.std.proofs.lemmas.Bool.{cases_eq, eq-eqb, ne_eqb}
use Rattle.std.proofs.lemmas.List.{append-nil, replicate_more}
use Rattle.std.specs.Fmt.{digits, digits_onto, digit_glyph, padded_integral, char_count}
use Rattle.report_text.specs.Lines.{hex8}
use Rattle.report_text.specs.LineLaws.{hex_digit, AreHexDigits}

-- k hexadecimal digits of a number, the most significant first, and then a text
abbrev spelled : ℕ → ℕ → List ℕ → List ℕ
spelled zero n acc = acc
spelled (suc k) n acc = spelled k (n / 16) (digit_glyph false (n % 16) ∷ acc)

digits_are : (n : ℕ) → digits 16 false n ≡ digits_onto 64 16 false n []
unfolding digits
digits_are n = refl

module _ (n : ℕ) (acc : List ℕ) where
  abbrev glyphs : List ℕ
  glyphs = digit_glyph false (n % 16) ∷ acc

  onto_by : (j : ℕ) (t : Bool) → eqb (n / 16) 0 ≡ t → digits_onto (suc j) 16 false n acc ≡ cond t glyphs (digits_onto j 16 false (n / 16) glyphs)
  onto_by j t e = ap (λ (b : Bool). cond b glyphs (digits_onto j 16 false (n / 16) glyphs)) e

  onto_last : (j : ℕ) → 0 < j → n / 16 ≡ 0 → digits_onto j 16 false n acc ≡ glyphs
  onto_last zero some none = absurd (omega arith)
  onto_last (suc j) some none = onto_by j true (eq-eqb (n / 16) 0 none)

  onto_step : (j : ℕ) → 0 < j → (n / 16 ≡ 0 → ⊥) → digits_onto j 16 false n acc ≡ digits_onto (j - 1) 16 false (n / 16) glyphs
  onto_step zero some more = absurd (omega arith)
  onto_step (suc j) some more = onto_by j false (ne_eqb (n / 16) 0 more) ∙ ap (λ (i : ℕ). digits_onto i 16 false (n / 16) glyphs) {x = j} {y = suc j - 1} (omega arith)

zeros : (k : ℕ) (acc : List ℕ) → spelled k 0 acc ≡ replicate k 48 ++ acc
zeros zero acc = refl
zeros (suc k) acc =
    let zero_digit : ℕ = 48 in
    let next : k + 1 ≡ suc k = omega arith in
    let more = replicate_more k zero_digit ∙ ap (λ (m : ℕ). replicate m zero_digit) next in
    zeros k (zero_digit ∷ acc) ∙ sym (append_assoc (replicate k zero_digit) (zero_digit ∷ []) acc) ∙ ap (λ (l : List ℕ). l ++ acc) more

-- digits with a text behind them, filled up with zeros to k digits and the text
abbrev filled : ℕ → List ℕ → List ℕ → List ℕ
filled k acc ds = replicate (k + length acc - length ds) 48 ++ ds

filled_is : (k j n : ℕ) (acc : List ℕ) → 0 < k → k ≤ j → n < 16 ^ k → filled k acc (digits_onto j 16 false n acc) ≡ spelled k n acc
filled_is zero j n acc some room small = absurd (omega arith)
filled_is (suc k) j n acc some room small =
    let glyph = digit_glyph false (n % 16) in
    let pow : 16 ^ suc k ≡ 16 ^ k * 16 = pow-suc 16 k in
    elim (cases_eq (n / 16) 0) [
      | inl none ↦
          (let ds : digits_onto j 16 false n acc ≡ glyph ∷ acc = onto_last n acc j (omega arith) none in
          let short : suc k + length acc - length (glyph ∷ acc) ≡ k = omega arith in
          ap (filled (suc k) acc) ds ∙ ap (λ m. replicate m 48 ++ glyph ∷ acc) short
          ∙ sym (ap (λ q. spelled k q (glyph ∷ acc)) none ∙ zeros k (glyph ∷ acc)))
      | inr more ↦
          (let ds : digits_onto j 16 false n acc ≡ digits_onto (j - 1) 16 false (n / 16) (glyph ∷ acc) = onto_step n acc j (omega arith) more in
          let rest = digits_onto (j - 1) 16 false (n / 16) (glyph ∷ acc) in
          let same : suc k + length acc - length rest ≡ k + length (glyph ∷ acc) - length rest = omega arith in
          let low : n / 16 < 16 ^ k = omega arith in
          let left : 0 < k = left_of k n low more in
          ap (filled (suc k) acc) ds ∙ ap (λ m. replicate m 48 ++ rest) same ∙ filled_is k (j - 1) (n / 16) (glyph ∷ acc) left (omega arith) low)
    ]
  where
    left_of : (k n : ℕ) → n / 16 < 16 ^ k → (n / 16 ≡ 0 → ⊥) → 0 < k
    left_of zero n low more = absurd (more (omega arith))
    left_of (suc k) n low more = omega arith

hex8_is : (n : ℕ) → n < 2 ^ 32 → hex8 n ≡ spelled 8 n []
unfolding padded_integral char_count
hex8_is n small =
    let ds = digits 16 false n in
    let short : 8 - length ds - 0 - 0 ≡ 8 - length ds = omega arith in
    let is = filled_is 8 64 n [] (omega arith) (omega arith) small in
    ap (λ m. replicate m 48 ++ (ds ++ [])) short ∙ ap (λ l. replicate (8 - length ds) 48 ++ l) (append-nil ds)
    ∙ ap (λ l. replicate (8 - length l) 48 ++ l) (digits_are n) ∙ is

digit_is : (d : ℕ) → d < 16 → digit_glyph false d ≡ hex_digit d
digit_is zero h = refl
digit_is (suc zero) h = refl
digit_is (suc (suc zero)) h = refl
digit_is (suc (suc (suc zero))) h = refl
digit_is (suc (suc (suc (suc zero)))) h = refl
digit_is (suc (suc (suc (suc (suc zero))))) h = refl
digit_is (suc (suc (suc (suc (suc (suc zero)))))) h = refl
digit_is (suc (suc (suc (suc (suc (suc (suc zero))))))) h = refl
digit_is (suc (suc (suc (suc (suc (suc (suc (suc zero)))))))) h = refl
digit_is (suc (suc (suc (suc (suc (suc (suc (suc (suc zero))))))))) h = refl
digit_is (suc (suc (suc (suc (suc (suc (suc (suc (suc (suc zero)))))))))) h = refl
digit_is (suc (suc (suc (suc (suc (suc (suc (suc (suc (suc (suc zero))))))))))) h = refl
digit_is (suc (suc (suc (suc (suc (suc (suc (suc (suc (suc (suc (suc zero)))))))))))) h = refl
digit_is (suc (suc (suc (suc (suc (suc (suc (suc (suc (suc (suc (suc (suc zero))))))))))))) h = refl
digit_is (suc (suc (suc (suc (suc (suc (suc (suc (suc (suc (suc (suc (suc (suc zero)))))))))))))) h = refl
digit_is (suc (suc (suc (suc (suc (suc (suc (suc (suc (suc (suc (suc (suc (suc (suc zero))))))))))))))) h = refl
digit_is (suc (suc (suc (suc (suc (suc (suc (suc (suc (suc (suc (suc (suc (suc (suc (suc d)))))))))))))))) h = absurd (omega arith)

-- a digit of the number that stands above others
placed : (q p : ℕ) → q ≡ p → digit_glyph false (q % 16) ≡ hex_digit (p % 16)
placed q p e = digit_is (q % 16) (omega arith) ∙ ap (λ x. hex_digit (x % 16)) e

spelled_at : (n i : ℕ) → i < 8 → get_or (spelled 8 n []) i 0 ≡ hex_digit (n / 16 ^ (7 - i) % 16)
spelled_at n zero h = placed (n / 16 / 16 / 16 / 16 / 16 / 16 / 16) (n / 16 ^ 7) (simp div-div-eq-div-mul)
spelled_at n (suc zero) h = placed (n / 16 / 16 / 16 / 16 / 16 / 16) (n / 16 ^ 6) (simp div-div-eq-div-mul)
spelled_at n (suc (suc zero)) h = placed (n / 16 / 16 / 16 / 16 / 16) (n / 16 ^ 5) (simp div-div-eq-div-mul)
spelled_at n (suc (suc (suc zero))) h = placed (n / 16 / 16 / 16 / 16) (n / 16 ^ 4) (simp div-div-eq-div-mul)
spelled_at n (suc (suc (suc (suc zero)))) h = placed (n / 16 / 16 / 16) (n / 16 ^ 3) (simp div-div-eq-div-mul)
spelled_at n (suc (suc (suc (suc (suc zero))))) h = placed (n / 16 / 16) (n / 16 ^ 2) (simp div-div-eq-div-mul)
spelled_at n (suc (suc (suc (suc (suc (suc zero)))))) h = placed (n / 16) (n / 16 ^ 1) refl
spelled_at n (suc (suc (suc (suc (suc (suc (suc zero))))))) h = placed n (n / 16 ^ 0) (omega arith)
spelled_at n (suc (suc (suc (suc (suc (suc (suc (suc i)))))))) h = absurd (omega arith)

pub are_hex_digits : (n : ℕ) → n < 2 ^ 32 → AreHexDigits n (hex8 n)
are_hex_digits n small = record {
  count = ap length (hex8_is n small);
  each = λ i h. ap (λ l. get_or l i 0) (hex8_is n small) ∙ spelled_at n i h;
}

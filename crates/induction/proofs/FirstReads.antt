-- Locations that words read first, word by word.
use Rattle.std.proofs.Common.{◌≡◌, ◌≢◌, ℕ, ◌+◌, ◌-◌, ◌^◌, ◌<◌, ◌≤◌, ◌⊎◌, inl, inr, ◌==◌, ◌&&◌, ◌||◌, not, Bool, true, false, if◌then◌else◌, max, List, length, get_or, refl, ap, sym, ◌∙◌, arith}
use Rattle.std.specs.Int.{bit_at, bit_not, w64}
use Rattle.std.specs.Int.Bits.{bit_and}
use Rattle.std.specs.Int.RustNames.{bit_or}
use mir.Val.{bits}
use Rattle.std.proofs.lemmas.Bool.{cases_eq}
use Rattle.std.proofs.lemmas.Nat.Bits.{bit_at_or, bit_at_not, bit_at-lt, bit_at-zero}
use Rattle.loop_data.specs.declared.flow.Flow.{Flow}
use Rattle.loop_data.proofs.Tests.{is_eq, is_ne}
use Rattle.induction.proofs.MaskBits.{bit_both}
use Rattle.induction.specs.Masks.{has_bit, place_reads, IsReadFirst, AreFirstReads}

-- the same of the words below a place
pub record AreReadsTo (f : Flow) (masks : List ℕ) (reads n : ℕ) : Type 0 where
  pub first : (r : ℕ) → 1 ≤ r → r < 48 → has_bit reads r ≡ true → IsReadFirst f masks r
  pub others : (r : ℕ) → 1 ≤ r → r < 48 → has_bit reads r ≡ false → (p : ℕ) → p < n → place_reads f p r ≡ true → has_bit (get_or masks p 0) r ≡ true

pub none_read : (f : Flow) (masks : List ℕ) → AreReadsTo f masks 0 0
none_read f masks = record { first = λ r a b e. absurd (no r e); others = λ r a b e p l. absurd (omega arith) }
  where
    no : (r : ℕ) → has_bit 0 r ≡ true → ⊥
    no r e = let q : has_bit 0 r ≡ false = is_ne (bit_at 0 r) 1 (λ z. let y = bit_at-zero r in absurd (omega arith)) in absurd (cc)

-- one word more
pub reads_more : (f : Flow) (masks : List ℕ) (old new n : ℕ) → n < length f.instrs.items → AreReadsTo f masks old n
    → ((r : ℕ) → r < 48 → has_bit new r ≡ (has_bit old r || ((if r == 0 then false else place_reads f n r) && not (has_bit (get_or masks n 0) r))))
    → AreReadsTo f masks new (n + 1)
reads_more f masks old new n l before e = record { first = λ r a b h. first r a b (has_bit old r) refl (place_reads f n r) refl (has_bit (get_or masks n 0) r) refl (sym h ∙ at r a b); others = others }
  where
    at : (r : ℕ) → 1 ≤ r → r < 48 → has_bit new r ≡ (has_bit old r || (place_reads f n r && not (has_bit (get_or masks n 0) r)))
    at r a b = e r b ∙ ap (λ t. has_bit old r || ((if t then false else place_reads f n r) && not (has_bit (get_or masks n 0) r))) (is_ne r 0 (λ z. absurd (omega arith)))

    first : (r : ℕ) → 1 ≤ r → r < 48 → (x : Bool) → has_bit old r ≡ x → (y : Bool) → place_reads f n r ≡ y → (z : Bool) → has_bit (get_or masks n 0) r ≡ z → true ≡ (x || (y && not z)) → IsReadFirst f masks r
    first r a b true p y q z s h = before.first r a b p
    first r a b false p true q false s h = record { place = n; within = l; reads = q; unwritten = s }
    first r a b false p true q true s h = absurd (cc)
    first r a b false p false q z s h = absurd (cc)

    others : (r : ℕ) → 1 ≤ r → r < 48 → has_bit new r ≡ false → (p : ℕ) → p < n + 1 → place_reads f p r ≡ true → has_bit (get_or masks p 0) r ≡ true
    others r a b h p lp q = by (has_bit old r) refl (place_reads f n r) refl (has_bit (get_or masks n 0) r) refl (sym h ∙ at r a b) (cases_eq p n)
      where
        by : (x : Bool) → has_bit old r ≡ x → (y : Bool) → place_reads f n r ≡ y → (z : Bool) → has_bit (get_or masks n 0) r ≡ z → false ≡ (x || (y && not z)) → (p ≡ n) ⊎ (p ≢ n) → has_bit (get_or masks p 0) r ≡ true
        by false o y g z s k (inr ne) = before.others r a b o p (omega arith) q
        by false o true g true s k (inl i) = ap (λ j. has_bit (get_or masks j 0) r) i ∙ s
        by false o true g false s k (inl i) = absurd (cc)
        by false o false g z s k (inl i) = let u = ap (λ j. place_reads f j r) (sym i) ∙ q in absurd (cc)
        by true o y g z s k i = absurd (cc)

pub all_read : (f : Flow) (masks : List ℕ) (reads n : ℕ) → length f.instrs.items ≤ n → AreReadsTo f masks reads n → AreFirstReads f masks reads
all_read f masks reads n l h r a b = (h.first r a b, λ e p lp q. h.others r a b e p (omega arith) q)

bit_flip : (s : ℕ) → s < 2 → (1 - s == 1) ≡ not (s == 1)
bit_flip s l = by (cases_eq s 0)
  where
    by : (s ≡ 0) ⊎ (s ≢ 0) → (1 - s == 1) ≡ not (s == 1)
    by (inl e) = is_eq (1 - s) 1 (omega arith) ∙ sym (ap not (is_ne s 1 (λ q. absurd (omega arith))))
    by (inr ne) = is_ne (1 - s) 1 (λ q. absurd (omega arith)) ∙ sym (ap not (is_eq s 1 (omega arith)))

bit_max : (a b : ℕ) → a < 2 → b < 2 → (max a b == 1) ≡ ((a == 1) || (b == 1))
bit_max a b la lb = by (cases_eq a 0)
  where
    by : (a ≡ 0) ⊎ (a ≢ 0) → (max a b == 1) ≡ ((a == 1) || (b == 1))
    by (inl e) = let m : max a b ≡ b = omega arith in ap (λ n. n == 1) m ∙ sym (ap (λ t. t || (b == 1)) (is_ne a 1 (λ q. absurd (omega arith))))
    by (inr ne) = is_eq (max a b) 1 (omega arith) ∙ sym (ap (λ t. t || (b == 1)) (is_eq a 1 (omega arith)))

-- what is in a mask, or in another and not in a third
pub bit_others : (a b c r : ℕ) → c < 2 ^ bits w64 → r < 48 → has_bit (bit_or a (bit_and b (bit_not w64 c))) r ≡ (has_bit a r || (has_bit b r && not (has_bit c r)))
bit_others a b c r fits l =
    let n : has_bit (bit_not w64 c) r ≡ not (has_bit c r) = ap (λ k. k == 1) (bit_at_not w64 c r fits (omega arith)) ∙ bit_flip (bit_at c r) (bit_at-lt c r) in
    ap (λ k. k == 1) (bit_at_or a (bit_and b (bit_not w64 c)) r) ∙ bit_max (bit_at a r) (bit_at (bit_and b (bit_not w64 c)) r) (bit_at-lt a r) (bit_at-lt (bit_and b (bit_not w64 c)) r)
    ∙ ap (λ t. has_bit a r || t) (bit_both b (bit_not w64 c) r ∙ ap (λ t. has_bit b r && t) n)

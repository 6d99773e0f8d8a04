-- The four tests of accesses of the same shape, from the last to the first. Each is given what follows it.
use Rattle.std.proofs.Common.{◌≡◌, ℕ, ◌+◌, ◌^◌, ◌<◌, refl, ap, ◌∙◌, arith, ℤ, pos, Bool, true, false, List, [], ◌∷◌, ◌++◌, length}
use Rattle.std.specs.Prelude.{◌||◌}
use Rattle.std.proofs.lemmas.Int.{ints}
use Rattle.rv64_decode.specs.Row.{alu, alu_imm, taken}
use Rattle.rv64_decode.specs.declared.instr.AluOp.TheVariants.{Add, Sub, Mul, Rem}
use Rattle.rv64_decode.specs.declared.instr.ImmOp.TheVariants.{Addi, Addiw}
use Rattle.rv64_decode.specs.declared.instr.BranchOp.TheVariants.{Blt, Bge}
use Rattle.rv64_decode.specs.declared.instr.Instr.TheVariants.{Alu, AluImm}
use Rattle.rv64_decode.specs.declared.xinstr.XInstr.{XInstr}
use Rattle.rv64_decode.specs.declared.xinstr.XInstr.TheVariants.{Base, Get}
use Rattle.stub_laws.specs.Code.{open_jump}
use Rattle.stub_laws.specs.Straight.{read}
use Rattle.stub_laws.proofs.Steps.{World}
use Rattle.stub_laws.proofs.Known.{Knows}
use Rattle.stub_laws.proofs.Tests.{IsTest, both, stronger, same_test, Known, With}
use Rattle.stub_laws.proofs.Choices.{over, or_else, skip, never}
use Rattle.check_numbers.specs.Parts.{bits, low_part, high_part}
use Rattle.check_numbers.specs.PairWords.{apart_word, apart_words, near_words, residue_words, residue_if, lane_words, lanes_if, block_words, same_words}
use Rattle.check_numbers.proofs.Parts.{parts}
use Rattle.check_code.specs.Macros.{load_upper, add_lower}
use Rattle.check_code.specs.PairCode.{far_code, residue_code, residue_part, lane_code, lane_part, block_code, four_code, far_length, residue_length, lane_length}
use Rattle.check_code.proofs.Pieces.{low_short}
use Rattle.check_code.proofs.States.{temps_test, knows_temps, ap2, ap3}

-- the distance in x5, how far the passes lead in x6, the difference in x28
pub record Front (known : ℕ → Bool) (e : ℕ → ℕ) (d s c : ℕ) (f g : ℕ → ℕ) : Type 0 where
  pub knows : Knows known e f g
  pub five : read f 5 ≡ d
  pub six : read f 6 ≡ s
  pub diff : read f 28 ≡ c

-- and the stride of the root in x29
pub record Ready (known : ℕ → Bool) (e : ℕ → ℕ) (d s c m : ℕ) (f g : ℕ → ℕ) : Type 0 where
  pub front : Front known e d s c f g
  pub last : read f 29 ≡ m

bits_low : (n : ℕ) → n < 2 ^ 31 → bits (pos n) ≡ n
bits_low n h = omega (arith, ints)

-- two instructions make a number
pub made : (n : ℕ) → n < 2 ^ 31 → alu_imm Addiw (bits (high_part (pos n))) (low_part (pos n)) ≡ n
made n h = parts (pos n) (low_short n h) ∙ bits_low n h

or_false : (t : Bool) → (t || false) ≡ t
or_false true = refl
or_false false = refl

module _ (w : World) (known : ℕ → Bool) (e : ℕ → ℕ) (turns : known 55 ≡ true) (d s c : ℕ) where
  same_of : (m : ℕ) (f g f' g' : ℕ → ℕ) → Ready known e d s c m f g → Knows known e f' g' → read f' 5 ≡ read f 5 → read f' 6 ≡ read f 6
      → read f' 28 ≡ read f 28 → read f' 29 ≡ read f 29 → Ready known e d s c m f' g'
  same_of m f g f' g' x k a5 a6 a28 a29 = record { front = record { knows = k; five = a5 ∙ x.front.five; six = a6 ∙ x.front.six; diff = a28 ∙ x.front.diff }; last = a29 ∙ x.last }

  far_test : (m width : ℕ)
      → IsTest w (Known known e) (Ready known e d s c m) (Known known e) (far_code width) (apart_words d (e 55) m s (pos width))
  far_test m width =
      let z = Known known e in
      let a = Ready known e d s c m in
      let v = apart_word (e 55) m s (pos width) in
      let mid = With 31 v a in
      let sum = Get 31 23 ∷ Base (Alu Mul 31 31 29) ∷ Base (Alu Add 31 31 6) ∷ Base (AluImm Addi 31 31 (pos width)) ∷ [] in
      same_test w z a z (far_code width) _ _ (or_false (taken Bge d v))
      (both w z a mid z sum (over Bge 5 31 (open_jump ∷ []) ∷ open_jump ∷ []) true (taken Bge d v || false)
      (temps_test w z a mid sum refl (λ f g x. (
        ap3 (g 23) (e 55) (read f 29) m (read f 6) s (λ p q r. apart_word p q r (pos width))
            (x.front.knows.each 55 turns) x.last x.front.six,
        same_of m f g _ _ x (knows_temps known e sum f g refl x.front.knows) refl refl refl refl,
      )))
      (λ h. or_else w z mid z Bge 5 31 (open_jump ∷ []) (taken Bge d v) false
      (λ f g x. ap2 (read f 5) d (read f 31) v (taken Bge) x.1.front.five x.0) (λ f g x. x.1.front.knows) (omega arith)
      (λ k. never w z mid z (λ f g x. x.1.front.knows))))

  abbrev below_part : List XInstr → List XInstr
  below_part rest = Base (Alu Sub 30 30 7) ∷ over Bge 30 31 rest ∷ []

  below_test : (m r g wd : ℕ) (rest : List XInstr) (u : Bool) → length rest < 2 ^ 18
      → IsTest w (Known known e) (Ready known e d s c m) (Known known e) rest u
      → IsTest w (Known known e) (With 31 wd (With 7 r (With 30 g (Ready known e d s c m)))) (Known known e) (below_part rest ++ rest) (taken Bge (alu Sub g r) wd || u)
  below_test m r g wd rest u short further =
      let z = Known known e in
      let a = Ready known e d s c m in
      let b = With 31 wd (With 7 r (With 30 g a)) in
      let mid = With 30 (alu Sub g r) (With 31 wd a) in
      let one = Base (Alu Sub 30 30 7) ∷ [] in
      both w z b mid z one (over Bge 30 31 rest ∷ rest) true (taken Bge (alu Sub g r) wd || u)
      (temps_test w z b mid one refl (λ f h x. (
        ap2 (read f 30) g (read f 7) r (alu Sub) x.1.1.0 x.1.0,
        (
          x.0,
          same_of m f h _ _ x.1.1.1 (knows_temps known e one f h refl x.1.1.1.front.knows) refl refl refl refl,
        ),
      )))
      (λ h. or_else w z mid z Bge 30 31 rest (taken Bge (alu Sub g r) wd) u
      (λ f h x. ap2 (read f 30) (alu Sub g r) (read f 31) wd (taken Bge) x.0 x.1.0) (λ f h x. x.1.1.front.knows) (omega arith)
      (λ k. stronger w z mid a z rest u (λ f h x. x.1.1) further))

  near_test : (m r g width : ℕ) (rest : List XInstr) (u : Bool) → length rest < 2 ^ 18
      → IsTest w (Known known e) (Ready known e d s c m) (Known known e) rest u
      → IsTest w (Known known e) (With 7 r (With 30 g (Ready known e d s c m))) (Known known e) (Base (AluImm Addi 31 0 (pos width)) ∷ over Blt 7 31 (below_part rest) ∷ (below_part rest ++ rest)) (near_words r g (alu_imm Addi 0 (pos width)) u)
  near_test m r g width rest u short further =
      let z = Known known e in
      let a = Ready known e d s c m in
      let wd = alu_imm Addi 0 (pos width) in
      let b = With 7 r (With 30 g a) in
      let mid = With 31 wd b in
      let one = Base (AluImm Addi 31 0 (pos width)) ∷ [] in
      both w z b mid z one (over Blt 7 31 (below_part rest) ∷ (below_part rest ++ rest)) true (near_words r g wd u)
      (temps_test w z b mid one refl (λ f h x. (
        refl,
        (
          x.0,
          (
            x.1.0,
            same_of m f h _ _ x.1.1 (knows_temps known e one f h refl x.1.1.front.knows) refl refl refl refl,
          ),
        ),
      )))
      (λ h. skip w z mid z Blt 7 31 (below_part rest) rest (taken Blt r wd) u (taken Bge (alu Sub g r) wd || u)
      (λ f h x. ap2 (read f 7) r (read f 31) wd (taken Blt) x.1.0 x.0) (omega arith)
      (λ k. stronger w z mid a z rest u (λ f h x. x.1.1.1) further)
      (λ k. below_test m r g wd rest u short further))

  residue_test : (m g width : ℕ) (rest : List XInstr) (u : Bool) → g < 2 ^ 31 → length rest < 2 ^ 18
      → IsTest w (Known known e) (Ready known e d s c m) (Known known e) rest u
      → IsTest w (Known known e) (Ready known e d s c m) (Known known e) (residue_code g width (length rest) ++ rest) (residue_words c g (pos width) u)
  residue_test m g width rest u low short further =
      let z = Known known e in
      let a = Ready known e d s c m in
      let wd = alu_imm Addi 0 (pos width) in
      let r = alu Rem c g in
      let mid = With 7 r (With 30 g a) in
      let next = With 7 (alu Add r g) (With 30 g a) in
      let first = load_upper 30 (pos g) ∷ add_lower 30 (pos g) ∷ Base (Alu Rem 7 28 30) ∷ [] in
      let one = Base (Alu Add 7 7 30) ∷ [] in
      let near = Base (AluImm Addi 31 0 (pos width)) ∷ over Blt 7 31 (below_part rest) ∷ (below_part rest ++ rest) in
      both w z a mid z first (over Bge 7 0 one ∷ (one ++ near)) true (residue_words c g (pos width) u)
      (temps_test w z a mid first refl (λ f h x. (
        ap2 (read f 28) c _ g (alu Rem) x.front.diff (made g low),
        (
          made g low,
          same_of m f h _ _ x (knows_temps known e first f h refl x.front.knows) refl refl refl refl,
        ),
      )))
      (λ h. skip w z mid z Bge 7 0 one near (taken Bge r 0) (near_words r g wd u) (near_words (alu Add r g) g wd u)
      (λ f h x. ap (λ y. taken Bge y 0) x.0) (omega arith)
      (λ k. near_test m r g width rest u short further)
      (λ k. both w z mid next z one near true (near_words (alu Add r g) g wd u)
      (temps_test w z mid next one refl (λ f h x. (
        ap2 (read f 7) r (read f 30) g (alu Add) x.0 x.1.0,
        (
          x.1.0,
          same_of m f h _ _ x.1.1 (knows_temps known e one f h refl x.1.1.front.knows) refl refl refl refl,
        ),
      )))
      (λ h. near_test m (alu Add r g) g width rest u short further)))

  lane_test : (m lane width : ℕ) (rest : List XInstr) (u : Bool) → lane < 2 ^ 31 → length rest < 2 ^ 18
      → IsTest w (Known known e) (Ready known e d s c m) (Known known e) rest u
      → IsTest w (Known known e) (Ready known e d s c m) (Known known e) (lane_code lane width (length rest) ++ rest) (lane_words d (e 55) m lane (pos width) u)
  lane_test m lane width rest u low short further =
      let z = Known known e in
      let a = Ready known e d s c m in
      let n = alu_imm Addi d (pos width) in
      let v = alu Add n (alu Mul (e 55) m) in
      let one = Base (AluImm Addi 7 5 (pos width)) ∷ [] in
      let sum = Get 31 23 ∷ Base (Alu Mul 31 31 29) ∷ Base (Alu Add 7 7 31) ∷ load_upper 30 (pos lane) ∷ add_lower 30 (pos lane) ∷ [] in
      let part = sum ++ over Bge 30 7 rest ∷ [] in
      let mid = With 7 n a in
      let last = With 30 lane (With 7 v a) in
      both w z a mid z one (over Blt 29 7 part ∷ (part ++ rest)) true (lane_words d (e 55) m lane (pos width) u)
      (temps_test w z a mid one refl (λ f h x. (
        ap (λ y. alu_imm Addi y (pos width)) x.front.five,
        same_of m f h _ _ x (knows_temps known e one f h refl x.front.knows) refl refl refl refl,
      )))
      (λ h. skip w z mid z Blt 29 7 part rest (taken Blt m n) u (taken Bge lane v || u)
      (λ f h x. ap2 (read f 29) m (read f 7) n (taken Blt) x.1.last x.0) (omega arith)
      (λ k. stronger w z mid a z rest u (λ f h x. x.1) further)
      (λ k. both w z mid last z sum (over Bge 30 7 rest ∷ rest) true (taken Bge lane v || u)
      (temps_test w z mid last sum refl (λ f h x. (
        made lane low,
        (
          ap3 (read f 7) n (h 23) (e 55) (read f 29) m (λ p q r. alu Add p (alu Mul q r)) x.0 (x.1.front.knows.each 55 turns) x.1.last,
          same_of m f h _ _ x.1 (knows_temps known e sum f h refl x.1.front.knows) refl refl refl refl,
        ),
      )))
      (λ h. or_else w z last z Bge 30 7 rest (taken Bge lane v) u
      (λ f h x. ap2 (read f 30) lane (read f 7) v (taken Bge) x.0 x.1.0) (λ f h x. x.1.1.front.knows) (omega arith)
      (λ k. stronger w z last a z rest u (λ f h x. x.1.1) further))))

  block_test : (m width : ℕ) (rest : List XInstr) (u : Bool) → m < 2 ^ 31 → length rest < 2 ^ 18
      → IsTest w (Known known e) (Ready known e d s c m) (Known known e) rest u
      → IsTest w (Known known e) (Front known e d s c) (Known known e) (block_code m width (length rest) ++ rest) (block_words d s m (pos width) u)
  block_test m width rest u low short further =
      let z = Known known e in
      let a = Front known e d s c in
      let b = Ready known e d s c m in
      let n = alu_imm Addi (alu Add d s) (pos width) in
      let first = Base (Alu Add 7 5 6) ∷ Base (AluImm Addi 7 7 (pos width)) ∷ load_upper 29 (pos m) ∷ add_lower 29 (pos m) ∷ [] in
      let mid = With 7 n b in
      both w z a mid z first (over Bge 29 7 rest ∷ rest) true (block_words d s m (pos width) u)
      (temps_test w z a mid first refl (λ f h x. (
        ap2 (read f 5) d (read f 6) s (λ p q. alu_imm Addi (alu Add p q) (pos width)) x.five x.six,
        record { front = record { knows = knows_temps known e first f h refl x.knows; five = x.five; six = x.six; diff = x.diff }; last = made m low },
      )))
      (λ h. or_else w z mid z Bge 29 7 rest (taken Bge m n) u
      (λ f h x. ap2 (read f 29) m (read f 7) n (taken Bge) x.1.last x.0) (λ f h x. x.1.front.knows) (omega arith)
      (λ k. stronger w z mid b z rest u (λ f h x. x.1) further))

  -- all four, of which the second and the third may be absent
  pub four_test : (inner common : Bool) (m lane g width : ℕ) → m < 2 ^ 31 → lane < 2 ^ 31 → g < 2 ^ 31
      → IsTest w (Known known e) (Front known e d s c) (Known known e) (four_code inner common m lane g width) (same_words inner common c d (e 55) m s lane g (pos width))
  four_test inner common m lane g width low_m low_lane low_g = by_parts inner common
    where
      last : Bool
      last = apart_words d (e 55) m s (pos width)

      residues : (common : Bool)
          → IsTest w (Known known e) (Ready known e d s c m) (Known known e) (residue_part common g width ++ far_code width) (residue_if common c g (pos width) last)
      residues true = residue_test m g width (far_code width) last low_g (omega arith) (far_test m width)
      residues false = far_test m width

      by_parts : (inner common : Bool)
          → IsTest w (Known known e) (Front known e d s c) (Known known e) (four_code inner common m lane g width) (same_words inner common c d (e 55) m s lane g (pos width))
      by_parts true true =
          block_test m width (lane_part true lane width 15 ++ (residue_part true g width ++ far_code width)) _ low_m (omega arith)
          (lane_test m lane width (residue_part true g width ++ far_code width) _ low_lane (omega arith) (residues true))
      by_parts true false =
          block_test m width (lane_part true lane width 6 ++ (residue_part false g width ++ far_code width)) _ low_m (omega arith)
          (lane_test m lane width (residue_part false g width ++ far_code width) _ low_lane (omega arith) (residues false))
      by_parts false true = block_test m width (residue_part true g width ++ far_code width) _ low_m (omega arith) (residues true)
      by_parts false false = block_test m width (residue_part false g width ++ far_code width) _ low_m (omega arith) (residues false)

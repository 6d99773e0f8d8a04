-- The test of a pair in words is the test over integers.
use Rattle.std.proofs.Common.{◌≡◌, ℕ, ◌+◌, ◌-◌, ◌*◌, ◌%◌, ◌^◌, ◌<◌, ◌≤◌, refl, sym, ap, ◌∙◌, arith, ℤ, pos, Bool, true, false, List, Option}
use Rattle.std.specs.Prelude.{◌&&◌, ◌||◌, nat_lt, nat_le, if◌then◌else◌, slice_index}
use Rattle.std.specs.Int.{w64, cast_unsigned, int_rem_euclid}
use Rattle.std.specs.Int.RustNames.{unsigned_abs}
use Rattle.std.proofs.lemmas.Int.{ints}
use Rattle.std.proofs.lemmas.Bool.Decides.{nat_tests}
use Rattle.std.proofs.Math.Nat.{mul-le-mul, mul_comm}
use Rattle.rv64_decode.specs.Row.{alu, alu_imm, taken}
use Rattle.rv64_decode.specs.declared.instr.AluOp.TheVariants.{Add, Mul}
use Rattle.rv64_decode.specs.declared.instr.ImmOp.TheVariants.{Addi}
use Rattle.rv64_decode.specs.declared.instr.BranchOp.TheVariants.{Blt, Bge}
use Rattle.loop_data.specs.declared.plans.Term.TheVariants.{Same}
use Rattle.dependence_tests.specs.declared.pairs.PairBox.{PairBox}
use Rattle.dependence_tests.specs.PairTests.{span, are_blocks, are_lanes, are_residues, are_apart, pair_test}
use Rattle.check_numbers.specs.PairWords.{difference, size_word, apart_words, lane_words, block_words, residue_if, lanes_if, same_words}
use Rattle.check_numbers.specs.Pairs.{most, IsPairInReach}
use Rattle.check_numbers.proofs.Words.{gap, bge_is, chosen, size_is, difference_is, gap_small}
use Rattle.check_numbers.proofs.Residues.{residue_is}

pub product_most : (u m : ℕ) → u < 2 ^ 31 → m < 2 ^ 30 → m * u ≤ most
product_most u m a b =
    let x : m ≤ 2 ^ 30 - 1 = omega arith in
    let y : u ≤ 2 ^ 31 - 1 = omega arith in
    mul-le-mul x y

product_word : (u m : ℕ) → m * u ≤ most → alu Mul u m ≡ m * u
product_word u m h = ap (λ x. x % 2 ^ 64) (mul_comm u m) ∙ omega (arith, h)

blocks_is : (d s m n : ℕ) (further : Bool) → d < 2 ^ 31 → s ≤ 3 * most → m < 2 ^ 31 → n ≤ 8 → block_words d s m (pos n) further ≡ (nat_le (d + s + n) m || further)
blocks_is d s m n further a b c h =
    let v : alu_imm Addi (alu Add d s) (pos n) ≡ d + s + n = omega (arith, ints) in
    ap (λ x. taken Bge m x || further) v ∙ ap (λ t. t || further) (bge_is m (d + s + n) (omega arith) (omega arith))

lanes_is : (d u m lane n : ℕ) (further : Bool) → d < 2 ^ 31 → m * u ≤ most → m < 2 ^ 31 → lane < 2 ^ 31 → n ≤ 8 → lane_words d u m lane (pos n) further ≡ (nat_le (d + n) m && nat_le (m * u + d + n) lane || further)
lanes_is d u m lane n further a p b c h =
    let v : alu_imm Addi d (pos n) ≡ d + n = omega (arith, ints) in
    let q = product_word u m p in
    let s : alu Add (d + n) (m * u) ≡ m * u + d + n = omega (arith, p) in
    ap (λ x. if taken Blt m x then further else (taken Bge lane (alu Add x (alu Mul u m)) || further)) v
    ∙ ap (λ x. if taken Blt m (d + n) then further else (taken Bge lane x || further)) (ap (alu Add (d + n)) q ∙ s)
    ∙ chosen m (d + n) lane (m * u + d + n) further (omega arith) (omega arith) (omega arith) (omega (arith, p))

far_is : (d u m s n : ℕ) → d < 2 ^ 31 → m * u ≤ most → s ≤ 3 * most → n ≤ 8 → apart_words d u m s (pos n) ≡ nat_le (m * u + s + n) d
far_is d u m s n a p b h =
    let v : alu_imm Addi (alu Add (m * u) s) (pos n) ≡ m * u + s + n = omega (arith, ints, p) in
    ap (taken Bge d) (ap (λ x. alu_imm Addi (alu Add x s) (pos n)) (product_word u m p) ∙ v)
    ∙ bge_is d (m * u + s + n) (omega arith) (omega (arith, p))

lanes_if_is : (t : Bool) (d u m lane n : ℕ) (further : Bool) → d < 2 ^ 31 → m * u ≤ most → m < 2 ^ 31 → lane < 2 ^ 31 → n ≤ 8 → lanes_if t d u m lane (pos n) further ≡ ((t && (nat_le (d + n) m && nat_le (m * u + d + n) lane)) || further)
lanes_if_is true d u m lane n further a p b c h = lanes_is d u m lane n further a p b c h
lanes_if_is false d u m lane n further a p b c h = refl

above_zero : (g : ℕ) → nat_lt 0 g ≡ true → 0 < g
above_zero g h = grind (arith, nat_tests)

residue_if_is : (t : Bool) (z : ℤ) (c g n : ℕ) (further : Bool) → nat_lt 0 g ≡ t → c ≡ cast_unsigned w64 z → unsigned_abs z < 2 ^ 31 → g < 2 ^ 31 → n < 2 ^ 31
    → residue_if t c g (pos n) further ≡ ((t && (nat_le n (unsigned_abs (int_rem_euclid z (pos g))) && nat_le n (g - unsigned_abs (int_rem_euclid z (pos g))))) || further)
residue_if_is true z c g n further i e h q l = residue_is z c g n further e h (above_zero g i) q l
residue_if_is false z c g n further i e h q l = refl

regroup : (a b c d : Bool) → (a || (b || (c || d))) ≡ ((a || b) || (c || d))
regroup true b c d = refl
regroup false b c d = refl

pub pair_words : (root lanes residue width a b : ℕ) (inner : List ℕ) (known : Option ℤ) (at : PairBox) → IsPairInReach root lanes residue width inner at a b
    → same_words (nat_lt 0 lanes) (nat_lt 0 residue) (difference a b) (size_word (difference a b)) (slice_index at.last 0) root (span inner at.last) lanes residue (pos width) ≡ pair_test (Same root inner lanes residue width known) at
pair_words m lanes g n a b inner known at ok =
    let z = at.difference in
    let c = difference a b in
    let d = unsigned_abs z in
    let u = slice_index at.last 0 in
    let s = span inner at.last in
    let is_c : c ≡ cast_unsigned w64 z = difference_is a b ok.first ok.second ∙ ap (cast_unsigned w64) (sym ok.difference) in
    let low : d < 2 ^ 31 = small z ok.difference in
    let is_d : size_word c ≡ d = size_is z c is_c low in
    let product = product_most u m ok.turns ok.small_root in
    let m_low = ok.small_root in
    let l_low = ok.small_lanes in
    let g_low = ok.small_residue in
    let n_low = ok.narrow in
    let last_part = apart_words d u m s (pos n) in
    let residue_part = residue_if (nat_lt 0 g) c g (pos n) last_part in
    ap (λ x. same_words (nat_lt 0 lanes) (nat_lt 0 g) c x u m s lanes g (pos n)) is_d
    ∙ blocks_is d s m n (lanes_if (nat_lt 0 lanes) d u m lanes (pos n) residue_part) low ok.spans (omega (arith, m_low)) ok.narrow
    ∙ ap (λ t. are_blocks m d s n || t) (lanes_if_is (nat_lt 0 lanes) d u m lanes n residue_part low product (omega (arith, m_low)) (omega (arith, l_low)) ok.narrow)
    ∙ ap (λ t. are_blocks m d s n || (are_lanes m (m * u) d n lanes || t)) (residue_if_is (nat_lt 0 g) z c g n last_part refl is_c low (omega (arith, g_low)) (omega (arith, n_low)))
    ∙ ap (λ t. are_blocks m d s n || (are_lanes m (m * u) d n lanes || (are_residues z n g || t))) (far_is d u m s n low product ok.spans ok.narrow)
    ∙ regroup (are_blocks m d s n) (are_lanes m (m * u) d n lanes) (are_residues z n g) (are_apart (m * u) d s n)
  where
    small : (z : ℤ) → z ≡ gap a b → unsigned_abs z < 2 ^ 31
    small z e = rw e (gap_small a b ok.first ok.second)

-- The test of a cell and an access, and that of two ranges.
use Rattle.std.proofs.Common.{◌≡◌, ℕ, ◌+◌, ◌%◌, ◌^◌, ◌<◌, ◌≤◌, refl, sym, subst, ap, ◌∙◌, arith, ℤ, pos, Option, Some, None, Bool, true, false, List, [], ◌∷◌, ◌++◌}
use Rattle.std.specs.Prelude.{◌||◌, ◌&&◌, not, int_lt, if◌then◌else◌}
use Rattle.std.specs.List.{All}
use Rattle.std.proofs.lemmas.Int.{ints}
use Rattle.rv64_decode.specs.Registers.{register}
use Rattle.rv64_decode.specs.Row.{alu_imm, taken, signed64, plus_offset}
use Rattle.rv64_decode.specs.Area.{bytes_of}
use Rattle.rv64_decode.specs.declared.instr.ImmOp.TheVariants.{Addi}
use Rattle.rv64_decode.specs.declared.instr.BranchOp.TheVariants.{Bge}
use Rattle.rv64_decode.specs.declared.instr.Instr.TheVariants.{AluImm}
use Rattle.rv64_decode.specs.declared.xinstr.XInstr.{XInstr}
use Rattle.rv64_decode.specs.declared.xinstr.XInstr.TheVariants.{Base}
use Rattle.linear_forms.specs.Forms.{IsForm}
use Rattle.loop_data.specs.declared.accesses.Access.{Access}
use Rattle.loop_data.specs.declared.verdict.Cell.{Cell}
use Rattle.loop_data.specs.Locations.{address, address_by, width_by}
use Rattle.dependence_tests.specs.Overlaps.{whole_range}
use Rattle.dependence_tests.specs.PairTests.{are_disjoint}
use Rattle.alias_checks.specs.Areas.{Range}
use Rattle.alias_checks.specs.CellTests.{cell_size, cell_range}
use Rattle.alias_checks.specs.Entry.{start_value}
use Rattle.alias_checks.specs.AccessTests.{place_of, keeps_off}
use Rattle.stub_laws.specs.Code.{open_jump}
use Rattle.stub_laws.specs.Straight.{read, put}
use Rattle.stub_laws.proofs.Steps.{World}
use Rattle.stub_laws.proofs.Known.{Knows, knows_put}
use Rattle.stub_laws.proofs.Tests.{State, IsTest, both, same_test, Known, With}
use Rattle.stub_laws.proofs.Choices.{over, or_else, never}
use Rattle.check_numbers.specs.Parts.{bits}
use Rattle.check_numbers.specs.Sums.{IsShort}
use Rattle.check_numbers.proofs.Words.{signed_low}
use Rattle.check_code.specs.Macros.{address_code}
use Rattle.check_code.specs.Rounds.{last_from, AreRoundsKnown}
use Rattle.check_code.specs.AccessCode.{access_low, access_end}
use Rattle.check_code.specs.MeetCode.{disjoint_code, meet_code, keep_off_code}
use Rattle.check_code.proofs.Pieces.{three, knows_three}
use Rattle.check_code.proofs.Values.{bits_word}
use Rattle.check_code.proofs.States.{temps_test, knows_temps, address_word, AddressOk, addressed, t5, t7, t28}
use Rattle.check_code.proofs.Extents.{words, least_word, end_word, least_signed, end_signed}
use Rattle.check_code.proofs.AccessTests.{access_lowered, access_raised}

-- two ranges in x5 to x6 and in x7 to x28
pub record Ranges (known : ℕ → Bool) (e : ℕ → ℕ) (a b c d : ℕ) (f g : ℕ → ℕ) : Type 0 where
  pub knows : Knows known e f g
  pub five : read f 5 ≡ a
  pub six : read f 6 ≡ b
  pub seven : read f 7 ≡ c
  pub last : read f 28 ≡ d

-- the second begins behind the first, or the first behind the second
abbrev pub disjoint_words : ℕ → ℕ → ℕ → ℕ → Bool
disjoint_words a b c d = taken Bge c b || (taken Bge a d || false)

pub disjoint_test : (w : World) (known : ℕ → Bool) (e : ℕ → ℕ) (a b c d : ℕ)
    → IsTest w (Known known e) (Ranges known e a b c d) (Known known e) disjoint_code (disjoint_words a b c d)
disjoint_test w known e a b c d =
    let z = Known known e in
    let s = Ranges known e a b c d in
    let weaker : (f g : ℕ → ℕ) → s f g → z f g = λ f g x. x.knows in
    or_else w z s z Bge 7 6 (over Bge 5 28 (open_jump ∷ []) ∷ open_jump ∷ []) (taken Bge c b) (taken Bge a d || false)
    (λ f g x. ap (λ y. taken Bge y (read f 6)) x.seven ∙ ap (taken Bge c) x.six) weaker (omega arith)
    (λ h. or_else w z s z Bge 5 28 (open_jump ∷ []) (taken Bge a d) false
    (λ f g x. ap (λ y. taken Bge y (read f 28)) x.five ∙ ap (taken Bge a) x.last) weaker (omega arith) (λ k. never w z s z weaker))

-- over integers
pub disjoint_is : (a b c d : ℕ) (x y : Range) → signed64 a ≡ x.0 → signed64 b ≡ x.1 → signed64 c ≡ y.0 → signed64 d ≡ y.1
    → disjoint_words a b c d ≡ are_disjoint x y
disjoint_is a b c d x y ea eb ec ed =
    ap (λ t. taken Bge c b || t) (or_false (taken Bge a d))
    ∙ ap (λ n. not (int_lt n (signed64 b)) || not (int_lt (signed64 a) (signed64 d))) ec
    ∙ ap (λ n. not (int_lt y.0 n) || not (int_lt (signed64 a) (signed64 d))) eb
    ∙ ap (λ n. not (int_lt y.0 x.1) || not (int_lt n (signed64 d))) ea
    ∙ ap (λ n. not (int_lt y.0 x.1) || not (int_lt x.0 n)) ed
  where
    or_false : (t : Bool) → (t || false) ≡ t
    or_false true = refl
    or_false false = refl

-- the base of a cell is known, and holds what the register does; a known address is a signed number of 32 bits
abbrev pub BaseOk : (ℕ → Bool) → (ℕ → ℕ) → List ℕ → Option ℕ → ℤ → Type 0
BaseOk known e regs None offset = IsShort offset
BaseOk known e regs (Some base) offset = (known base ≡ true) × (e base ≡ register regs base)

base_known : (known : ℕ → Bool) (e : ℕ → ℕ) (regs : List ℕ) (base : Option ℕ) (offset : ℤ) → BaseOk known e regs base offset
    → AddressOk known base offset
base_known known e regs None offset h = h
base_known known e regs (Some base) offset h = h.0

pub address_is : (known : ℕ → Bool) (e : ℕ → ℕ) (regs : List ℕ) (base : Option ℕ) (offset : ℤ) → BaseOk known e regs base offset
    → address_word e base offset ≡ address_by regs base offset
address_is known e regs None offset h = bits_word offset h
address_is known e regs (Some base) offset h = ap (λ x. plus_offset x offset) h.1

size_small : (c : Cell) → cell_size c ≤ 8
size_small c = by_width c.wide
  where
    by_width : (t : Bool) → bytes_of (width_by t) ≤ 8
    by_width true = omega arith
    by_width false = omega arith

-- a few bytes more
more_bytes : (v n : ℕ) → v < 2 ^ 31 → n ≤ 8 → signed64 (alu_imm Addi v (pos n)) ≡ pos (v + n)
more_bytes v n h k =
    let s : alu_imm Addi v (pos n) ≡ v + n = omega (arith, ints) in
    ap signed64 s ∙ signed_low (v + n) (omega arith)

module _ (w : World) (known : ℕ → Bool) (e : ℕ → ℕ) where
  meet_words : (c : Cell) (a : Access) → AddressOk known c.base c.offset → IsForm a.form → AreRoundsKnown known a.form a.around
      → (let v = address_word e c.base c.offset in
      IsTest w (Known known e) (Known known e) (Known known e) (meet_code c a)
      (disjoint_words v (alu_imm Addi v (pos (cell_size c))) (least_word e a.form a.around) (end_word e a.form a.around (bytes_of a.width))))
  meet_words c a ok fine has =
      let z = Known known e in
      let n = pos (cell_size c) in
      let v = address_word e c.base c.offset in
      let u = alu_imm Addi v n in
      let lo = least_word e a.form a.around in
      let hi = end_word e a.form a.around (bytes_of a.width) in
      let t = disjoint_words v u lo hi in
      let one = Base (AluImm Addi 6 5 n) ∷ [] in
      let s1 = With 5 v z in
      let s2 = With 6 u s1 in
      let s3 = With 7 lo s2 in
      let last = Ranges known e v u lo hi in
      let c3 = access_end 28 a ++ disjoint_code in
      let c2 = access_low 7 a ++ c3 in
      both w z z s1 z (address_code 5 c) (one ++ c2) true t
      (addressed w known e 5 t5 c.base c.offset z s1 ok (λ f g x. x) (λ f g x. (refl, knows_put known e f g 5 _ t5.temporary x)))
      (λ h. both w z s1 s2 z one c2 true t
      (temps_test w z s1 s2 one refl (λ f g x. (ap (λ y. alu_imm Addi y n) x.0, (x.0, knows_temps known e one f g refl x.1))))
      (λ h. both w z s2 s3 z (access_low 7 a) c3 true t
      (access_lowered w known e 7 t7 a s2 fine has (λ f g x. x.1.1) s3 (λ f g p q x. (refl, (x.0, (x.1.0, knows_three known e f g 7 p q _ t7 x.1.1)))))
      (λ h. both w z s3 last z (access_end 28 a) disjoint_code true t
      (access_raised w known e 28 t28 a s3 fine has (λ f g x. x.1.1.1) last (λ f g p q m x. record {
        knows = knows_put known e (three f 28 p q m) g 28 _ t28.temporary (knows_three known e f g 28 p q m t28 x.1.1.1);
        five = x.1.1.0;
        six = x.1.0;
        seven = x.0;
        last = refl;
      }))
      (λ h. disjoint_test w known e v u lo hi))))

-- the words of a cell and an access go on where they have no byte in common, and to the open target where they have
pub meet_law : (w : World) (known : ℕ → Bool) (e : ℕ → ℕ) (regs : List ℕ) (c : Cell) (a : Access) → BaseOk known e regs c.base c.offset
    → IsForm a.form → AreRoundsKnown known a.form a.around → All (λ n. n < 2 ^ 31) (last_from e)
    → address regs c < 2 ^ 31 → start_value a.form (words e) < 2 ^ 31
    → IsTest w (Known known e) (Known known e) (Known known e) (meet_code c a) (are_disjoint (cell_range regs c) (whole_range a (pos (start_value a.form (words e))) (last_from e)))
meet_law w known e regs c a ok fine has lasts low begins =
    let v = address_word e c.base c.offset in
    let n = cell_size c in
    let same = address_is known e regs c.base c.offset ok in
    let small : v < 2 ^ 31 = subst (λ m. m < 2 ^ 31) (sym same) low in
    same_test w (Known known e) (Known known e) (Known known e) (meet_code c a) _ _
    (disjoint_is v (alu_imm Addi v (pos n)) (least_word e a.form a.around) (end_word e a.form a.around (bytes_of a.width)) (cell_range regs c) (whole_range a (pos (start_value a.form (words e))) (last_from e))
    (signed_low v (omega (arith, small)) ∙ ap pos same) (more_bytes v n small (size_small c) ∙ ap (λ m. pos (m + n)) same)
    (least_signed e a fine lasts begins) (end_signed e a fine lasts begins))
    (meet_words w known e c a (base_known known e regs c.base c.offset ok) fine has)

-- where neither is stored there are no words
pub keep_off_law : (w : World) (known : ℕ → Bool) (e : ℕ → ℕ) (regs : List ℕ) (c : Cell) (a : Access) → BaseOk known e regs c.base c.offset
    → IsForm a.form → AreRoundsKnown known a.form a.around → All (λ n. n < 2 ^ 31) (last_from e)
    → address regs c < 2 ^ 31 → start_value a.form (words e) < 2 ^ 31
    → IsTest w (Known known e) (Known known e) (Known known e) (keep_off_code c a) (keeps_off regs c (place_of (words e) (last_from e) a))
unfolding keeps_off place_of
keep_off_law w known e regs c a ok fine has lasts low begins = by_store (c.stored || a.store)
  where
    by_store : (t : Bool) → IsTest w (Known known e) (Known known e) (Known known e) (if t then meet_code c a else [])
        (not t || are_disjoint (cell_range regs c) (whole_range a (pos (start_value a.form (words e))) (last_from e)))
    by_store true = meet_law w known e regs c a ok fine has lasts low begins
    by_store false = record { by = λ p f g x there on off. on refl f g x }

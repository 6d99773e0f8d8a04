-- The words that trips append.
use Rattle.std.proofs.Common.{◌≡◌, ℕ, ◌+◌, ◌*◌, ◌/◌, ◌%◌, ◌^◌, ◌<◌, ap, ◌∙◌, ℤ, pos, Bool, List, [], ◌∷◌}
use Rattle.std.specs.Int.{w64, cast_signed}
use Rattle.std.proofs.lemmas.Int.{of_z-to_z}
use Rattle.rv64_decode.specs.Fields.{signed}
use Rattle.rv64_decode.specs.declared.instr.BranchOp.{BranchOp}
use Rattle.rv64_decode.specs.declared.instr.ImmOp.TheVariants.{Addi, Addiw}
use Rattle.rv64_decode.specs.declared.instr.UpperOp.TheVariants.{Lui}
use Rattle.rv64_decode.specs.declared.instr.Instr.TheVariants.{AluImm, Upper, Branch}
use Rattle.rv64_decode.specs.declared.xinstr.XInstr.{XInstr}
use Rattle.rv64_decode.specs.declared.xinstr.XInstr.TheVariants.{Base}
use Rattle.linear_forms.specs.Forms.{LinearForm}
use Rattle.stub_laws.specs.Code.{Appended}
use Rattle.stub_laws.proofs.Appends.{joined, as_list}
use Rattle.check_numbers.specs.Parts.{bits}
use Rattle.check_numbers.specs.TripWords.{branch_of, swapped, side}
use Rattle.check_code.specs.Macros.{number_code, form_code, need_code}
use Rattle.check_code.specs.TurnCode.{count_code, order_code}

-- a number's words, by its bits
abbrev number_by : ℕ → ℕ → List XInstr
number_by r b =
    Base (Upper Lui r (signed 32 ((b + 2 ^ 11) / 2 ^ 12 * 2 ^ 12 % 2 ^ 32))) ∷ Base (AluImm Addiw r r (signed 12 (b % 2 ^ 12))) ∷ []

same_bits : (n : ℕ) → n < 2 ^ 64 → bits (cast_signed w64 n) ≡ n
same_bits n h = of_z-to_z w64 n h

-- a word without a sign
pub size_number : (a b : List ℕ) (r n : ℕ) (z : ℤ) → z ≡ cast_signed w64 n → n < 2 ^ 64 → Appended a b (number_code r z)
    → Appended a b (number_code r (pos n))
size_number a b r n z e h p =
    let same : bits z ≡ n = ap bits e ∙ same_bits n h in
    as_list a b (number_code r z) (number_code r (pos n)) p (ap (number_by r) same)

pub order_words : (a b c d x y z u : List ℕ) (signed strict up : Bool) (start bound : LinearForm) (size : ℕ) (op : BranchOp) (p q p' q' : ℕ)
    → op ≡ branch_of signed strict → p ≡ side (swapped strict up) 5 6 → q ≡ side (swapped strict up) 6 5
    → p' ≡ side (swapped strict up) 28 6 → q' ≡ side (swapped strict up) 6 28
    → Appended a b (form_code 5 start) → Appended b c (form_code 6 bound) → Appended c d (Base (AluImm Addi 7 0 (pos 0)) ∷ [])
    → Appended d x (Base (Branch op p q (pos 44)) ∷ [])
    → Appended x y (count_code strict up size) → Appended y z (need_code op p' q') → Appended z u (Base (AluImm Addi 5 7 (pos 0)) ∷ [])
    → Appended a u (order_code signed strict up start bound size)
order_words a b c d x y z u signed strict up start bound size op p q p' q' e1 e2 e3 e4 e5 f1 f2 f3 f4 f5 f6 f7 =
    let is : Base (Branch op p q (pos 44)) ∷ [] ≡ Base
    (Branch (branch_of signed strict) (side (swapped strict up) 5 6) (side (swapped strict up) 6 5) (pos 44)) ∷ [] = cc in
    let leaves : need_code op p' q' ≡ need_code (branch_of signed strict) (side (swapped strict up) 28 6)
    (side (swapped strict up) 6 28) = cc in
    joined a b u _ _ f1
    (joined b c u _ _ f2
    (joined c d u _ _ f3
    (joined d x u _ _ (as_list d x _ _ f4 is) (joined x y u _ _ f5 (joined y z u _ _ (as_list y z _ _ f6 leaves) f7)))))

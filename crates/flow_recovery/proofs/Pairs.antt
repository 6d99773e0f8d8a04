-- The first word of a pair leads on to the second.
use Rattle.std.proofs.Common.{◌≡◌, ℕ, ◌^◌, ◌<◌, true, IsTrue, is_some, List, [], ◌∷◌, Option, Some, None, Contains, refl, ap, sym, subst, ◌∙◌, arith, ℤ}
use Rattle.elf_image.specs.declared.image.Elf.{Elf}
use Rattle.rv64_decode.specs.Row.{next_pc}
use Rattle.rv64_decode.specs.declared.instr.Instr.{Instr}
use Rattle.rv64_decode.specs.declared.instr.Instr.TheVariants.{Upper}
use Rattle.rv64_decode.specs.declared.instr.UpperOp.TheVariants.{Auipc}
use Rattle.loop_data.specs.Code.{word_at, IsCode}
use Rattle.loop_data.specs.Targets.{before, asks_exit, instr_from, instr_at, targets_of, targets_from, targets_at, pair_by, pair_of, pair_at, successors}
use Rattle.flow_recovery.specs.Search.{HasCodeOf}
use Rattle.flow_recovery.proofs.Following.{before_next}

-- an auipc
record IsFirst (i : Option Instr) : Type 0 where
  pub rd : ℕ
  pub imm : ℤ
  pub is : i ≡ Some (Upper Auipc rd imm)

first_by : (i j : Instr) (at target : ℕ) → pair_by i j at ≡ Some target → IsFirst (Some i)
first_by (Upper Auipc rd imm) j at target e = record { rd = rd; imm = imm; is = refl }
first_by _ j at target e = absurd (cc)

first_of_pair : (a b : Option Instr) (at target : ℕ) → pair_of a b at ≡ Some target → IsFirst a
first_of_pair None b at target e = absurd (cc)
first_of_pair (Some i) None at target e = absurd (cc)
first_of_pair (Some i) (Some j) at target e = first_by i j at target e

second_of_pair : (a b : Option Instr) (at target : ℕ) → pair_of a b at ≡ Some target → is_some b ≡ true
second_of_pair None b at target e = absurd (cc)
second_of_pair (Some i) None at target e = absurd (cc)
second_of_pair (Some i) (Some j) at target e = refl

leads_on : (elf : Elf) (at : ℕ) (pair : Option ℕ) → IsFirst (instr_at elf at) → successors (targets_at elf pair at) ≡ next_pc at ∷ []
unfolding instr_at targets_at
leads_on elf at pair f = go (word_at elf at) f.is
  where
    go : (o : Option ℕ) → instr_from o ≡ Some (Upper Auipc f.rd f.imm) → successors (targets_from o at (asks_exit (instr_at elf (before at))) pair) ≡ next_pc at ∷ []
    go None e = absurd (cc)
    go (Some w) e = ap (λ i. successors (targets_of i w at (asks_exit (instr_at elf (before at))) pair)) e

is_code : (elf : Elf) (a : ℕ) → is_some (instr_at elf a) ≡ true → IsCode elf a
unfolding instr_at
is_code elf a = go (word_at elf a)
  where
    go : (o : Option ℕ) → is_some (instr_from o) ≡ true → IsTrue (is_some o)
    go None e = absurd (cc)
    go (Some w) e = refl

-- the second word of a pair is found once the first was followed
pub second_found : (elf : Elf) (found : List ℕ) (at second : ℕ) (pair behind : Option ℕ) → HasCodeOf elf found (successors (targets_at elf pair at)) → at < 2 ^ 64 → second ≡ next_pc at
    → behind ≡ pair_at elf second → is_some behind ≡ true → Contains found second
unfolding pair_at
second_found elf found at second pair None has fits s p some = absurd (cc)
second_found elf found at second pair (Some target) has fits s p some =
    let first = subst (λ x. IsFirst (instr_at elf x)) (ap before s ∙ before_next at fits) (first_of_pair (instr_at elf (before second)) (instr_at elf second) second target (sym p)) in
    has.has second (subst (λ (xs : List ℕ). Contains xs second) (sym (leads_on elf at pair first)) (0, omega arith, sym s))
    (is_code elf second (second_of_pair (instr_at elf (before second)) (instr_at elf second) second target (sym p)))

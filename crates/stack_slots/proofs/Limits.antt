-- The first limit that is passed, by the first uses that are looked at.
use Rattle.std.proofs.Common.{◌≡◌, ℕ, zero, suc, ◌<◌, ◌≤◌, ◌⊎◌, inl, inr, List, [], ◌∷◌, length, take, Option, Some, None, refl, ap, sym, ◌∙◌, arith}
use Rattle.std.specs.Prelude.{slice_get, find}
use Rattle.std.specs.List.{filter}
use Rattle.std.specs.Option.{option_or}
use Rattle.std.proofs.lemmas.Bool.{cases_lt}
use Rattle.std.proofs.lemmas.List.{length-take-le}
use Rattle.loop_data.specs.declared.verdict.Verdict.{Verdict}
use Rattle.stack_slots.specs.declared.words.BodyWord.{BodyWord}
use Rattle.stack_slots.specs.CellRules.{is_far_auipc, is_other_access, may_owe, first_uses, limit_at, limit_of}
use Rattle.stack_slots.proofs.Members.{whole}

pub first_none : (o p : Option Verdict) → option_or o p ≡ None → o ≡ None
first_none None p e = refl
first_none (Some v) p e = absurd (cc)

pub later_none : (o p : Option Verdict) → option_or o p ≡ None → p ≡ None
later_none None p e = e
later_none (Some v) p e = absurd (cc)

-- what stands below the n of which a list is cut
taken_at : {X : Type 0} (n k : ℕ) (xs : List X) → k < n → slice_get (take n xs) k ≡ slice_get xs k
taken_at zero k xs l = absurd (omega arith)
taken_at (suc n) k [] l = refl
taken_at (suc n) zero (x ∷ xs) l = refl
taken_at (suc n) (suc k) (x ∷ xs) l = taken_at n k xs (omega arith)

pub limits_are : (words firsts others owing : List BodyWord) (far cells accesses duties one two three : Option Verdict) → firsts ≡ take 17 (first_uses words)
    → others ≡ filter is_other_access words → owing ≡ filter may_owe words → far ≡ limit_at (find is_far_auipc words)
    → cells ≡ limit_at (slice_get firsts 16) → accesses ≡ limit_at (slice_get others 32) → duties ≡ limit_at (slice_get owing 32)
    → one ≡ option_or accesses duties → two ≡ option_or cells one → three ≡ option_or far two → three ≡ limit_of words
limits_are words firsts others owing far cells accesses duties one two three f o w e g a d p q r =
    let c = g ∙ ap (λ xs. limit_at (slice_get xs 16)) f ∙ ap limit_at (taken_at 17 16 (first_uses words) (omega arith)) in
    let b = a ∙ ap (λ xs. limit_at (slice_get xs 32)) o in
    let s = d ∙ ap (λ xs. limit_at (slice_get xs 32)) w in
    let x = p ∙ ap (λ v. option_or v duties) b ∙ ap (option_or (limit_at (slice_get (filter is_other_access words) 32))) s in
    let y = q ∙ ap (λ v. option_or v one) c ∙ ap (option_or (limit_at (slice_get (first_uses words) 16))) x in
    r ∙ ap (λ v. option_or v two) e ∙ ap (option_or (limit_at (find is_far_auipc words))) y

-- where no limit is passed, all first uses were looked at
pub all_firsts : (words firsts : List BodyWord) (far cells one two three : Option Verdict) → firsts ≡ take 17 (first_uses words) → (cells ≡ None → length firsts ≤ 16)
    → two ≡ option_or cells one → three ≡ option_or far two → three ≡ None → firsts ≡ first_uses words
all_firsts words firsts far cells one two three f few q r none =
    let n = first_none cells one (sym q ∙ later_none far two (sym r ∙ none)) in
    f ∙ by (few n) (cases_lt (length (first_uses words)) 17)
  where
    by : length firsts ≤ 16 → (length (first_uses words) < 17) ⊎ (17 ≤ length (first_uses words)) → take 17 (first_uses words) ≡ first_uses words
    by l (inl h) = whole (first_uses words) 17 (omega arith)
    by l (inr h) = let a = length-take-le 17 (first_uses words) h in let b = ap length f in absurd (omega arith)

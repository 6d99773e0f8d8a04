-- Headers that rise, one after the other.
use Rattle.std.proofs.Common.{◌≡◌, ℕ, ◌<◌, ◌≤◌, ◌+◌, ◌-◌, ◌⊎◌, inl, inr, List, length, get_or, refl, ap, ◌∙◌, arith}
use Rattle.std.specs.List.Sorted.{IsStrictlyIncreasing}
use Rattle.std.proofs.lemmas.Bool.{cases_lt}
use Rattle.std.proofs.lemmas.List.{length-map}
use Rattle.std.proofs.lemmas.Option.{slice_get_read}
use Rattle.loop_choice.specs.declared.judged.Judged.{Judged}
use Rattle.loop_choice.specs.Choice.{headers_of}
use Rattle.loop_choice.proofs.Flags.{header_at}

abbrev pub RiseTo : List Judged → ℕ → Type 0
RiseTo all i = (k : ℕ) → k + 1 < i → get_or (headers_of all) k 0 < get_or (headers_of all) (k + 1) 0

pub one_rises : (all : List Judged) → RiseTo all 1
one_rises all k l = absurd (omega arith)

pub next_rises : (all : List Judged) (i : ℕ) (a b : Judged) → 1 ≤ i → i < length all → a ≡ get_or all (i - 1) a → b ≡ get_or all i b
    → a.header < b.header → RiseTo all i → RiseTo all (i + 1)
next_rises all i a b from l p q less to k m = go (cases_lt (k + 1) i)
  where
    go : (k + 1 < i) ⊎ (i ≤ k + 1) → get_or (headers_of all) k 0 < get_or (headers_of all) (k + 1) 0
    go (inl lt) = to k lt
    go (inr ge) =
        let n : k + 1 ≡ i = omega arith in
        let e : k ≡ i - 1 = omega arith in
        let x = header_at all (i - 1) a (slice_get_read all (length all) (i - 1) a refl (omega arith) p) in
        let y = header_at all i b (slice_get_read all (length all) i b refl l q) in
        let low = ap (λ j. get_or (headers_of all) j 0) e ∙ x in
        let high = ap (λ j. get_or (headers_of all) j 0) n ∙ y in
        omega arith

pub all_rise : (all : List Judged) (i : ℕ) → length all ≤ i → RiseTo all i → IsStrictlyIncreasing (headers_of all)
all_rise all i l to k m = let n = length-map all (λ (j : Judged). j.header) in to k (omega arith)

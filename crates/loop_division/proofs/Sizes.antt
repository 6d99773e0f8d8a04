-- An executable has fewer reached words than there are addresses of segments.
use Rattle.std.proofs.Common.{◌≡◌, ◌+◌, ◌^◌, ◌<◌, ◌≤◌, ◌&&◌, ◌⊎◌, inl, inr, ℕ, zero, suc, nat_le, nat_lt, List, [], ◌∷◌}
use Rattle.std.proofs.Common.{length, slice_index, Contains, true, refl, arith}
use Rattle.std.proofs.lemmas.Bool.{and_parts, or_cases, ltb-true}
use Rattle.std.proofs.lemmas.List.Elements.{Contains-get_or}
use Rattle.std.specs.List.Sorted.{IsStrictlyIncreasing}
use Rattle.elf_image.specs.declared.image.Segment.{Segment}
use Rattle.elf_image.specs.declared.image.Elf.{Elf}
use Rattle.elf_image.specs.Layout.{LieFrom, IsLoadable, in_code, is_executable, rounded_low, rounded_end}
use Rattle.loop_data.specs.declared.graph.Graph.{Graph}
use Rattle.loop_data.specs.Graphs.{IsGraph}
use Rattle.loop_data.specs.Paths.{addresses_of}
use Rattle.loop_data.specs.Reaching.{Reached}

pub in_code_below : (segments : List Segment) (from addr : ℕ) → LieFrom from segments → in_code segments addr ≡ true
    → addr < 0x5000_0008
in_code_below [] from addr lie h = absurd (cc)
in_code_below (s ∷ rest) from addr lie h =
    by (or_cases (is_executable s && (nat_le (rounded_low s) addr && nat_lt addr (rounded_end s))) (in_code rest addr)
    h) (in_code_below rest (rounded_end s) addr lie.5)
  where
    by : ((is_executable s && (nat_le (rounded_low s) addr && nat_lt addr (rounded_end s))) ≡ true)
        ⊎ (in_code rest addr ≡ true) → (in_code rest addr ≡ true → addr < 0x5000_0008) → addr < 0x5000_0008
    by (inl here) later =
        let within : addr < rounded_end s = ltb-true _ _ ((and_parts _ _ ((and_parts _ _ here).1)).1) in let end =
        lie.3 in omega arith
    by (inr there) later = later there

index_below : (xs : List ℕ) → IsStrictlyIncreasing xs → (k : ℕ) → k < length xs → k ≤ slice_index xs k
index_below xs rises zero within = omega arith
index_below xs rises (suc k) within =
    let e : suc k ≡ k + 1 = omega arith in
    let step : slice_index xs k < slice_index xs (k + 1) = rises k (omega arith) in
    let before = index_below xs rises k (omega arith) in
    rw e (omega arith)

pub last_below : (xs : List ℕ) (n bound : ℕ) → IsStrictlyIncreasing xs → length xs ≡ n
    → ((a : ℕ) → Contains xs a → a < bound) → n ≤ bound
last_below xs zero bound rises e all = omega arith
last_below xs (suc n) bound rises e all =
    let low = index_below xs rises n (omega arith) in
    let last : slice_index xs n < bound = all (slice_index xs n) (Contains-get_or xs n 0 (omega arith)) in
    omega arith

pub few_words : ((elf : Elf) (a : ℕ) → Reached elf a → in_code elf.segments a ≡ true) → (elf : Elf) (graph : Graph)
    → IsLoadable elf → IsGraph elf graph → length (addresses_of graph.words) < 2 ^ 32
few_words code elf graph loadable is =
    let most = last_below (addresses_of graph.words) _ 0x5000_0008 is.ordered refl
    (λ a h. in_code_below elf.segments 0 a loadable.apart (code elf a ((is.reached a).0 h))) in
    omega arith

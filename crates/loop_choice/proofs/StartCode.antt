-- The words of code of an executable stand in the memory that it starts with.
use Rattle.std.proofs.Common.{◌≡◌, ℕ, suc, ◌+◌, ◌-◌, ◌*◌, ◌%◌, ◌^◌, ◌<◌, ◌≤◌, ◌⊎◌, inl, inr, ◌==◌, ◌&&◌, nat_le, nat_lt, List, [], ◌∷◌, ◌++◌, length, get_or, replicate, Bool, true, false, if◌then◌else◌, Some, None, Ok, refl, ap, sym, ◌∙◌, arith}
use Rattle.std.proofs.lemmas.Bool.{cases_lt, and_parts}
use Rattle.std.proofs.lemmas.Bool.Decides.{nat_tests}
use Rattle.std.proofs.lemmas.List.{get_or_append_left, get_or-append_right, get_or-replicate, get_or_past, length-append, length-replicate}
use Rattle.elf_image.specs.declared.image.Elf.{Elf}
use Rattle.elf_image.specs.declared.image.Segment.{Segment}
use Rattle.elf_image.specs.Layout.{IsLoadable, LieFrom, is_code_of, is_executable, rounded_low, rounded_end}
use Rattle.rv64_decode.specs.Area.{Area, holds, area_at, byte_at, number_at, why, why_in, fetch_of, executable_of, or_refusal}
use Rattle.rv64_decode.specs.declared.memory.Width.TheVariants.{Four}
use Rattle.rv64_decode.specs.declared.memory.MemFault.TheVariants.{Misaligned}
use Rattle.guest_memory.specs.Areas.{zeros, segment_area, segment_areas, areas_of}
use Rattle.guest_memory.proofs.Loaded.{length-zeros}
use Rattle.loop_data.specs.Code.{byte_in, word_in, word_of, word_at}
use Rattle.loop_data.proofs.Tests.{eq_of, is_eq}

zero_at : (n i : ℕ) → get_or (zeros n) i 0 ≡ 0
unfolding zeros
zero_at n i = by (cases_lt i n)
  where
    by : (i < n) ⊎ (n ≤ i) → get_or {A = ℕ} (replicate n 0) i 0 ≡ 0
    by (inl l) = get_or-replicate {A = ℕ} n i 0 0 l
    by (inr l) = get_or_past {X = ℕ} (replicate n 0) i 0 (let e = length-replicate {A = ℕ} n 0 in omega arith)

-- a byte of a segment's area
area_byte : (s : Segment) (x : ℕ) → rounded_low s ≤ x → get_or (segment_area s).bytes (x - rounded_low s) 0 ≡ byte_in s x
area_byte s x low = by (cases_lt x s.vaddr)
  where
    front : ℕ
    front = s.vaddr - rounded_low s

    back : List ℕ
    back = zeros (rounded_end s - (s.vaddr + length s.bytes))

    by : (x < s.vaddr) ⊎ (s.vaddr ≤ x) → get_or (zeros front ++ (s.bytes ++ back)) (x - rounded_low s) 0 ≡ (if nat_lt x s.vaddr then 0 else get_or s.bytes (x - s.vaddr) 0)
    by (inl l) =
        let t : nat_lt x s.vaddr ≡ true = grind (arith, nat_tests) in
        let n = length-zeros front in
        get_or_append_left (zeros front) (s.bytes ++ back) 0 (x - rounded_low s) (omega arith) ∙ zero_at front (x - rounded_low s) ∙ sym (ap (λ b. if b then 0 else get_or s.bytes (x - s.vaddr) 0) t)
    by (inr l) =
        let t : nat_lt x s.vaddr ≡ false = grind (arith, nat_tests) in
        let e : (x - rounded_low s) - front ≡ x - s.vaddr = omega arith in
        get_or-append_right (zeros front) (s.bytes ++ back) front (x - rounded_low s) 0 (length-zeros front) (omega arith) ∙ ap (λ i. get_or (s.bytes ++ back) i 0) e
        ∙ go (cases_lt (x - s.vaddr) (length s.bytes)) ∙ sym (ap (λ b. if b then 0 else get_or s.bytes (x - s.vaddr) 0) t)
      where
        go : (x - s.vaddr < length s.bytes) ⊎ (length s.bytes ≤ x - s.vaddr) → get_or (s.bytes ++ back) (x - s.vaddr) 0 ≡ get_or s.bytes (x - s.vaddr) 0
        go (inl k) = get_or_append_left s.bytes back 0 (x - s.vaddr) k
        go (inr k) =
            get_or-append_right s.bytes back (length s.bytes) (x - s.vaddr) 0 refl k ∙ zero_at _ _ ∙ sym (get_or_past s.bytes (x - s.vaddr) 0 k)

area_length : (s : Segment) → length s.bytes ≤ s.memsz → (segment_area s).low + length (segment_area s).bytes ≡ rounded_end s
area_length s short =
    let front = length-zeros (s.vaddr - rounded_low s) in
    let back = length-zeros (rounded_end s - (s.vaddr + length s.bytes)) in
    let inner = length-append s.bytes (zeros (rounded_end s - (s.vaddr + length s.bytes))) in
    let outer = length-append (zeros (s.vaddr - rounded_low s)) (s.bytes ++ zeros (rounded_end s - (s.vaddr + length s.bytes))) in
    omega arith

holds_by : (a : Area) (end x : ℕ) → a.low + length a.bytes ≡ end → a.low ≤ x → x < end → holds a x ≡ true
holds_by a end x e l u = grind (arith, nat_tests)

holds_not : (a : Area) (end x : ℕ) → a.low + length a.bytes ≡ end → (x < a.low) ⊎ (end ≤ x) → holds a x ≡ false
holds_not a end x e (inl l) = grind (arith, nat_tests)
holds_not a end x e (inr l) = grind (arith, nat_tests)

-- a word lies in no segment below the first
word_from : (from : ℕ) (segments : List Segment) (x n : ℕ) → LieFrom from segments → word_of segments x ≡ Some n → from ≤ x
word_from from [] x n lie e = absurd (cc)
word_from from (s ∷ rest) x n lie e = go (is_code_of s x) refl e (word_from (rounded_end s) rest x n lie.5)
  where
    go : (b : Bool) → is_code_of s x ≡ b → (if b then Some (word_in s x) else word_of rest x) ≡ Some n → (word_of rest x ≡ Some n → rounded_end s ≤ x) → from ≤ x
    go true k e later =
        let a = and_parts (is_executable s) (nat_le (rounded_low s) x && nat_lt x (rounded_end s)) k in
        let l : rounded_low s ≤ x = grind (arith, nat_tests, a) in
        let f = lie.0 in omega arith
    go false k e later = let l = later e in let f = lie.0 in let m = lie.1 in omega arith

-- a memory that begins with another area answers as the rest does, where the word lies behind that
past_area : (a : Area) (rest : List Area) (end x : ℕ) → a.low + length a.bytes ≡ end → (x + 3 < a.low) ⊎ (end ≤ x) → fetch_of (a ∷ rest) x ≡ fetch_of rest x
past_area a rest end x e far =
    let h0 : holds a x ≡ false = by 0 x (omega arith) (omega arith) in
    let h1 : holds a (suc x) ≡ false = by 1 (suc x) (omega arith) (omega arith) in
    let h2 : holds a (suc (suc x)) ≡ false = by 2 (suc (suc x)) (omega arith) (omega arith) in
    let h3 : holds a (suc (suc (suc x))) ≡ false = by 3 (suc (suc (suc x))) (omega arith) (omega arith) in
    rw (h0, h1, h2, h3) refl
  where
    by : (k y : ℕ) → y ≡ x + k → k ≤ 3 → holds a y ≡ false
    by k y f l = go far
      where
        go : (x + 3 < a.low) ⊎ (end ≤ x) → holds a y ≡ false
        go (inl o) = holds_not a end y e (inl (omega arith))
        go (inr o) = holds_not a end y e (inr (omega arith))

-- a word in the first area, which may be executed
in_area : (s : Segment) (rest : List Area) (x : ℕ) → length s.bytes ≤ s.memsz → is_executable s ≡ true → x % 4 ≡ 0 → rounded_low s ≤ x → x < rounded_end s → fetch_of (segment_area s ∷ rest) x ≡ Ok (word_in s x)
unfolding word_in
in_area s rest x short runs at low high =
    let e = area_length s short in
    let h0 : holds (segment_area s) x ≡ true = holds_by (segment_area s) (rounded_end s) x e low high in
    let h1 : holds (segment_area s) (suc x) ≡ true = holds_by (segment_area s) (rounded_end s) (suc x) e (omega arith) (omega arith) in
    let h2 : holds (segment_area s) (suc (suc x)) ≡ true = holds_by (segment_area s) (rounded_end s) (suc (suc x)) e (omega arith) (omega arith) in
    let h3 : holds (segment_area s) (suc (suc (suc x))) ≡ true = holds_by (segment_area s) (rounded_end s) (suc (suc (suc x))) e (omega arith) (omega arith) in
    let m : list_ = segment_area s ∷ rest in
    let b0 : byte_at m x ≡ byte_in s x = first x h0 low in
    let b1 : byte_at m (suc x) ≡ byte_in s (x + 1) = first (suc x) h1 (omega arith) ∙ ap (byte_in s) (omega arith) in
    let b2 : byte_at m (suc (suc x)) ≡ byte_in s (x + 2) = first (suc (suc x)) h2 (omega arith) ∙ ap (byte_in s) (omega arith) in
    let b3 : byte_at m (suc (suc (suc x))) ≡ byte_in s (x + 3) = first (suc (suc (suc x))) h3 (omega arith) ∙ ap (byte_in s) (omega arith) in
    let none : why executable_of m x Four ≡ None =
    ap (λ b. if b then why_in executable_of (area_at m x) else Some Misaligned) (is_eq (x % 4) 0 at) ∙ ap (λ b. why_in executable_of (if b then Some (segment_area s) else area_at rest x)) h0 ∙ ap (λ b. if b then None else Some Rattle.rv64_decode.specs.declared.memory.MemFault.TheVariants.Denied) runs in
    ap (λ o. or_refusal o (number_at 4 m x)) none ∙ ap Ok (numbers (byte_at m x) (byte_at m (suc x)) (byte_at m (suc (suc x))) (byte_at m (suc (suc (suc x)))) (byte_in s x) (byte_in s (x + 1)) (byte_in s (x + 2)) (byte_in s (x + 3)) b0 b1 b2 b3)
  where
    list_ : Type 0
    list_ = List Area

    first : (y : ℕ) → holds (segment_area s) y ≡ true → rounded_low s ≤ y → byte_at (segment_area s ∷ rest) y ≡ byte_in s y
    first y h l = ap (λ b. if b then get_or (segment_area s).bytes (y - (segment_area s).low) 0 else byte_at rest y) h ∙ area_byte s y l

    numbers : (p q r t a b c d : ℕ) → p ≡ a → q ≡ b → r ≡ c → t ≡ d → p + 256 * (q + 256 * (r + 256 * (t + 256 * 0))) ≡ a + 2 ^ 8 * b + 2 ^ 16 * c + 2 ^ 24 * d
    numbers p q r t a b c d e f g h = omega arith

code_in : (from : ℕ) (segments : List Segment) (rest : List Area) (x n : ℕ) → LieFrom from segments → x % 4 ≡ 0 → word_of segments x ≡ Some n → fetch_of (segment_areas segments ++ rest) x ≡ Ok n
code_in from [] rest x n lie at e = absurd (cc)
code_in from (s ∷ more) rest x n lie at e = go (is_code_of s x) refl e (code_in (rounded_end s) more rest x n lie.5 at)
  where
    go : (b : Bool) → is_code_of s x ≡ b → (if b then Some (word_in s x) else word_of more x) ≡ Some n → (word_of more x ≡ Some n → fetch_of (segment_areas more ++ rest) x ≡ Ok n) → fetch_of (segment_area s ∷ (segment_areas more ++ rest)) x ≡ Ok n
    go true k e later =
        let a = and_parts (is_executable s) (nat_le (rounded_low s) x && nat_lt x (rounded_end s)) k in
        let l : rounded_low s ≤ x = grind (arith, nat_tests, a) in
        let u : x < rounded_end s = grind (arith, nat_tests, a) in
        let w : word_in s x ≡ n = cc in
        in_area s (segment_areas more ++ rest) x lie.2 a.0 at l u ∙ ap Ok w
    go false k e later =
        past_area (segment_area s) (segment_areas more ++ rest) (rounded_end s) x (area_length s lie.2) (inr (word_from (rounded_end s) more x n lie.5 e)) ∙ later e

-- a word of code is fetched
pub code_at_start : (elf : Elf) (x n : ℕ) → IsLoadable elf → word_at elf x ≡ Some n → fetch_of (areas_of elf) x ≡ Ok n
unfolding word_at
code_at_start elf x n load e = go (x % 4 == 0) refl e
  where
    go : (b : Bool) → (x % 4 == 0) ≡ b → (if b then word_of elf.segments x else None) ≡ Some n → fetch_of (areas_of elf) x ≡ Ok n
    go true k e = code_in 0 elf.segments _ x n load.apart (eq_of _ _ k) e
    go false k e = absurd (cc)

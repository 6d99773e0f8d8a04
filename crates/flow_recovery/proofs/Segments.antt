-- The segments of an executable that was read, one by one.
use Rattle.std.proofs.Common.{◌≡◌, ℕ, zero, suc, ◌+◌, ◌%◌, ◌==◌, ◌^◌, ◌<◌, ◌≤◌, Bool, true, false, IsTrue, ◌&&◌, nat_le, nat_lt, if◌then◌else◌, List, [], ◌∷◌, length, get_or, Some, None, is_some, refl, sym, ◌∙◌, ◌||◌, arith}
use Rattle.std.proofs.lemmas.Bool.{false≢true, and_parts, ltb-true, eqb-true, eq-eqb}
use Rattle.elf_image.specs.declared.image.Elf.{Elf}
use Rattle.elf_image.specs.declared.image.Segment.{Segment}
use Rattle.elf_image.specs.Layout.{in_code, is_code_of, IsLoadable, LieFrom, is_executable, rounded_low, rounded_end, load_end}
use Rattle.loop_data.specs.Code.{word_in, word_of, word_at, IsCode}

-- a segment ends below the end of loads
pub record IsLow (s : Segment) : Type 0 where
  pub end : s.vaddr + s.memsz ≤ load_end

pub low_at : (from : ℕ) (segments : List Segment) (i : ℕ) (s : Segment) → LieFrom from segments → i < length segments → IsLow (get_or segments i s)
low_at from [] i s lie h = absurd (omega arith)
low_at from (a ∷ rest) zero s lie h = record { end = lie.3 }
low_at from (a ∷ rest) (suc i) s lie h = low_at (rounded_end a) rest i s lie.5 (omega arith)

-- an address in a segment of code is small
in_code_below : (s : Segment) (addr : ℕ) → s.vaddr + s.memsz ≤ load_end → is_code_of s addr ≡ true → addr < 2 ^ 64
in_code_below s addr low h =
    let both = and_parts (is_executable s) (nat_le (rounded_low s) addr && nat_lt addr (rounded_end s)) h in
    let places = and_parts (nat_le (rounded_low s) addr) (nat_lt addr (rounded_end s)) both.1 in
    let below = ltb-true addr (rounded_end s) places.1 in
    omega arith

word_below : (from : ℕ) (segments : List Segment) (addr : ℕ) → LieFrom from segments → IsTrue (is_some (word_of segments addr)) → addr < 2 ^ 64
word_below from [] addr lie h = absurd (false≢true h)
word_below from (s ∷ rest) addr lie h = by (is_code_of s addr) refl h (word_below (rounded_end s) rest addr lie.5)
  where
    by : (b : Bool) → is_code_of s addr ≡ b → IsTrue (is_some (if b then Some (word_in s addr) else word_of rest addr)) → (IsTrue (is_some (word_of rest addr)) → addr < 2 ^ 64) → addr < 2 ^ 64
    by true e k later = in_code_below s addr lie.3 e
    by false e k later = later k

-- so is an address of code
pub code_below : (elf : Elf) (addr : ℕ) → LieFrom 0 elf.segments → IsCode elf addr → addr < 2 ^ 64
unfolding word_at
code_below elf addr lie h = by (addr % 4 == 0) h
  where
    by : (b : Bool) → IsTrue (is_some (if b then word_of elf.segments addr else None)) → addr < 2 ^ 64
    by true k = word_below 0 elf.segments addr lie k
    by false k = absurd (false≢true k)

-- there is a word at an address exactly where it lies in an executable segment
is_some-word_of : (segments : List Segment) (addr : ℕ) → is_some (word_of segments addr) ≡ in_code segments addr
is_some-word_of [] addr = refl
is_some-word_of (s ∷ rest) addr = by (is_code_of s addr) (is_some-word_of rest addr)
  where
    by : (b : Bool) → is_some (word_of rest addr) ≡ in_code rest addr → is_some (if b then Some (word_in s addr) else word_of rest addr) ≡ (b || in_code rest addr)
    by true e = refl
    by false e = e

-- code lies at multiples of 4 in executable segments
is_code_parts : (elf : Elf) (addr : ℕ) → IsCode elf addr → (addr % 4 ≡ 0) × (in_code elf.segments addr ≡ true)
unfolding word_at
is_code_parts elf addr h = by (addr % 4 == 0) refl h
  where
    by : (b : Bool) → (addr % 4 == 0) ≡ b → IsTrue (is_some (if b then word_of elf.segments addr else None)) → (addr % 4 ≡ 0) × (in_code elf.segments addr ≡ true)
    by true e k = (eqb-true (addr % 4) 0 e, sym (is_some-word_of elf.segments addr) ∙ k)
    by false e k = absurd (false≢true k)

pub code_aligned : (elf : Elf) (addr : ℕ) → IsCode elf addr → addr % 4 ≡ 0
code_aligned elf addr h = (is_code_parts elf addr h).0

pub code_within : (elf : Elf) (addr : ℕ) → IsCode elf addr → in_code elf.segments addr ≡ true
code_within elf addr h = (is_code_parts elf addr h).1

pub entry_is_code : (elf : Elf) → IsLoadable elf → IsCode elf elf.entry
unfolding word_at
entry_is_code elf loadable = by (elf.entry % 4 == 0) (eq-eqb (elf.entry % 4) 0 loadable.aligned)
  where
    by : (b : Bool) → b ≡ true → IsTrue (is_some (if b then word_of elf.segments elf.entry else None))
    by true e = is_some-word_of elf.segments elf.entry ∙ loadable.entry
    by false e = absurd (false≢true e)

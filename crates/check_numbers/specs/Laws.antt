-- What holds of the numbers of added code.
use Rattle.std.specs.Prelude.{ℕ, ◌≡◌, ◌≢◌, ◌==◌, ◌<◌, ◌-◌, ◌^◌, nat_lt, int_lt, int_le, ◌&&◌, slice_index, if◌then◌else◌, Bool, true, List, Option, Some, None, ℤ, pos, negsuc, ◌+ℤ◌}
use Rattle.rv64_decode.specs.Row.{alu_imm, signed64}
use Rattle.rv64_decode.specs.declared.instr.ImmOp.TheVariants.{Addiw}
use Rattle.linear_forms.specs.Forms.{EntryTerm, Alike, weight, word_of, is_small}
use Rattle.std.specs.Int.RustNames.{unsigned_abs}
use Rattle.loop_data.specs.Trips.{approaches, reading, number, number as number_of}
use Rattle.loop_data.specs.declared.trips.Relation.{Relation}
use Rattle.loop_data.specs.declared.trips.Relation.TheVariants.{Differ}
use Rattle.loop_data.specs.declared.plans.Term.TheVariants.{Same}
use Rattle.dependence_tests.specs.declared.pairs.PairBox.{PairBox}
use Rattle.dependence_tests.specs.PairTests.{span, pair_test}
use Rattle.check_numbers.specs.PairWords.{difference, size_word, same_words}
use Rattle.check_numbers.specs.Pairs.{IsPairInReach}
use Rattle.check_numbers.specs.Parts.{bits, low_part, high_part}
use Rattle.check_numbers.specs.Sums.{value_of, IsShort, AreShort, IsLong}
use Rattle.check_numbers.specs.TripWords.{IsOrder, is_strict, is_up, trip_word, trip_holds, differ_word, differ_holds}

-- the two parts of a number, added by addiw, are the number
abbrev pub PartsLaw : Type 0
PartsLaw = (v : ℤ) → IsShort v → alu_imm Addiw (bits (high_part v)) (low_part v) ≡ bits v

-- a constant and terms, worked out as words, are the word of their sum
abbrev pub SumLaw : Type 0
SumLaw = (e : ℕ → ℕ) (c : ℤ) (ts : List EntryTerm) → IsShort c → AreShort ts
    → value_of e c ts ≡ word_of (c +ℤ weight (λ loc. pos (e loc)) ts)

-- the test of two accesses of the same shape, in words, is the test over integers
abbrev pub PairWordsLaw : Type 0
PairWordsLaw = (root lanes residue width a b : ℕ) (inner : List ℕ) (known : Option ℤ) (at : PairBox)
    → IsPairInReach root lanes residue width inner at a b
    → same_words (nat_lt 0 lanes) (nat_lt 0 residue) (difference a b) (size_word (difference a b))
    (slice_index at.last 0) root (span inner at.last) lanes residue (pos width)
    ≡ pair_test (Same root inner lanes residue width known) at

-- the word of a sum, as a signed number, is the sum of what its parts are modulo 2 ^ 64, where that has room
abbrev pub SignedLaw : Type 0
SignedLaw = (x y z : ℤ) → Alike z x → IsLong (z +ℤ y) → signed64 (word_of (x +ℤ y)) ≡ z +ℤ y

-- a trip of an order tells a number exactly where its words hold, and then that number
abbrev pub TripWordsLaw : Type 0
TripWordsLaw = (relation : Relation) (signed : Bool) (a b : ℕ) (step : ℤ) → IsOrder relation
    → approaches relation step ≡ true → a < 2 ^ 64 → b < 2 ^ 64
    → number relation signed (reading signed a) step (reading signed b)
    ≡ (if trip_holds signed (is_strict relation) (is_up relation) a b (unsigned_abs step)
    then Some (trip_word signed (is_strict relation) (is_up relation) a b (unsigned_abs step))
    else None)

-- a trip that goes on while a difference is not 0 tells a number exactly where its words hold, and then that number;
-- only the least signed word cannot be negated
abbrev pub DifferWordsLaw : Type 0
DifferWordsLaw = (v : ℕ) (step : ℤ) → IsShort step → step ≢ pos 0 → v < 2 ^ 64 → v ≢ 2 ^ 63
    → number Differ true (reading true v) step (pos 0) ≡ (if differ_holds v step then Some (differ_word v step) else None)

-- with the least signed word and a step within the limits, neither the trip nor its words tell a number up to 2 ^ 31
pub record LeastLaw : Type 0 where
  pub number :
      (step : ℤ) (n : ℕ) → is_small step ≡ true → step ≢ pos 0
      → number_of Differ true (reading true (2 ^ 63)) step (pos 0) ≡ Some n → 2 ^ 31 < n
  pub words :
      (step : ℤ) → is_small step ≡ true → step ≢ pos 0 → differ_holds (2 ^ 63) step ≡ true
      → 2 ^ 31 < differ_word (2 ^ 63) step

-- a word is its low 32 bits, sign-extended by addiw, exactly where it is a signed number of 32 bits
abbrev pub ShortLaw : Type 0
ShortLaw = (v : ℕ) → v < 2 ^ 64
    → (v == alu_imm Addiw v (pos 0))
    ≡ (int_le (negsuc (2 ^ 31 - 1)) (signed64 v) && int_lt (signed64 v) (pos (2 ^ 31)))

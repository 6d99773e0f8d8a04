-- What the check's pieces do wherever they stand in added code: a hart that comes to their first word goes on to the
-- place behind them, or to the target of their open jumps, with these values. It writes the touched registers alone, no
-- slot and no memory, and makes no access. Code has at most 2 ^ 32 words.
use Rattle.std.specs.Prelude.{ℕ, ◌≡◌, ◌≢◌, ◌==◌, ◌<◌, ◌≤◌, ◌^◌, Bool, true, false, ◌||◌, List, [], ◌∷◌, length, slice_index, ℤ, pos, ◌+ℤ◌, ◌*ℤ◌, Option, Some, None}
use Rattle.rv64_decode.specs.Form.{IsSigned}
use Rattle.rv64_decode.specs.Hart.{Hart}
use Rattle.rv64_decode.specs.Registers.{register}
use Rattle.rv64_decode.specs.Row.{taken, signed64}
use Rattle.rv64_decode.specs.declared.instr.BranchOp.{BranchOp}
use Rattle.linear_forms.specs.Forms.{LinearForm, IsForm, exact, word_of}
use Rattle.linear_forms.specs.Extremes.{lowest_shift, highest_shift}
use Rattle.loop_data.specs.Locations.{address}
use Rattle.loop_data.specs.declared.verdict.Cell.{Cell}
use Rattle.alias_checks.specs.declared.areas.Permission.{Permission}
use Rattle.alias_checks.specs.Areas.{Bounds, in_bounds}
use Rattle.stub_laws.specs.Harts.{IsHartAt, Gives, Comes}
use Rattle.stub_laws.specs.Locations.{held}
use Rattle.stub_laws.specs.Places.{StandsIn, behind}
use Rattle.check_numbers.specs.Sums.{IsShort}
use Rattle.check_code.specs.Macros.{is_work, number_code, bring, form_code, span_code, low_code, high_code, address_code, need_code, permitted, areas_code}

-- no register, one, and one beside x30 and x31
abbrev pub nothing : ℕ → Bool
nothing q = false

abbrev pub only : ℕ → ℕ → Bool
only r q = q == r

abbrev pub with_helpers : ℕ → ℕ → Bool
with_helpers r q = q == r || (q == 31 || q == 30)

-- what the locations hold, as integers
abbrev pub entries : Hart → ℕ → ℤ
entries h loc = pos (held h loc)

-- the last turn numbers, from the slots that have them
abbrev pub last_in : Hart → List ℕ → ℕ → ℕ
last_in h slots level = slice_index h.slots (slice_index slots level)

-- the value of a form at turn numbers 0
abbrev pub start : LinearForm → Hart → ℤ
start f h = exact f (entries h) (λ k. 0)

abbrev pub NumberLaw : Type 0
NumberLaw = (code : List ℕ) (to p r : ℕ) (v : ℤ) (h : Hart) → length code ≤ 2 ^ 32 → to ≤ 2 ^ 32 → r ≢ 0 → r < 32
    → IsShort v → StandsIn code to p (number_code r v) → IsHartAt p h
    → Gives code h (behind p (number_code r v)) (only r) r (word_of v)

abbrev pub LocationLaw : Type 0
LocationLaw = (code : List ℕ) (to p r loc : ℕ) (h : Hart) → length code ≤ 2 ^ 32 → to ≤ 2 ^ 32 → r ≢ 0 → r < 32
    → StandsIn code to p (bring r loc ∷ []) → IsHartAt p h
    → Gives code h (behind p (bring r loc ∷ [])) (only r) r (held h loc)

abbrev pub FormLaw : Type 0
FormLaw = (code : List ℕ) (to p r : ℕ) (f : LinearForm) (h : Hart) → length code ≤ 2 ^ 32 → to ≤ 2 ^ 32
    → is_work r ≡ true → IsForm f → StandsIn code to p (form_code r f) → IsHartAt p h
    → Gives code h (behind p (form_code r f)) (with_helpers r) r (word_of (start f h))

abbrev pub SpanLaw : Type 0
SpanLaw = (code : List ℕ) (to p r slot : ℕ) (by : ℤ) (h : Hart) → length code ≤ 2 ^ 32 → to ≤ 2 ^ 32
    → is_work r ≡ true → IsShort by → StandsIn code to p (span_code r by slot) → IsHartAt p h
    → Gives code h (behind p (span_code r by slot)) (with_helpers r) r
    (word_of (pos (register h.regs r) +ℤ by *ℤ pos (slice_index h.slots slot)))

abbrev pub LowLaw : Type 0
LowLaw = (code : List ℕ) (to p r : ℕ) (f : LinearForm) (slots : List ℕ) (h : Hart) → length code ≤ 2 ^ 32 → to ≤ 2 ^ 32
    → is_work r ≡ true → IsForm f → StandsIn code to p (low_code r f slots) → IsHartAt p h
    → Gives code h (behind p (low_code r f slots)) (with_helpers r) r
    (word_of (start f h +ℤ lowest_shift f (last_in h slots)))

abbrev pub HighLaw : Type 0
HighLaw = (code : List ℕ) (to p r : ℕ) (f : LinearForm) (slots : List ℕ) (size : ℕ) (h : Hart) → length code ≤ 2 ^ 32
    → to ≤ 2 ^ 32 → is_work r ≡ true → IsForm f → StandsIn code to p (high_code r f slots size)
    → IsHartAt p h
    → Gives code h (behind p (high_code r f slots size)) (with_helpers r) r
    (word_of (start f h +ℤ highest_shift f (last_in h slots) +ℤ pos size))

-- a cell's offset has room in an instruction, and a known address in two
abbrev pub HasOffset : Option ℕ → ℤ → Type 0
HasOffset None offset = IsShort offset
HasOffset (Some base) offset = (base < 32) × IsSigned 12 offset

-- the base of a cell, if it has one, holds what it had at the entry
abbrev pub HoldsBase : Option ℕ → List ℕ → Hart → Type 0
HoldsBase None regs h = Unit {0}
HoldsBase (Some base) regs h = held h base ≡ register regs base

abbrev pub AddressLaw : Type 0
AddressLaw = (code : List ℕ) (to p r : ℕ) (c : Cell) (regs : List ℕ) (h : Hart) → length code ≤ 2 ^ 32 → to ≤ 2 ^ 32
    → is_work r ≡ true → HasOffset c.base c.offset → HoldsBase c.base regs h → StandsIn code to p (address_code r c)
    → IsHartAt p h → Gives code h (behind p (address_code r c)) (only r) r (address regs c)

-- a test: to the place behind the words where it holds, and to the target where it fails
pub record Decides (code : List ℕ) (h : Hart) (end to : ℕ) (touched : ℕ → Bool) (holds : Bool) : Type 0 where
  pub on : holds ≡ true → Comes code h end touched
  pub off : holds ≡ false → Comes code h to touched

abbrev pub NeedLaw : Type 0
NeedLaw = (code : List ℕ) (to p rs1 rs2 : ℕ) (op : BranchOp) (h : Hart) → length code ≤ 2 ^ 32 → to ≤ 2 ^ 32
    → StandsIn code to p (need_code op rs1 rs2) → IsHartAt p h
    → Decides code h (behind p (need_code op rs1 rs2)) to nothing (taken op (register h.regs rs1) (register h.regs rs2))

-- each area ends below 2 ^ 31
abbrev pub AreLow : List Bounds → Type 0
AreLow [] = Unit {0}
AreLow (b ∷ bs) = (b.0 < 2 ^ 31) × (b.1 < 2 ^ 31) × AreLow bs

abbrev pub AreasLaw : Type 0
AreasLaw = (code : List ℕ) (to p : ℕ) (permission : Permission) (areas : List Bounds) (h : Hart) → length code ≤ 2 ^ 32
    → to ≤ 2 ^ 32 → length areas < 2 ^ 16 → AreLow areas → StandsIn code to p (areas_code (permitted permission areas))
    → IsHartAt p h
    → Decides code h (behind p (areas_code (permitted permission areas))) to (only 7)
    (in_bounds areas permission (signed64 (register h.regs 5), signed64 (register h.regs 6)))

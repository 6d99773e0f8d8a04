-- The accesses of a loop: its loads and stores that are no accesses of cells, with the forms of their addresses.
use Rattle.std.specs.Prelude.{ℕ, suc, ◌≡◌, ◌==◌, ◌≤◌, ◌<◌, ◌%◌, Bool, true, false, ◌&&◌, if◌then◌else◌, List, [], ◌∷◌, map, ℤ, Option, Some, None, slice_index}
use Rattle.std.specs.List.{Contains}
use Rattle.std.specs.List.Sorted.{IsStrictlyIncreasing}
use Rattle.std.specs.Int.RustNames.{unsigned_abs}
use Rattle.rv64_decode.specs.Area.{bytes_of}
use Rattle.rv64_decode.specs.Row.{load_width, store_width}
use Rattle.rv64_decode.specs.declared.instr.Instr.{Instr}
use Rattle.rv64_decode.specs.declared.instr.Instr.TheVariants.{Load, Store}
use Rattle.rv64_decode.specs.declared.memory.Width.{Width}
use Rattle.linear_forms.specs.Forms.{LinearForm, pure}
use Rattle.loop_data.specs.declared.accesses.Access.{Access}
use Rattle.loop_data.specs.declared.shape.Level.{Level}
use Rattle.loop_data.specs.LoopCode.{LoopCode}
use Rattle.loop_data.specs.FormRows.{form_read, form_sum, form_limited}
use Rattle.loop_data.specs.Results.{IsInnermost, IsAround}

-- what a load or a store accesses: so many bytes at an offset from a register, and whether it writes them
pub record Motion : Type 0 where
  pub base : ℕ
  pub offset : ℤ
  pub width : Width
  pub store : Bool

abbrev pub motion_of : Option Instr → Option Motion
motion_of (Some (Load op rd rs1 imm)) =
    Some (record { base = rs1; offset = imm; width = load_width op; store = false })
motion_of (Some (Store op rs1 rs2 imm)) =
    Some (record { base = rs1; offset = imm; width = store_width op; store = true })
motion_of i = None

abbrev pub unless_used : Option ℕ → Option Motion → Option Motion
unless_used None m = m
unless_used (Some k) m = None

-- what the word at u accesses, if it is no access of a cell
abbrev pub motion_at : LoopCode → ℕ → Option Motion
motion_at B u = unless_used (B.cells.uses u) (motion_of (B.instr u))

-- the form of the address at an offset from a register
abbrev pub address_form : (ℕ → Option LinearForm) → ℕ → ℤ → Option LinearForm
address_form F base offset = form_limited (form_sum (form_read F base) (Some (pure offset)))

abbrev pub is_multiple : ℕ → ℤ → Bool
is_multiple n z = unsigned_abs z % n == 0

-- each stride is a multiple of the width
abbrev pub is_regular : Width → LinearForm → Bool
is_regular width f =
    is_multiple (bytes_of width) f.first
    && (is_multiple (bytes_of width) f.second && is_multiple (bytes_of width) f.third)

abbrev pub if_regular : Width → Option LinearForm → Option LinearForm
if_regular width (Some f) = if is_regular width f then Some f else None
if_regular width None = None

-- the form of the address that is accessed, if it has one and each of its strides is a multiple of the width
abbrev pub accessed_form : (ℕ → Option LinearForm) → Motion → Option LinearForm
accessed_form F m = if_regular m.width (address_form F m.base m.offset)

-- the access of the word at its address, where the locations have these forms at each word
pub record IsAccessOf (levels : List Level) (B : LoopCode) (at : ℕ → ℕ → Option LinearForm) (a : Access)
    : Type 0 where
  pub motion : Motion
  pub moves : motion_at B a.at ≡ Some motion
  pub form : accessed_form (at a.at) motion ≡ Some a.form
  pub width : a.width ≡ motion.width
  pub store : a.store ≡ motion.store
  pub innermost : IsInnermost levels a.at a.level
  pub around : (k : ℕ) → k < 3 → IsAround levels a.at k (slice_index a.around k)

-- the accesses of the words of a body, in address order
pub record AreAccesses (levels : List Level) (body : List ℕ) (B : LoopCode) (at : ℕ → ℕ → Option LinearForm)
    (list : List Access) : Type 0 where
  pub ordered : IsStrictlyIncreasing (map (λ (a : Access). a.at) list)
  pub each : (a : Access) → Contains list a → Contains body a.at × IsAccessOf levels B at a
  pub every : (u : ℕ) (m : Motion) → Contains body u → motion_at B u ≡ Some m
      → Contains (map (λ (a : Access). a.at) list) u

-- a word of a body accesses an address without such a form
pub record IsIrregular (body : List ℕ) (B : LoopCode) (at : ℕ → ℕ → Option LinearForm) (u : ℕ) : Type 0 where
  pub inside : Contains body u
  pub motion : Motion
  pub moves : motion_at B u ≡ Some motion
  pub irregular : accessed_form (at u) motion ≡ None

-- the least word of which that is so
pub record IsLeastIrregular (body : List ℕ) (B : LoopCode) (at : ℕ → ℕ → Option LinearForm) (u : ℕ)
    : Type 0 where
  pub is : IsIrregular body B at u
  pub least : (v : ℕ) → IsIrregular body B at v → u ≤ v

abbrev pub counted_with : Option Motion → ℕ → ℕ
counted_with None n = n
counted_with (Some m) n = suc n

-- how many of the words are accesses
abbrev pub access_count : LoopCode → List ℕ → ℕ
access_count B [] = 0
access_count B (u ∷ us) = counted_with (motion_at B u) (access_count B us)

-- The cells of the words of a body, and why there are none. The words stand in address order.
use Rattle.std.specs.Prelude.{ℕ, ◌==◌, Bool, true, false, not, ◌&&◌, ◌||◌, nat_lt, int_lt, if◌then◌else◌, List, filter, find, slice_get, Option, Some, None, is_some, ℤ, pos, ◌+ℤ◌}
use Rattle.std.specs.List.{list_any}
use Rattle.std.specs.Option.{option_or}
use Rattle.std.specs.Ordering.{int_eq}
use Rattle.rv64_decode.specs.Area.{bytes_of}
use Rattle.rv64_decode.specs.declared.instr.Instr.{Instr}
use Rattle.rv64_decode.specs.declared.instr.Instr.TheVariants.{Alu, AluImm, Upper, Store}
use Rattle.rv64_decode.specs.declared.instr.AluOp.{AluOp}
use Rattle.rv64_decode.specs.declared.instr.AluOp.TheVariants.{Addw, Subw, Mulw}
use Rattle.rv64_decode.specs.declared.instr.ImmOp.{ImmOp}
use Rattle.rv64_decode.specs.declared.instr.ImmOp.TheVariants.{Addiw, Slliw}
use Rattle.rv64_decode.specs.declared.instr.StoreOp.{StoreOp}
use Rattle.rv64_decode.specs.declared.instr.StoreOp.TheVariants.{Sw}
use Rattle.rv64_decode.specs.declared.instr.UpperOp.TheVariants.{Auipc}
use Rattle.linear_forms.specs.Forms.{constant_fits}
use Rattle.loop_data.specs.Accesses.{motion_of}
use Rattle.loop_data.specs.Facts.{signed_of}
use Rattle.loop_data.specs.declared.verdict.Cell.{Cell}
use Rattle.loop_data.specs.declared.verdict.Verdict.{Verdict}
use Rattle.loop_data.specs.declared.verdict.Verdict.TheVariants.{Limit, MixedCell}
use Rattle.stack_slots.specs.declared.words.BodyWord.{BodyWord}
use Rattle.stack_slots.specs.declared.words.Touch.{Touch}

abbrev pub same_base : Option ℕ → Option ℕ → Bool
same_base (Some q) (Some r) = q == r
same_base None None = true
same_base _ _ = false

-- both addresses are numbers, or offsets from the same register
abbrev pub have_one_base : Touch → Touch → Bool
have_one_base s t = same_base s.address.base t.address.base

-- both access one cell: its base, offset and width are the same
abbrev pub are_of_one_cell : Touch → Touch → Bool
are_of_one_cell s t =
    (s.of_cell && t.of_cell)
    && (have_one_base s t
    && (int_eq s.address.offset t.address.offset && (bytes_of s.width == bytes_of t.width)))

-- the first place behind an access
abbrev pub end_of : Touch → ℤ
end_of t = t.address.offset +ℤ pos (bytes_of t.width)

-- they have bytes in common, where the base is one
abbrev pub meet : Touch → Touch → Bool
meet s t = int_lt s.address.offset (end_of t) && int_lt t.address.offset (end_of s)

-- they have bytes in common, one is of a cell, and they are not of one cell
abbrev pub are_mixed : Touch → Touch → Bool
are_mixed s t =
    (have_one_base s t && meet s t) && ((s.of_cell || t.of_cell) && not (are_of_one_cell s t))

-- there are two accesses, which pass a test
abbrev pub both : (Touch → Touch → Bool) → Option Touch → Option Touch → Bool
both test (Some s) (Some t) = test s t
both test _ _ = false

-- the access, if there is one, is of a cell, and writes
abbrev pub is_of_cell : Option Touch → Bool
is_of_cell (Some t) = t.of_cell
is_of_cell None = false

abbrev pub is_store : Option Touch → Bool
is_store (Some t) = t.store
is_store None = false

-- the word accesses a cell
abbrev pub uses_cell : BodyWord → Bool
uses_cell w = is_of_cell w.touch

-- both words access one cell
abbrev pub use_one_cell : BodyWord → BodyWord → Bool
use_one_cell v w = both are_of_one_cell v.touch w.touch

-- no word before it accesses the cell that this word accesses
abbrev pub is_first_use : List BodyWord → BodyWord → Bool
is_first_use words w =
    uses_cell w && not (list_any (λ (v : BodyWord). nat_lt v.at w.at && use_one_cell v w) words)

-- the first uses of the cells, in address order
abbrev pub first_uses : List BodyWord → List BodyWord
first_uses words = filter (is_first_use words) words

-- a word stores to the cell that this word accesses
abbrev pub is_stored : List BodyWord → BodyWord → Bool
is_stored words w = list_any (λ (v : BodyWord). is_store v.touch && use_one_cell v w) words

-- the cell of an access, if it is of one
abbrev pub cell_with : Bool → Option Touch → Option Cell
cell_with stored (Some t) =
    if t.of_cell
    then Some (record {
      base = t.address.base;
      offset = t.address.offset;
      wide = bytes_of t.width == 8;
      stored = stored;
    })
    else None
cell_with stored None = None

-- the cell that a word accesses
abbrev pub cell_of : List BodyWord → BodyWord → Option Cell
cell_of words w = cell_with (is_stored words w) w.touch

-- an auipc whose value is no signed number of 32 bits
abbrev pub is_far : ℕ → Option Instr → Bool
is_far u (Some (Upper Auipc rd imm)) = not (constant_fits (signed_of (pos u +ℤ imm)))
is_far u i = false

abbrev pub is_far_auipc : BodyWord → Bool
is_far_auipc w = is_far w.at w.instr

-- a load or a store that accesses no cell
abbrev pub is_other_access : BodyWord → Bool
is_other_access w = is_some (motion_of w.instr) && not (uses_cell w)

-- addw, subw, mulw, addiw and slliw
abbrev pub is_short_alu : AluOp → Bool
is_short_alu Addw = true
is_short_alu Subw = true
is_short_alu Mulw = true
is_short_alu _ = false

abbrev pub is_short_imm : ImmOp → Bool
is_short_imm Addiw = true
is_short_imm Slliw = true
is_short_imm _ = false

abbrev pub is_sw : StoreOp → Bool
is_sw Sw = true
is_sw _ = false

-- these instructions, and sw to a cell
abbrev pub is_short_word : Option Instr → Bool → Bool
is_short_word (Some (Alu op rd rs1 rs2)) cell = is_short_alu op
is_short_word (Some (AluImm op rd rs1 imm)) cell = is_short_imm op
is_short_word (Some (Store op rs1 rs2 imm)) cell = is_sw op && cell
is_short_word i cell = false

-- the word may owe that its result is a number of 32 bits
abbrev pub may_owe : BodyWord → Bool
may_owe w = is_short_word w.instr (uses_cell w)

-- the word is the later one of a mixed pair
abbrev pub is_mixed : List BodyWord → BodyWord → Bool
is_mixed words w =
    list_any (λ (v : BodyWord). nat_lt v.at w.at && both are_mixed v.touch w.touch) words

-- there is an access, and it is of no cell
abbrev pub is_plain : Option Touch → Bool
is_plain (Some t) = not t.of_cell
is_plain None = false

-- the word is the later one of a mixed pair with a first use of a cell, or with an access of no cell
abbrev pub is_mixed_later : List BodyWord → List BodyWord → BodyWord → Bool
is_mixed_later firsts plain w = is_mixed firsts w || is_mixed plain w

-- the verdict at a word, if there is one
abbrev pub limit_at : Option BodyWord → Option Verdict
limit_at (Some w) = Some (Limit w.at)
limit_at None = None

abbrev pub mixed_at : Option BodyWord → Option Verdict
mixed_at (Some w) = Some (MixedCell w.at)
mixed_at None = None

-- the first limit that is passed, of these: the first auipc that is far; the first use of a 17th cell; a 33rd access
-- of no cell; a 33rd word that may owe
abbrev pub limit_of : List BodyWord → Option Verdict
limit_of words =
    option_or (limit_at (find is_far_auipc words))
    (option_or (limit_at (slice_get (first_uses words) 16))
    (option_or (limit_at (slice_get (filter is_other_access words) 32))
    (limit_at (slice_get (filter may_owe words) 32))))

-- why a loop is not taken, where its cells decide that: the first limit that is passed, or the first word that is the
-- later one of a mixed pair
abbrev pub fault_of : List BodyWord → Option Verdict
fault_of words = option_or (limit_of words) (mixed_at (find (is_mixed words) words))

-- The instructions of which the check of a loop is put together. They work with x5 to x7 and x28 to x31, whose entry
-- values stand in slots; slots 23 to 26 have the last turn number of the root and the last passes of the inner loops.
use Rattle.std.specs.Prelude.{ℕ, suc, ◌≡◌, ◌==◌, ◌+◌, ◌-◌, ◌*◌, if◌then◌else◌, Bool, ◌||◌, List, [], ◌∷◌, ◌++◌, length, slice_index, ℤ, pos, int_lt, Option, Some, None}
use Rattle.rv64_decode.specs.declared.instr.AluOp.TheVariants.{Add, Mul}
use Rattle.rv64_decode.specs.declared.instr.ImmOp.TheVariants.{Addi, Addiw}
use Rattle.rv64_decode.specs.declared.instr.UpperOp.TheVariants.{Lui}
use Rattle.rv64_decode.specs.declared.instr.BranchOp.{BranchOp}
use Rattle.rv64_decode.specs.declared.instr.BranchOp.TheVariants.{Blt, Bge}
use Rattle.rv64_decode.specs.declared.instr.Instr.TheVariants.{Alu, AluImm, Upper, Branch}
use Rattle.rv64_decode.specs.declared.xinstr.XInstr.{XInstr}
use Rattle.rv64_decode.specs.declared.xinstr.XInstr.TheVariants.{Base, Get}
use Rattle.linear_forms.specs.Forms.{EntryTerm, LinearForm}
use Rattle.loop_data.specs.declared.verdict.Cell.{Cell}
use Rattle.alias_checks.specs.declared.areas.Permission.{Permission}
use Rattle.alias_checks.specs.Areas.{Bounds, flags_permit}
use Rattle.stub_laws.specs.Code.{open_jump, Appended}
use Rattle.stub_laws.specs.Locations.{slot_of}
use Rattle.check_numbers.specs.Parts.{low_part, high_part}

-- a register that the sums below may be worked out in: they need x30 and x31 beside it
abbrev pub is_work : ℕ → Bool
is_work r = r == 5 || (r == 6 || (r == 7 || (r == 28 || r == 29)))

abbrev pub load_upper : ℕ → ℤ → XInstr
load_upper r v = Base (Upper Lui r (high_part v))

abbrev pub add_lower : ℕ → ℤ → XInstr
add_lower r v = Base (AluImm Addiw r r (low_part v))

-- a number into a register
abbrev pub number_code : ℕ → ℤ → List XInstr
number_code r v = load_upper r v ∷ add_lower r v ∷ []

abbrev pub bring_from : ℕ → ℕ → Option ℕ → XInstr
bring_from r loc None = Base (AluImm Addi r loc (pos 0))
bring_from r loc (Some slot) = Get r slot

-- the entry value of a location into a register
abbrev pub bring : ℕ → ℕ → XInstr
bring r loc = bring_from r loc (slot_of loc)

-- so many times x31 added to a register
abbrev pub product_code : ℕ → ℤ → List XInstr
product_code r by = load_upper 30 by ∷ add_lower 30 by ∷ Base (Alu Mul 31 31 30) ∷ Base (Alu Add r r 31) ∷ []

-- so many times the entry value of a location added to a register
abbrev pub term_code : ℕ → EntryTerm → List XInstr
term_code r t = bring 31 t.loc ∷ product_code r t.by

abbrev pub sum_code : ℕ → List EntryTerm → List XInstr
sum_code r [] = []
sum_code r (t ∷ ts) = term_code r t ++ sum_code r ts

-- a constant and terms into a register
abbrev pub terms_code : ℕ → ℤ → List EntryTerm → List XInstr
terms_code r c ts = load_upper r c ∷ add_lower r c ∷ sum_code r ts

-- a form at turn numbers 0
abbrev pub form_code : ℕ → LinearForm → List XInstr
form_code r f = terms_code r f.constant f.terms

-- so many times what a slot has added to a register
abbrev pub span_code : ℕ → ℤ → ℕ → List XInstr
span_code r by slot = Get 31 slot ∷ product_code r by

-- the same where the stride lowers a form
abbrev pub fall_code : ℕ → ℤ → ℕ → List XInstr
fall_code r by slot = if int_lt by (pos 0) then span_code r by slot else []

-- the same where it raises it
abbrev pub rise_code : ℕ → ℤ → ℕ → List XInstr
rise_code r by slot = if int_lt (pos 0) by then span_code r by slot else []

-- the least value of a form, where these slots have the last turn numbers of its levels
abbrev pub low_code : ℕ → LinearForm → List ℕ → List XInstr
low_code r f slots =
    form_code r f ++ (fall_code r f.first (slice_index slots 0)
    ++ (fall_code r f.second (slice_index slots 1) ++ fall_code r f.third (slice_index slots 2)))

-- an offset added to a register
abbrev pub offset_code : ℕ → ℤ → List XInstr
offset_code r offset = Base (AluImm Addi r r offset) ∷ []

-- the greatest value of a form, and so many bytes more
abbrev pub high_code : ℕ → LinearForm → List ℕ → ℕ → List XInstr
high_code r f slots size =
    form_code r f ++ (rise_code r f.first (slice_index slots 0)
    ++ (rise_code r f.second (slice_index slots 1) ++ (rise_code r f.third (slice_index slots 2)
    ++ offset_code r (pos size))))

-- the address of a cell, which has a base or stands at a known address
abbrev pub address_by_code : ℕ → Option ℕ → ℤ → List XInstr
address_by_code r None offset = number_code r offset
address_by_code r (Some base) offset = bring r base ∷ offset_code r offset

abbrev pub address_code : ℕ → Cell → List XInstr
address_code r c = address_by_code r c.base c.offset

-- goes on where the branch is taken, and else to the open target
abbrev pub need_code : BranchOp → ℕ → ℕ → List XInstr
need_code op rs1 rs2 = Base (Branch op rs1 rs2 (pos (4 * 2))) ∷ open_jump ∷ []

-- one area, behind which n words follow: where the range from x5 to x6 lies in it, over them
abbrev pub area_code : ℕ → ℕ → ℕ → List XInstr
area_code low end n =
    load_upper 7 (pos low) ∷ add_lower 7 (pos low) ∷ Base (Branch Blt 5 7 (pos (4 * 4)))
    ∷ load_upper 7 (pos end) ∷ add_lower 7 (pos end) ∷ Base (Branch Bge 7 6 (pos (4 * suc n))) ∷ []

-- the areas that permit an access
abbrev pub permitted : Permission → List Bounds → List Bounds
permitted permission [] = []
permitted permission (b ∷ bs) =
    if flags_permit permission b.2 then b ∷ permitted permission bs else permitted permission bs

-- goes on where the range from x5 to x6 lies in one of the areas, and else to the open target
abbrev pub areas_code : List Bounds → List XInstr
areas_code [] = open_jump ∷ []
areas_code (b ∷ bs) = area_code b.0 b.1 (length (areas_code bs)) ++ areas_code bs

-- the words of an area are appended if it permits the access; n such areas are left behind it, where from it on there
-- are so many
pub record PassesArea (permission : Permission) (b : Bounds) (left : ℕ) (old new : List ℕ) (n : ℕ) : Type 0 where
  pub words :
      Appended old new (if flags_permit permission b.2 then area_code b.0 b.1 (6 * (left - 1) + 1) else [])
  pub behind : n ≡ (if flags_permit permission b.2 then left - 1 else left)

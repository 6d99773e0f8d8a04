-- The trips of loops: what the branch that leaves a loop compares from turn to turn, and how many turns stay.
use Rattle.std.specs.Prelude.{ℕ, zero, suc, ◌≡◌, ◌==◌, ◌-◌, ◌/◌, Bool, true, false, not, ◌&&◌, if◌then◌else◌, List, ℤ, pos, ◌+ℤ◌, ◌-ℤ◌, ◌*ℤ◌, int_lt, Option, Some, None, slice_index_or}
use Rattle.std.specs.Int.RustNames.{unsigned_abs}
use Rattle.rv64_decode.specs.Row.{plus_offset, signed64}
use Rattle.rv64_decode.specs.declared.instr.BranchOp.{BranchOp}
use Rattle.rv64_decode.specs.declared.instr.BranchOp.TheVariants.{Beq, Bne, Blt, Bge, Bltu, Bgeu}
use Rattle.rv64_decode.specs.declared.instr.Instr.{Instr}
use Rattle.rv64_decode.specs.declared.instr.Instr.TheVariants.{Branch}
use Rattle.linear_forms.specs.Forms.{LinearForm, is_zero, stride, difference, limited, pure, value, word_of}
use Rattle.loop_data.specs.declared.graph.Graph.{Graph}
use Rattle.loop_data.specs.declared.shape.Level.{Level}
use Rattle.loop_data.specs.declared.trips.Relation.{Relation}
use Rattle.loop_data.specs.declared.trips.Relation.TheVariants.{Differ, Less, AtMost, More, AtLeast}
use Rattle.loop_data.specs.declared.trips.Trip.{Trip}
use Rattle.loop_data.specs.Nests.{has}
use Rattle.loop_data.specs.LoopCode.{instr_among}
use Rattle.loop_data.specs.FormRows.{form_read}

-- the relation of its operands under which a branch stays in a loop, where its taken side does, and where it does
-- not; none where it stays as long as they are the same
abbrev pub stay : BranchOp → Bool → Option Relation
stay Beq true = None
stay Beq false = Some Differ
stay Bne true = Some Differ
stay Bne false = None
stay Blt true = Some Less
stay Blt false = Some AtLeast
stay Bge true = Some AtLeast
stay Bge false = Some Less
stay Bltu true = Some Less
stay Bltu false = Some AtLeast
stay Bgeu true = Some AtLeast
stay Bgeu false = Some Less

-- whether a branch reads its operands as signed numbers
abbrev pub is_signed : BranchOp → Bool
is_signed Bltu = false
is_signed Bgeu = false
is_signed _ = true

-- the relation of the second operand to the first
abbrev pub turned : Relation → Relation
turned Differ = Differ
turned Less = More
turned AtMost = AtLeast
turned More = Less
turned AtLeast = AtMost

-- with this step a word comes to where the relation ends
abbrev pub approaches : Relation → ℤ → Bool
approaches Differ a = not (is_zero a)
approaches Less a = int_lt (pos 0) a
approaches AtMost a = int_lt (pos 0) a
approaches More a = int_lt a (pos 0)
approaches AtLeast a = int_lt a (pos 0)

-- no stride, and none but at this depth
abbrev pub is_still : LinearForm → Bool
is_still f = is_zero f.first && (is_zero f.second && is_zero f.third)

abbrev pub moves_at : ℕ → LinearForm → Bool
moves_at zero f = is_zero f.second && is_zero f.third
moves_at (suc zero) f = is_zero f.first && is_zero f.third
moves_at (suc (suc zero)) f = is_zero f.first && is_zero f.second
moves_at (suc (suc (suc k))) f = false

-- the trip of a word that moves at this depth alone, toward one that does not move
abbrev pub trip_toward : ℕ → Relation → Bool → LinearForm → LinearForm → Option Trip
trip_toward depth relation signed f g =
    if is_still g && (moves_at depth f && approaches relation (stride f depth))
    then Some
    (record { relation = relation; signed = signed; start = f; bound = g; step = stride f depth })
    else None

abbrev pub or_else : Option Trip → Option Trip → Option Trip
or_else (Some t) o = Some t
or_else None o = o

-- a difference moves toward 0
abbrev pub trip_to_zero : ℕ → Option LinearForm → Option Trip
trip_to_zero depth (Some h) = trip_toward depth Differ true h (pure (pos 0))
trip_to_zero depth None = None

-- the trip of two operands: of their difference, or of the one that moves
abbrev pub trip_between : ℕ → Relation → Bool → LinearForm → LinearForm → Option Trip
trip_between depth Differ signed f g = trip_to_zero depth (limited (difference f g))
trip_between depth relation signed f g =
    or_else (trip_toward depth relation signed f g) (trip_toward depth (turned relation) signed g f)

abbrev pub trip_read : ℕ → Option Relation → Bool → Option LinearForm → Option LinearForm → Option Trip
trip_read depth (Some relation) signed (Some f) (Some g) = trip_between depth relation signed f g
trip_read depth relation signed f g = None

-- the trip of a loop that is left at this instruction, where the registers have these forms
abbrev pub trip_by : Level → Option Instr → (ℕ → Option LinearForm) → Option Trip
trip_by l (Some (Branch op rs1 rs2 imm)) F =
    trip_read l.depth (stay op (has l.body (plus_offset l.exit imm))) (is_signed op) (form_read F rs1)
    (form_read F rs2)
trip_by l i F = None

-- the trip of a loop, where the locations have these forms at each word
abbrev pub trip_of : Graph → Level → (ℕ → ℕ → Option LinearForm) → Option Trip
trip_of G l at = trip_by l (instr_among G.words l.exit) (at l.exit)

-- a word as a branch reads it
abbrev pub reading : Bool → ℕ → ℤ
reading true w = signed64 w
reading false w = pos w

-- the first integer has the relation to the second
abbrev pub relates : Relation → ℤ → ℤ → Bool
relates Differ x b = not (is_zero (x -ℤ b))
relates Less x b = int_lt x b
relates AtMost x b = not (int_lt b x)
relates More x b = int_lt b x
relates AtLeast x b = not (int_lt x b)

-- how often x, which gains a in each turn, is related to b: as integers, which do not wrap. Of a difference it is
-- so only if it comes to b at all
abbrev pub count : Relation → ℤ → ℤ → ℤ → ℕ
count Differ x a b = unsigned_abs (b -ℤ x) / unsigned_abs a
count Less x a b = if int_lt x b then suc ((unsigned_abs (b -ℤ x) - 1) / unsigned_abs a) else 0
count AtMost x a b = if int_lt b x then 0 else suc (unsigned_abs (b -ℤ x) / unsigned_abs a)
count More x a b = if int_lt b x then suc ((unsigned_abs (x -ℤ b) - 1) / unsigned_abs a) else 0
count AtLeast x a b = if int_lt x b then 0 else suc (unsigned_abs (x -ℤ b) / unsigned_abs a)

-- after so many turns the relation has ended: of a difference, as an integer; of any other, where a turn stays at
-- all, as the word to which it wraps
abbrev pub has_ended : Relation → Bool → ℤ → ℤ → ℤ → ℕ → Bool
has_ended Differ signed x a b n = is_zero (x +ℤ a *ℤ pos n -ℤ b)
has_ended relation signed x a b n =
    if n == 0 then true else not (relates relation (reading signed (word_of (x +ℤ a *ℤ pos n))) b)

abbrev pub number : Relation → Bool → ℤ → ℤ → ℤ → Option ℕ
number relation signed x a b =
    if has_ended relation signed x a b (count relation x a b) then Some (count relation x a b) else None

-- the value of a form at turn numbers 0, as a branch reads it
abbrev pub first_value : Bool → LinearForm → (ℕ → ℤ) → ℤ
first_value signed f entry = reading signed (value f entry (λ k. 0))

-- the number of turns that stay, where the locations have these values at the entry, if the trip tells one
abbrev pub number_of_stays : Trip → (ℕ → ℤ) → Option ℕ
number_of_stays t entry =
    number t.relation t.signed (first_value t.signed t.start entry) t.step (first_value t.signed t.bound entry)

-- the trip of the loop at a place among the levels, if it has one
abbrev pub IsTripAt : Graph → List Level → (ℕ → ℕ → Option LinearForm) → ℕ → Option Trip → Type 0
IsTripAt G levels at place o = (l : Level) → slice_index_or levels place l ≡ l → trip_of G l at ≡ o

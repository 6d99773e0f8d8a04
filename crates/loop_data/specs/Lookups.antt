-- What the results of the analysis say of an address and a location.
use Rattle.std.specs.Prelude.{ℕ, ℤ, ◌≡◌, ◌==◌, ◌<◌, ◌≤◌, ◌&&◌, Bool, true, false, nat_le, nat_lt, if◌then◌else◌, List, [], ◌∷◌, length, map, Option, Some, None, slice_index_or}
use Rattle.std.specs.List.{All}
use Rattle.std.specs.List.Sorted.{IsStrictlyIncreasing}
use Rattle.rv64_decode.specs.Row.{signed64}
use Rattle.linear_forms.specs.Forms.{LinearForm}
use Rattle.linear_forms.specs.declared.location.Loc.{Loc}
use Rattle.linear_forms.specs.declared.location.Loc.TheVariants.{Reg, Cell}
use Rattle.linear_forms.specs.Locations.{number_of}
use Rattle.loop_data.specs.declared.cells.Cells.{Cells}
use Rattle.loop_data.specs.declared.classes.Class.{Class}
use Rattle.loop_data.specs.declared.classes.Class.TheVariants.{Induction, Private as PrivateClass}
use Rattle.loop_data.specs.declared.classes.Classes.{Classes}
use Rattle.loop_data.specs.Points.{Point}
use Rattle.loop_data.specs.declared.shape.Level.{Level}
use Rattle.loop_data.specs.declared.values.Value.{Value}
use Rattle.loop_data.specs.declared.values.Value.TheVariants.{Known, Base, Nothing}
use Rattle.loop_data.specs.declared.values.Values.{Values}
use Rattle.loop_data.specs.Independent.{Role, Keeps, Moves, Private}
use Rattle.loop_data.specs.Locations.{CellMap, cell_at}
use Rattle.loop_data.specs.LoopCode.{LoopCode, any_writes}
use Rattle.loop_data.specs.Facts.{Fact, Number, Offset}

-- the number of the cell that the word at an address accesses
abbrev pub use_of : List (ℕ × ℕ) → ℕ → Option ℕ
use_of [] u = None
use_of (use_at ∷ uses) u = if use_at.0 == u then Some use_at.1 else use_of uses u

abbrev pub cell_map : Cells → CellMap
cell_map c = record { cells = c.list.items; uses = use_of c.uses.items }

-- the words that access cells stand in address order, each with the number of one of at most 16 cells
pub record AreNumbered (c : Cells) : Type 0 where
  pub ordered : IsStrictlyIncreasing (map (λ (u : ℕ × ℕ). u.0) c.uses.items)
  pub numbers : All (λ (u : ℕ × ℕ). u.1 < length c.list.items) c.uses.items
  pub few : length c.list.items ≤ 16

-- cells have numbers below 16
pub record AreFew (C : CellMap) : Type 0 where
  pub cells : (k : ℕ) → 16 ≤ k → cell_at C.cells k ≡ None
  pub uses : (u k : ℕ) → C.uses u ≡ Some k → k < 16

-- the name of a register but x0, or of one of at most 16 cells: each location has one such name
abbrev pub is_named : Loc → Bool
is_named (Reg r) = nat_le 1 r && nat_lt r 32
is_named (Cell k) = nat_lt k 16

-- a number from the header's value of the location of this name, if it is one
abbrev pub offset_from : Loc → ℤ → Option Fact
offset_from loc z = if is_named loc then Some (Offset (number_of loc) z) else None

-- the fact that a value stands for; over anything that is no location's name it stands for none
abbrev pub fact_of : Value → Option Fact
fact_of (Known n) = Some (Number (signed64 n))
fact_of (Base loc n) = offset_from loc (signed64 n)
fact_of Nothing = None

-- what is known of a location; locations have numbers below 48
abbrev pub fact_in : List Value → ℕ → Option Fact
fact_in values r = if nat_lt r 48 then fact_of (slice_index_or values r Nothing) else None

-- the fact of a location at the word at an address
abbrev pub fact_at : List Values → ℕ → ℕ → Option Fact
fact_at [] u r = None
fact_at (v ∷ vs) u r = if v.at == u then fact_in v.of r else fact_at vs u r

-- the form of a location at the word at an address
abbrev pub form_at : List Point → ℕ → ℕ → Option LinearForm
form_at [] u r = None
form_at (p ∷ ps) u r = if p.at == u then slice_index_or p.forms r None else form_at ps u r

-- what a class says of a location that a loop writes, or does not; where a loop writes one without a class, the
-- role Private stands for any other way of writing it
abbrev pub role_by : Bool → Option Class → Role
role_by written (Some (Induction step)) = Moves step
role_by written (Some PrivateClass) = Private
role_by true None = Private
role_by false None = Keeps

-- the classes of a loop, which its header tells
abbrev pub classes_of : List Level → List (List (Option Class)) → Level → List (Option Class)
classes_of [] rows l = []
classes_of (m ∷ ms) [] l = []
classes_of (m ∷ ms) (row ∷ rows) l = if m.header == l.header then row else classes_of ms rows l

-- the roles of the locations in each loop
abbrev pub roles_by : LoopCode → List Level → Classes → Level → ℕ → Role
roles_by B levels c l r =
    role_by (any_writes B l.body r) (slice_index_or (classes_of levels (c.root ∷ c.inner) l) r None)

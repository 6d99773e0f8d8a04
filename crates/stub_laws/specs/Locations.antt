-- Where added code keeps what a loop's locations had at its entry. Added code works with x5 to x7 and x28 to
-- x31, whose entry values stand in slots 16 to 22; a cell's stands in the slot of its number, and any other
-- register keeps its own.
use Rattle.std.specs.Prelude.{ℕ, ◌≡◌, ◌==◌, ◌-◌, ◌<◌, ◌^◌, if◌then◌else◌, nat_lt, Bool, true, length, Option, Some, None, slice_index}
use Rattle.rv64_decode.specs.Hart.{Hart}
use Rattle.rv64_decode.specs.Registers.{register}

-- the slot of a location, if it has one. Registers are 0 to 31, and from 32 on slot s is location 32 + s
abbrev pub slot_of : ℕ → Option ℕ
slot_of loc =
    if loc == 5 then Some 16 else
    if loc == 6 then Some 17 else
    if loc == 7 then Some 18 else
    if loc == 28 then Some 19 else
    if loc == 29 then Some 20 else
    if loc == 30 then Some 21 else
    if loc == 31 then Some 22 else
    if nat_lt loc 32 then None else Some (loc - 32)

-- what a location holds: its slot, or else its register
abbrev pub held_by : Hart → ℕ → Option ℕ → ℕ
held_by h loc None = register h.regs loc
held_by h loc (Some slot) = slice_index h.slots slot

abbrev pub held : Hart → ℕ → ℕ
held h loc = held_by h loc (slot_of loc)

-- the known locations hold these values
pub record Keeps (known : ℕ → Bool) (e : ℕ → ℕ) (h : Hart) : Type 0 where
  pub registers : length h.regs ≡ 32
  pub slots : length h.slots ≡ 32
  pub each : (loc : ℕ) → known loc ≡ true → held h loc ≡ e loc
  pub bound : (loc : ℕ) → known loc ≡ true → loc < 64
  pub small : (loc : ℕ) → e loc < 2 ^ 64

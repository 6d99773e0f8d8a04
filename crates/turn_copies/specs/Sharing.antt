-- What the turns of a divided loop do to memory outside the cells: different turns do not meet there, and all together,
-- in the order of the original, they leave what it leaves.
use Rattle.std.specs.Prelude.{ℕ, ◌≡◌, ◌≢◌, ◌<◌, ◌≤◌, true, false}
use Rattle.loop_data.specs.declared.shape.Level.{Level}
use Rattle.loop_data.specs.Independent.{Role}
use Rattle.loop_data.specs.LoopCode.{LoopCode}
use Rattle.loop_data.specs.Runs.{State, run}
use Rattle.loop_data.specs.Turns.{turn, IsArrival, Reads, Writes, loads_byte, stores_byte}
use Rattle.loop_data.specs.Independent.{IsOutside}
use Rattle.turn_copies.specs.Memories.{Agree, replayed}
use Rattle.turn_copies.specs.Bodies.{IsBody, IsDivided}
use Rattle.turn_copies.specs.Passages.{IsUnstored, outside_access, accesses_between}

-- an access that is none of a cell loads what its turn reads, and stores what its turn writes, outside all cells
abbrev pub AccessLaw : Type 0
AccessLaw = (l : Level) (B : LoopCode) (roles : ℕ → Role) (s : State) (p n z : ℕ) → IsDivided l B roles s p
    → turn l s n < p
    → (loads_byte (outside_access B.cells s n) z ≡ true → Reads l s (turn l s n) z × IsUnstored B.cells s z)
    × (stores_byte (outside_access B.cells s n) z ≡ true → Writes l s (turn l s n) z × IsOutside B.cells s z)

-- of two such accesses in different turns neither stores a byte of the other
abbrev pub DisjointLaw : Type 0
DisjointLaw = (l : Level) (B : LoopCode) (roles : ℕ → Role) (s : State) (p m n z : ℕ) → IsDivided l B roles s p
    → turn l s m < p → turn l s n < p → turn l s m ≢ turn l s n → stores_byte (outside_access B.cells s m) z ≡ true
    → (loads_byte (outside_access B.cells s n) z ≡ false) × (stores_byte (outside_access B.cells s n) z ≡ false)

-- the accesses of the first turns leave the bytes of their arrival, but for those in stored cells
abbrev pub ReplayLaw : Type 0
ReplayLaw = (l : Level) (B : LoopCode) (roles : ℕ → Role) (s : State) (p t b : ℕ) → IsBody l B → IsDivided l B roles s p
    → t ≤ p → IsArrival l s t b
    → Agree (IsUnstored B.cells s) (replayed s.memory (accesses_between B.cells s 0 b)) (run s b).memory

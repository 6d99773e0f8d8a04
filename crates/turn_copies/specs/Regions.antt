-- From the fork to the join: what each hart of a divided loop does.
use Rattle.std.specs.Prelude.{ℕ, suc, ◌≡◌, ◌≢◌, ◌+◌, ◌-◌, ◌*◌, ◌/◌, ◌%◌, ◌^◌, ◌<◌, ◌≤◌, List, ◌++◌, length, Some, ℤ, slice_index}
use Rattle.rv64_decode.specs.Area.{number_at, bytes_of}
use Rattle.rv64_decode.specs.Hart.{Hart, address, run}
use Rattle.rv64_decode.specs.Registers.{register}
use Rattle.loop_data.specs.declared.shape.Level.{Level}
use Rattle.loop_data.specs.declared.verdict.Cell.{Cell}
use Rattle.loop_data.specs.Independent.{Role, Moves, Private}
use Rattle.loop_data.specs.Locations.{CellMap, cell_at, address as cell_address, width_of, first_cell}
use Rattle.loop_data.specs.LoopCode.{LoopCode}
use Rattle.loop_data.specs.Runs.{State}
use Rattle.loop_data.specs.Turns.{IsArrival}
use Rattle.stub_laws.specs.Harts.{IsHartAt}
use Rattle.stub_laws.specs.Locations.{held}
use Rattle.stub_laws.specs.Places.{behind}
use Rattle.check_numbers.specs.Sums.{IsShort}
use Rattle.turn_copies.specs.Memories.{replayed}
use Rattle.turn_copies.specs.Copies.{Placed, Placing, Copies}
use Rattle.turn_copies.specs.Bodies.{IsBody, IsDivided}
use Rattle.turn_copies.specs.StubCode.{fork_code, movings, begin_code, next_code, join_place}
use Rattle.turn_copies.specs.Passages.{in_slot, HasLocations, accesses_between}

-- the place of a hart's block among those of so many harts: the first hart has the last
abbrev pub rank : ℕ → ℕ → ℕ
rank k harts = (k + harts - 1) % harts

-- where block b of so many turns begins
abbrev pub bound : ℕ → ℕ → ℕ → ℕ
bound b turns harts = b * turns / harts

-- the first turn of a hart's block, and the one behind its last
abbrev pub block_first : ℕ → ℕ → ℕ → ℕ
block_first k turns harts = bound (rank k harts) turns harts

abbrev pub block_end : ℕ → ℕ → ℕ → ℕ
block_end k turns harts = bound (suc (rank k harts)) turns harts

-- a location that moves on is a register but x0, or one of 16 cells, and its step a signed number of 32 bits
pub record CanMove (roles : ℕ → Role) : Type 0 where
  pub each : (loc : ℕ) (step : ℤ) → roles loc ≡ Moves step → (loc ≢ 0) × (loc < 48) × IsShort step

-- added code has what the locations that are known had at the entry
pub record HasEntry (C : CellMap) (s : State) (known : ℕ → Type 0) (h : Hart) : Type 0 where
  pub registers : (r : ℕ) → r < 32 → known r → held h r ≡ register s.regs r
  pub cells : (k : ℕ) (c : Cell) → cell_at C.cells k ≡ Some c → known (first_cell + k)
      → in_slot c.wide (slice_index h.slots k) ≡ number_at (bytes_of (width_of c)) s.memory (cell_address s.regs c)

-- the words from the fork on stand at place q, and those of the body and behind it
pub record StandsRegion (code : List ℕ) (l : Level) (B : LoopCode) (roles : ℕ → Role) (c : Placing) (q : ℕ)
    : Type 0 where
  pub fork : Placed code q (fork_code q (join_place c.next))
  pub begin :
      let r = behind q (fork_code q (join_place c.next)) in
      Placed code r (begin_code (movings roles) r (c.place l.header))
  pub copies : Copies code l B c
  pub next : Placed code c.next (next_code c.next (c.place l.header))
  pub near : join_place c.next ≤ 2 ^ 32

-- a hart has come from the first to the join, with the accesses of the visits from a up to b that are none of cells,
-- and has changed memory by these alone. If it had turns, it has all locations of visit b
pub record Joined (C : CellMap) (s : State) (a b first end : ℕ) (h : Hart) (place : ℕ) (now : Hart) : Type 0 where
  pub at : now.pc ≡ address place
  pub holds : first < end → HasLocations C s b (λ r. Unit {0}) now
  pub log : now.log ≡ h.log ++ accesses_between C s a b
  pub memory : now.memory ≡ replayed h.memory (accesses_between C s a b)

-- from the fork on, alone on the memory of the entry, a hart executes the turns of its block in order
abbrev pub RegionLaw : Type 0
RegionLaw = (code : List ℕ) (l : Level) (B : LoopCode) (roles : ℕ → Role) (s : State) (p a b q : ℕ) (c : Placing)
    (h : Hart) → IsBody l B → IsDivided l B roles s p → CanMove roles → length code ≤ 2 ^ 32
    → StandsRegion code l B roles c q → h.number < h.harts → h.harts ≤ 64 → 0 < p → p < 2 ^ 32
    → IsArrival l s (block_first h.number p h.harts) a → IsArrival l s (block_end h.number p h.harts) b
    → IsHartAt q h → HasEntry B.cells s (λ r. roles r ≢ Private) h → h.memory ≡ s.memory
    → slice_index h.slots 23 ≡ p - 1
    → (n : ℕ) × Joined B.cells s a b (block_first h.number p h.harts) (block_end h.number p h.harts) h (join_place c.next)
    (run code n h)

-- the block of this hart has turn t, and that of no other
pub record HasAlone (turns harts t k : ℕ) : Type 0 where
  pub below : k < harts
  pub from : block_first k turns harts ≤ t
  pub before : t < block_end k turns harts
  pub only : (j : ℕ) → j < harts → block_first j turns harts ≤ t → t < block_end j turns harts → j ≡ k

-- blocks follow each other from turn 0 to the last: each hart's begins where the one's before ends. Hart 1 has the first,
-- or hart 0 where it is alone, and hart 0 the last, which is never empty. Each turn is in the block of one hart
pub record AreBlocks (turns harts : ℕ) : Type 0 where
  pub first : block_first (1 % harts) turns harts ≡ 0
  pub next : (k : ℕ) → suc k < harts → block_first (suc (suc k)) turns harts ≡ block_end (suc k) turns harts
  pub last : block_end 0 turns harts ≡ turns
  pub some : 0 < turns → block_first 0 turns harts < turns
  pub rise : (k : ℕ) → block_first k turns harts ≤ block_end k turns harts
  pub each : (t : ℕ) → t < turns → (k : ℕ) × HasAlone turns harts t k

abbrev pub BlocksLaw : Type 0
BlocksLaw = (turns harts : ℕ) → 0 < harts → AreBlocks turns harts

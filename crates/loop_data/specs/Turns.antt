-- The turns of a loop: visits of words, counted, and the bytes that they touch.
use Rattle.std.specs.Prelude.{ℕ, zero, suc, ◌≡◌, ◌+◌, ◌<◌, ◌==◌, Bool, true, false, ◌&&◌, nat_le, nat_lt, if◌then◌else◌, List, [], ◌∷◌, length}
use Rattle.rv64_decode.specs.Area.{Area, bytes_of}
use Rattle.rv64_decode.specs.Ask.{Ask, Nothing, Loads, Stores}
use Rattle.rv64_decode.specs.declared.outcome.Next.TheVariants.{At}
use Rattle.loop_data.specs.declared.shape.Level.{Level}
use Rattle.loop_data.specs.Nests.{has}
use Rattle.loop_data.specs.Runs.{State, run, walk, goes_at, access}

-- the bytes of an area that may be executed are those
abbrev pub IsCodeOf : Area → Area → Type 0
IsCodeOf a b = a.executable ≡ true → b.bytes ≡ a.bytes

-- one area is another, with other bytes where it may not be executed
pub record IsSameArea (a b : Area) : Type 0 where
  pub low : b.low ≡ a.low
  pub length : length b.bytes ≡ length a.bytes
  pub readable : b.readable ≡ a.readable
  pub writable : b.writable ≡ a.writable
  pub executable : b.executable ≡ a.executable
  pub code : IsCodeOf a b

-- the memory has these areas and their executable bytes
abbrev pub HasAreas : List Area → List Area → Type 0
HasAreas [] [] = Unit {0}
HasAreas (a ∷ areas) (b ∷ m) = IsSameArea a b × HasAreas areas m
HasAreas _ _ = ⊥

-- a state at a loop of an executable with these areas: it has no ending, its pc is the loop's header, and
-- its areas and executable bytes are the executable's
pub record AtLoop (mapped : List Area) (l : Level) (s : State) : Type 0 where
  pub at : s.next ≡ At l.header
  pub areas : HasAreas mapped s.memory

-- the n-th state of the run is at the header
abbrev pub arrives : Level → State → ℕ → Bool
arrives l s n = goes_at (λ pc. pc == l.header) (run s n).next

-- the turn to which instruction n belongs: the number of later arrivals up to it
abbrev pub turn : Level → State → ℕ → ℕ
turn l s zero = 0
turn l s (suc n) = if arrives l s (suc n) then suc (turn l s n) else turn l s n

-- the words that this turn has executed before instruction n, the newest first
abbrev pub seen : Level → State → ℕ → List ℕ
seen l s zero = []
seen l s (suc n) = if arrives l s (suc n) then [] else walk s n ∷ seen l s n

-- the n-th state is the arrival t
pub record IsArrival (l : Level) (s : State) (t n : ℕ) : Type 0 where
  pub at : (run s n).next ≡ At l.header
  pub turn : turn l s n ≡ t

-- the byte is one of so many from the address on
abbrev pub covers : ℕ → ℕ → ℕ → Bool
covers addr count b = nat_le addr b && nat_lt b (addr + count)

abbrev pub loads_byte : Ask → ℕ → Bool
loads_byte Nothing b = false
loads_byte (Loads addr width) b = covers addr (bytes_of width) b
loads_byte (Stores addr width value) b = false

abbrev pub stores_byte : Ask → ℕ → Bool
stores_byte Nothing b = false
stores_byte (Loads addr width) b = false
stores_byte (Stores addr width value) b = covers addr (bytes_of width) b

-- turn t reads byte b: a load of it does
pub record Reads (l : Level) (s : State) (t b : ℕ) : Type 0 where
  pub at : ℕ
  pub turn : turn l s at ≡ t
  pub loads : loads_byte (access (run s at)) b ≡ true

-- turn t writes byte b: a store of it does
pub record Writes (l : Level) (s : State) (t b : ℕ) : Type 0 where
  pub at : ℕ
  pub turn : turn l s at ≡ t
  pub stores : stores_byte (access (run s at)) b ≡ true

-- instruction n is the exit branch, and leads out of the loop
pub record Leaves (l : Level) (s : State) (n : ℕ) : Type 0 where
  pub exit : (run s n).next ≡ At l.exit
  pub out : goes_at (has l.body) (run s (suc n)).next ≡ false

-- t is the first turn whose exit branch leaves the loop, and so the number of stays
pub record Stays (l : Level) (s : State) (t : ℕ) : Type 0 where
  pub at : ℕ
  pub number : turn l s at ≡ t
  pub leaves : Leaves l s at
  pub first : (n : ℕ) → turn l s n < t → ¬ Leaves l s n

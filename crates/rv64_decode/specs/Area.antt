-- A memory: a list of areas, what is at an address, and the answers to loads, stores and fetches. Bytes
-- of one access are in little-endian order ("RV32I Base Integer Instruction Set", "Load and Store
-- Instructions").
use Rattle.std.specs.Prelude.{ℕ, zero, suc, ◌+◌, ◌-◌, ◌*◌, ◌/◌, ◌%◌, ◌==◌, Bool, ◌&&◌, nat_le, nat_lt, if◌then◌else◌, List, [], ◌∷◌, length, slice_index, slice_set, Option, Some, None, Result, Ok, Err}
use Rattle.rv64_decode.specs.declared.memory.Width.{Width}
use Rattle.rv64_decode.specs.declared.memory.Width.TheVariants.{One, Two, Four, Eight}
use Rattle.rv64_decode.specs.declared.memory.MemFault.{MemFault}
use Rattle.rv64_decode.specs.declared.memory.MemFault.TheVariants.{Misaligned, Unmapped, Denied}

-- bytes that stand in a row from `low` on, and what may be done with them
pub record Area : Type 0 where
  pub low : ℕ
  pub readable : Bool
  pub writable : Bool
  pub executable : Bool
  pub bytes : List ℕ

-- the address lies in the area
abbrev pub holds : Area → ℕ → Bool
holds a addr = nat_le a.low addr && nat_lt addr (a.low + length a.bytes)

-- the area in which the address lies
abbrev pub area_at : List Area → ℕ → Option Area
area_at [] addr = None
area_at (a ∷ rest) addr = if holds a addr then Some a else area_at rest addr

-- the byte at an address, or 0 where there is none
abbrev pub byte_at : List Area → ℕ → ℕ
byte_at [] addr = 0
byte_at (a ∷ rest) addr = if holds a addr then slice_index a.bytes (addr - a.low) else byte_at rest addr

-- the number in the n bytes at the address, the lowest first
abbrev pub number_at : ℕ → List Area → ℕ → ℕ
number_at zero m addr = 0
number_at (suc n) m addr = byte_at m addr + 256 * number_at n m (suc addr)

-- the memory with one byte set; where the address lies in no area, the same memory
abbrev pub with_byte : List Area → ℕ → ℕ → List Area
with_byte [] addr b = []
with_byte (a ∷ rest) addr b =
    if holds a addr
    then record a { bytes = slice_set a.bytes (addr - a.low) b } ∷ rest
    else a ∷ with_byte rest addr b

-- the memory with the n bytes at the address set to the low bytes of the value, the lowest first
abbrev pub with_number : ℕ → List Area → ℕ → ℕ → List Area
with_number zero m addr value = m
with_number (suc n) m addr value = with_number n (with_byte m addr (value % 256)) (suc addr) (value / 256)

-- the number of bytes of an access
abbrev pub bytes_of : Width → ℕ
bytes_of One = 1
bytes_of Two = 2
bytes_of Four = 4
bytes_of Eight = 8

-- why an aligned access is refused, given the area in which its address lies
abbrev pub why_in : (Area → Bool) → Option Area → Option MemFault
why_in permission None = Some Unmapped
why_in permission (Some a) = if permission a then None else Some Denied

-- why an access is refused: it is misaligned, else in no area, else without the permission
abbrev pub why : (Area → Bool) → List Area → ℕ → Width → Option MemFault
why permission m addr width =
    if addr % bytes_of width == 0 then why_in permission (area_at m addr) else Some Misaligned

-- loads want this
abbrev pub readable_of : Area → Bool
readable_of a = a.readable

-- stores want this
abbrev pub writable_of : Area → Bool
writable_of a = a.writable

-- fetches want this
abbrev pub executable_of : Area → Bool
executable_of a = a.executable

-- the refusal, or else this answer
abbrev pub or_refusal : {A : Type 0} → Option MemFault → A → Result A MemFault
or_refusal None x = Ok x
or_refusal (Some fault) x = Err fault

-- the first memory where the access is refused, and else the second
abbrev pub unless_refused : Option MemFault → List Area → List Area → List Area
unless_refused None m n = n
unless_refused (Some fault) m n = m

-- the answer to a load
abbrev pub load_of : List Area → ℕ → Width → Result ℕ MemFault
load_of m addr width = or_refusal (why readable_of m addr width) (number_at (bytes_of width) m addr)

-- the answer to a store
abbrev pub store_of : List Area → ℕ → Width → Result (Unit {0}) MemFault
store_of m addr width = or_refusal (why writable_of m addr width) tt

-- the memory after a store, which a refused store leaves as it was
abbrev pub after_store : List Area → ℕ → Width → ℕ → List Area
after_store m addr width value =
    unless_refused (why writable_of m addr width) m (with_number (bytes_of width) m addr value)

-- the answer to a fetch of a word
abbrev pub fetch_of : List Area → ℕ → Result ℕ MemFault
fetch_of m addr = or_refusal (why executable_of m addr Four) (number_at 4 m addr)

-- What is known of a call that reads, and of one in which the source or the sink met a fault.
use Rattle.std.specs.Prelude.{ℕ, ◌≡◌, ◌+◌, ◌≤◌, ◌++◌, true, List, length, take, Option, Some}
use Rattle.rv64_decode.specs.Area.{Area, writable_of}
use Rattle.guest_memory.specs.Spans.{all_permitted, with_bytes_at}
use Rattle.guest_calls.specs.Calls.{a7}

-- the source tells this rest, where the call of these registers reads from it
abbrev pub TellsReader : List ℕ → Option (List ℕ) → List ℕ → Type 0
TellsReader regs told rest = a7 regs ≡ 63 → told ≡ Some rest

-- the first n bytes of what the source tells stand from an address on, and all else is as before
pub record IsStored (old : List Area) (addr n : ℕ) (told : Option (List ℕ)) (new : List Area) : Type 0 where
  pub bytes : List ℕ
  pub count : length bytes ≡ n
  pub are : (more : List ℕ) → with_bytes_at new (addr + n) more ≡ with_bytes_at old addr (bytes ++ more)
  pub first : (xs : List ℕ) → told ≡ Some xs → bytes ≡ take n xs

-- of a buffer that may be written, some first bytes are new, and all else is as before
pub record ChangesInBuffer (old : List Area) (addr len : ℕ) (new : List Area) : Type 0 where
  pub bytes : List ℕ
  pub within : length bytes ≤ len
  pub writable : all_permitted writable_of len old addr ≡ true
  pub are : new ≡ with_bytes_at old addr bytes

-- what is told has gone out behind these bytes is a first part of those
pub record SendsPart (before bytes : List ℕ) (written : Option (List ℕ)) : Type 0 where
  pub count : ℕ
  pub are : written ≡ Some (before ++ take count bytes)

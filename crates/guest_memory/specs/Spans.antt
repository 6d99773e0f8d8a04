-- Bytes in a row, which may lie in several areas.
use Rattle.std.specs.Prelude.{ℕ, zero, suc, Bool, true, false, ◌&&◌, List, [], ◌∷◌, ◌++◌, Option, Some, None}
use Rattle.rv64_decode.specs.Area.{Area, area_at, byte_at, with_byte}

abbrev pub permits_in : (Area → Bool) → Option Area → Bool
permits_in permission None = false
permits_in permission (Some a) = permission a

-- the byte lies in an area with this permission
abbrev pub permits : (Area → Bool) → List Area → ℕ → Bool
permits permission m addr = permits_in permission (area_at m addr)

-- each of the n bytes from the address on does
abbrev pub all_permitted : (Area → Bool) → ℕ → List Area → ℕ → Bool
all_permitted permission zero m addr = true
all_permitted permission (suc n) m addr = permits permission m addr && all_permitted permission n m (suc addr)

-- the n bytes from the address on
abbrev pub bytes_at : ℕ → List Area → ℕ → List ℕ
bytes_at zero m addr = []
bytes_at (suc n) m addr = byte_at m addr ∷ bytes_at n m (suc addr)

-- the memory with these bytes from the address on
abbrev pub with_bytes_at : List Area → ℕ → List ℕ → List Area
with_bytes_at m addr [] = m
with_bytes_at m addr (b ∷ rest) = with_bytes_at (with_byte m addr b) (suc addr) rest

-- the bytes of all areas, in address order
abbrev pub all_bytes : List Area → List ℕ
all_bytes [] = []
all_bytes (a ∷ rest) = a.bytes ++ all_bytes rest

-- How areas lie: ascending, apart, and at multiples of 8; and what of them stays.
use Rattle.std.specs.Prelude.{ℕ, ◌≡◌, ◌+◌, ◌%◌, ◌^◌, ◌<◌, ◌≤◌, List, [], ◌∷◌, ◌++◌, length, take, drop, get_or, Bool, false, ◌&&◌, Some}
use Rattle.rv64_decode.specs.Area.{Area, bytes_of, why}
use Rattle.rv64_decode.specs.declared.memory.Width.{Width}
use Rattle.rv64_decode.specs.declared.memory.MemFault.{MemFault}
use Rattle.byteorder.specs.Endian.{little_bytes}

abbrev pub end_of : Area → ℕ
end_of a = a.low + length a.bytes

-- the areas lie from this address on, one after another, and none may be both written and executed
abbrev pub AreasLieFrom : ℕ → List Area → Type 0
AreasLieFrom from [] = Unit {0}
AreasLieFrom from (a ∷ rest) =
    (from ≤ a.low) × (a.low % 8 ≡ 0) × (length a.bytes % 8 ≡ 0) × (end_of a < 2 ^ 63)
    × AreasLieFrom (end_of a) rest
    × ((a.writable && a.executable) ≡ false)

-- no area: what a look past the end gives
abbrev pub no_area : Area
no_area = record { low = 0; readable = false; writable = false; executable = false; bytes = [] }

abbrev pub nth_area : List Area → ℕ → Area
nth_area m i = get_or m i no_area

-- the bytes with n of them, from place k on, replaced by those of the value
abbrev pub with_bytes : ℕ → ℕ → ℕ → List ℕ → List ℕ
with_bytes n k value xs = take k xs ++ (little_bytes n value ++ drop (k + n) xs)

-- the bytes from place k on replaced by others
abbrev pub spliced : ℕ → List ℕ → List ℕ → List ℕ
spliced k new xs = take k xs ++ (new ++ drop (k + length new) xs)

-- the access lies within area i
pub record IsPlace (m : List Area) (i addr : ℕ) (width : Width) : Type 0 where
  pub within : i < length m
  pub aligned : addr % bytes_of width ≡ 0
  pub low : (nth_area m i).low ≤ addr
  pub fits : addr + bytes_of width ≤ end_of (nth_area m i)

-- whatever permission is wanted, the access is refused for this reason
abbrev pub IsRefused : List Area → ℕ → Width → MemFault → Type 0
IsRefused m addr width fault = (permission : Area → Bool) → why permission m addr width ≡ Some fault

-- the areas and their permissions stay, and the bytes of those that may not be written
abbrev pub KeepAreas : List Area → List Area → Type 0
KeepAreas [] [] = Unit {0}
KeepAreas [] (b ∷ new) = ⊥
KeepAreas (a ∷ old) [] = ⊥
KeepAreas (a ∷ old) (b ∷ new) =
    (b.low ≡ a.low) × (b.readable ≡ a.readable) × (b.writable ≡ a.writable) × (b.executable ≡ a.executable)
    × (length b.bytes ≡ length a.bytes) × (a.writable ≡ false → b.bytes ≡ a.bytes) × KeepAreas old new

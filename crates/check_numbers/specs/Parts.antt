-- A number by the two instructions `lui` and `addiw` (the manual's "Integer Register-Immediate Instructions" of RV64I):
-- a multiple of 4096 and a signed number of 12 bits.
use Rattle.std.specs.Prelude.{ℕ, ◌+◌, ◌*◌, ◌/◌, ◌%◌, ◌^◌, ℤ}
use Rattle.std.specs.Int.{w64, cast_unsigned}
use Rattle.rv64_decode.specs.Fields.{signed}

-- the 64 bits of a number
abbrev pub bits : ℤ → ℕ
bits z = cast_unsigned w64 z

-- its low 12 bits, as a signed number
abbrev pub low_part : ℤ → ℤ
low_part v = signed 12 (bits v % 2 ^ 12)

-- what is left, as a signed number of 32 bits
abbrev pub high_part : ℤ → ℤ
high_part v = signed 32 ((bits v + 2 ^ 11) / 2 ^ 12 * 2 ^ 12 % 2 ^ 32)

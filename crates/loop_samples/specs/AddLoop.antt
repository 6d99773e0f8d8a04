-- The loop that adds the numbers of two arrays of 20 and stores the sums in a third:
--    0x100f0  ld    a4, 0(a1)
--    0x100f4  ld    a5, 0(a2)
--    0x100f8  add   a4, a4, a5
--    0x100fc  sd    a4, 0(a0)
--    0x10100  addi  a1, a1, 8
--    0x10104  addi  a2, a2, 8
--    0x10108  addi  a0, a0, 8
--    0x1010c  bne   a1, a3, 0x100f0
use Rattle.std.specs.Prelude.{ℕ, ◌≡◌, ◌+◌, ◌*◌, ◌/◌, ◌%◌, ◌==◌, ◌<◌, ◌↔◌, ◌⊎◌, true, if◌then◌else◌, List, [], ◌∷◌, ◌++◌, pos}
use Rattle.rv64_decode.specs.Area.{Area}
use Rattle.rv64_decode.specs.declared.outcome.Next.TheVariants.{At}
use Rattle.loop_data.specs.declared.shape.Level.{Level}
use Rattle.loop_data.specs.Runs.{State, walk}
use Rattle.loop_data.specs.Turns.{turn, covers, Reads, Writes}
use Rattle.loop_data.specs.Independent.{Role, Keeps, Moves, Private}
use Rattle.loop_samples.specs.Samples.{series, code_area, data_area}

abbrev pub add_loop : Level
add_loop =
    record {
      header = 0x1_00F0;
      body = 0x1_00F0 ∷ 0x1_00F4 ∷ 0x1_00F8 ∷ 0x1_00FC ∷ 0x1_0100 ∷ 0x1_0104 ∷ 0x1_0108 ∷ 0x1_010C ∷ [];
      back = 0x1_010C;
      exit = 0x1_010C;
      depth = 0;
    }

abbrev pub words : List ℕ
words =
    0x0005_B703 ∷ 0x0006_3783 ∷ 0x00F7_0733 ∷ 0x00E5_3023 ∷ 0x0085_8593 ∷ 0x0086_0613 ∷ 0x0085_0513 ∷ 0xFED5_92E3 ∷ []

-- the numbers 0 to 19, their doubles, and room for their sums
abbrev pub areas : List Area
areas = code_area 0x1_00F0 words ∷ data_area 0x2_0000 (series 20 0 1 ++ series 20 0 2 ++ series 20 0 0) ∷ []

-- a0, a1 and a2 are the arrays' addresses, and a3 is the end of the first
abbrev pub arrays : State
arrays =
    record {
      next = At 0x1_00F0;
      regs =
          0 ∷ 0 ∷ 0x7F7F_FFC0 ∷ 0 ∷ 0 ∷ 20 ∷ 38 ∷ 0 ∷ 0 ∷ 160 ∷ 0x2_0140 ∷ 0x2_0000 ∷ 0x2_00A0 ∷ 0x2_00A0 ∷ series 18 0 0;
      memory = areas;
    }

-- the addresses move on by 8, and what is added is loaded anew
abbrev pub add_roles : ℕ → Role
add_roles r =
    if r == 10 then Moves (pos 8) else if r == 11 then Moves (pos 8) else if r == 12 then Moves (pos 8)
    else if r == 14 then Private else if r == 15 then Private else Keeps

-- at each of the first 160 visits: its turn, and its word
abbrev pub AddTurns : Type 0
AddTurns = (n : ℕ) → n < 160 → (turn add_loop arrays n ≡ n / 8) × (walk arrays n ≡ 0x1_00F0 + 4 * (n % 8))

-- turn t loads 8 bytes of each array that is added
abbrev pub AddReads : Type 0
AddReads = (t b : ℕ) → t < 19
    → Reads add_loop arrays t b ↔ ((covers (0x2_0000 + 8 * t) 8 b ≡ true) ⊎ (covers (0x2_00A0 + 8 * t) 8 b ≡ true))

-- and stores 8 bytes of the third
abbrev pub AddWrites : Type 0
AddWrites = (t b : ℕ) → t < 19 → Writes add_loop arrays t b ↔ (covers (0x2_0140 + 8 * t) 8 b ≡ true)

-- A loop that copies each number onto the one before, and so stores over what the turn before has loaded:
--    0x10000  ld    a4, 8(a0)
--    0x10004  sd    a4, 0(a0)
--    0x10008  addi  a0, a0, 8
--    0x1000c  bne   a0, a3, 0x10000
use Rattle.std.specs.Prelude.{ℕ, ◌==◌, if◌then◌else◌, [], ◌∷◌, ◌++◌, pos}
use Rattle.rv64_decode.specs.declared.outcome.Next.TheVariants.{At}
use Rattle.loop_data.specs.declared.shape.Level.{Level}
use Rattle.loop_data.specs.Runs.{State}
use Rattle.loop_data.specs.Independent.{Role, Keeps, Moves, Private}
use Rattle.loop_samples.specs.Samples.{short_loop, series, code_area, data_area}

abbrev pub shift_loop : Level
shift_loop = short_loop

-- five numbers, of which the last is 7
abbrev pub shifting : State
shifting =
    record {
      next = At 0x1_0000;
      regs = series 10 0 0 ++ 0x2_0000 ∷ 0 ∷ 0 ∷ 0x2_0020 ∷ series 18 0 0;
      memory =
          code_area 0x1_0000 (0x0085_3703 ∷ 0x00E5_3023 ∷ 0x0085_0513 ∷ 0xFED5_1AE3 ∷ [])
          ∷ data_area 0x2_0000 (0 ∷ 0 ∷ 0 ∷ 0 ∷ 7 ∷ []) ∷ [];
    }

-- the address moves on by 8, and the number is loaded anew
abbrev pub shift_roles : ℕ → Role
shift_roles r = if r == 10 then Moves (pos 8) else if r == 14 then Private else Keeps

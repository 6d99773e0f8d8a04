-- A loop that sums numbers up, and so needs the sum that the turn before has left:
--    0x10000  ld    a4, 0(a0)
--    0x10004  add   t2, t2, a4
--    0x10008  addi  a0, a0, 8
--    0x1000c  bne   a0, a3, 0x10000
use Rattle.std.specs.Prelude.{[], ◌∷◌, ◌++◌}
use Rattle.rv64_decode.specs.declared.outcome.Next.TheVariants.{At}
use Rattle.loop_data.specs.declared.shape.Level.{Level}
use Rattle.loop_data.specs.Runs.{State}
use Rattle.loop_samples.specs.Samples.{short_loop, series, code_area, data_area}

abbrev pub sum_loop : Level
sum_loop = short_loop

-- four powers of 2
abbrev pub powers : State
powers =
    record {
      next = At 0x1_0000;
      regs = series 10 0 0 ++ 0x2_0000 ∷ 0 ∷ 0 ∷ 0x2_0020 ∷ series 18 0 0;
      memory =
          code_area 0x1_0000 (0x0005_3703 ∷ 0x00E3_83B3 ∷ 0x0085_0513 ∷ 0xFED5_1AE3 ∷ [])
          ∷ data_area 0x2_0000 (1 ∷ 2 ∷ 4 ∷ 8 ∷ []) ∷ [];
    }

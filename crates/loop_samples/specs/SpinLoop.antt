-- A loop whose second word leads to itself for ever:
--    0x10000  addi  x0, x0, 0
--    0x10004  jal   x0, 0x10004
use Rattle.std.specs.Prelude.{[], ◌∷◌}
use Rattle.rv64_decode.specs.declared.outcome.Next.TheVariants.{At}
use Rattle.loop_data.specs.declared.shape.Level.{Level}
use Rattle.loop_data.specs.Runs.{State}
use Rattle.loop_samples.specs.Samples.{series, code_area}

abbrev pub spin_loop : Level
spin_loop =
    record { header = 0x1_0000; body = 0x1_0000 ∷ 0x1_0004 ∷ []; back = 0x1_0004; exit = 0x1_0004; depth = 0 }

abbrev pub spinning : State
spinning =
    record {
      next = At 0x1_0000;
      regs = series 32 0 0;
      memory = code_area 0x1_0000 (0x0000_0013 ∷ 0x0000_006F ∷ []) ∷ [];
    }

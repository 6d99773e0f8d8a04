-- A loop that stores the number of each turn at one address, and loads nothing:
--    0x10000  sd    a1, 0(a0)
--    0x10004  addi  x0, x0, 0
--    0x10008  addi  a1, a1, 1
--    0x1000c  bne   a1, a3, 0x10000
use Rattle.std.specs.Prelude.{ℕ, ◌==◌, if◌then◌else◌, [], ◌∷◌, ◌++◌, pos}
use Rattle.rv64_decode.specs.declared.outcome.Next.TheVariants.{At}
use Rattle.loop_data.specs.declared.shape.Level.{Level}
use Rattle.loop_data.specs.Runs.{State}
use Rattle.loop_data.specs.Independent.{Role, Keeps, Moves}
use Rattle.loop_samples.specs.Samples.{short_loop, series, code_area, data_area}

abbrev pub store_loop : Level
store_loop = short_loop

-- a0 is the address, and there are three turns
abbrev pub storing : State
storing =
    record {
      next = At 0x1_0000;
      regs = series 10 0 0 ++ 0x2_0000 ∷ 0 ∷ 0 ∷ 3 ∷ series 18 0 0;
      memory =
          code_area 0x1_0000 (0x00B5_3023 ∷ 0x0000_0013 ∷ 0x0015_8593 ∷ 0xFED5_9AE3 ∷ [])
          ∷ data_area 0x2_0000 (0 ∷ []) ∷ [];
    }

-- the number moves on by 1
abbrev pub store_roles : ℕ → Role
store_roles r = if r == 11 then Moves (pos 1) else Keeps

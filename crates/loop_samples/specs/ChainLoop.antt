-- A loop that copies each number onto the next, and so loads what the turn before has stored:
--    0x10000  ld    a4, 0(a0)
--    0x10004  sd    a4, 8(a0)
--    0x10008  addi  a0, a0, 8
--    0x1000c  bne   a0, a3, 0x10000
use Rattle.std.specs.Prelude.{ℕ, ◌==◌, if◌then◌else◌, [], ◌∷◌, ◌++◌, pos}
use Rattle.rv64_decode.specs.declared.outcome.Next.TheVariants.{At}
use Rattle.loop_data.specs.declared.shape.Level.{Level}
use Rattle.loop_data.specs.Runs.{State}
use Rattle.loop_data.specs.Independent.{Role, Keeps, Moves, Private}
use Rattle.loop_samples.specs.Samples.{short_loop, series, code_area, data_area}

abbrev pub chain_loop : Level
chain_loop = short_loop

-- five numbers, of which the first is 7
abbrev pub numbers : State
numbers =
    record {
      next = At 0x1_0000;
      regs = series 10 0 0 ++ 0x2_0000 ∷ 0 ∷ 0 ∷ 0x2_0020 ∷ series 18 0 0;
      memory =
          code_area 0x1_0000 (0x0005_3703 ∷ 0x00E5_3423 ∷ 0x0085_0513 ∷ 0xFED5_1AE3 ∷ [])
          ∷ data_area 0x2_0000 (7 ∷ 0 ∷ 0 ∷ 0 ∷ 0 ∷ []) ∷ [];
    }

-- the address moves on by 8, and the number is loaded anew
abbrev pub chain_roles : ℕ → Role
chain_roles r = if r == 10 then Moves (pos 8) else if r == 14 then Private else Keeps

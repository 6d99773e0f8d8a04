-- The copies of the nest with two cells, in a memory whose areas begin and end at multiples of 8:
--    0  xp.get  x7, 0
--    1  xp.get  x10, 1
--    2  addiw   x10, x10, 0
--    3  addi    x7, x7, 1
--    4  xp.put  0, x7
--    5  addi    x6, x0, 0
--    6  addi    x6, x6, 1
--    7  bne     x6, x8, to 6
--    8  addi    x5, x5, 1
--    9  jal     x0, to 10
use Rattle.std.specs.Prelude.{ℕ, ◌-◌, ◌^◌, List, [], ◌∷◌, ◌++◌}
use Rattle.rv64_decode.specs.Fetched.{instr_at}
use Rattle.rv64_decode.specs.Hart.{Hart, address}
use Rattle.loop_data.specs.LoopCode.{LoopCode}
use Rattle.loop_data.specs.Runs.{State}
use Rattle.loop_samples.specs.NestLoop.{two_cells, counting, nest_words}
use Rattle.loop_samples.specs.Samples.{series, code_area, data_area}

-- the state in which the nest begins, with a word behind its code
abbrev pub begun : State
begun =
    record {
      next = counting.next;
      regs = counting.regs;
      memory = code_area 0x1_0000 (nest_words ++ 0x0000_0013 ∷ []) ∷ data_area 0x2_0000 (100 ∷ 0xFFFF_FFFB ∷ []) ∷ [];
    }

-- its words, as they stand in memory
abbrev pub nest_code : LoopCode
nest_code = record { instr = instr_at begun.memory; cells = two_cells }

abbrev pub copied_words : List ℕ
copied_words =
    0x0000_138B ∷ 0x0010_150B ∷ 0x0005_051B ∷ 0x0013_8393 ∷ 0x0003_800B ∷ 0x0000_0313 ∷ 0x0013_0313 ∷ 0xFE83_1EE3
    ∷ 0x0012_8293 ∷ 0x0040_006F ∷ []

-- a hart at the first copy, with the cells in its slots and other values in the private registers
abbrev pub first_hart : Hart
first_hart =
    record {
      pc = address 0;
      regs = 0 ∷ 0 ∷ 0x2_0000 ∷ 0 ∷ 0 ∷ 0 ∷ 66 ∷ 77 ∷ 3 ∷ 4 ∷ 1010 ∷ series 21 0 0;
      slots = 100 ∷ (2 ^ 64 - 5) ∷ series 30 0 0;
      memory = begun.memory;
      log = [];
      number = 0;
      harts = 1;
    }

-- all words of the divided nest from the fork on: the fork at place 0, two locations that move on from 17 on, the
-- copies from 37 on, the words between two turns from 47 on, the join at 55, behind it the cell that is written back
abbrev pub divided_words : List ℕ
divided_words =
    0x0000_200B ∷ 0x0000_528B ∷ 0x0000_630B ∷ 0x0170_138B ∷ 0x0013_8393 ∷ 0x0062_8E33 ∷ 0xFFFE_0E13
    ∷ 0x026E_7E33 ∷ 0x027E_0EB3 ∷ 0x026E_DEB3 ∷ 0x001E_0E13 ∷ 0x027E_0E33 ∷ 0x026E_5E33 ∷ 0x41DE_0E33
    ∷ 0x01CE_000B ∷ 0x000E_1463 ∷ 0x09C0_006F ∷ 0x0100_128B ∷ 0x0000_0337 ∷ 0x0013_031B ∷ 0x03D3_0333
    ∷ 0x0062_82B3 ∷ 0x0102_800B ∷ 0x0000_128B ∷ 0x0000_0337 ∷ 0x0013_031B ∷ 0x03D3_0333 ∷ 0x0062_82B3
    ∷ 0x0002_800B ∷ 0x0100_128B ∷ 0x0110_130B ∷ 0x0120_138B ∷ 0x0130_1E0B ∷ 0x0140_1E8B ∷ 0x0150_1F0B
    ∷ 0x0160_1F8B ∷ 0x0040_006F ∷ 0x0000_138B ∷ 0x0010_150B ∷ 0x0005_051B ∷ 0x0013_8393 ∷ 0x0003_800B
    ∷ 0x0000_0313 ∷ 0x0013_0313 ∷ 0xFE83_1EE3 ∷ 0x0012_8293 ∷ 0x0040_006F ∷ 0x01D2_800B ∷ 0x01C0_128B
    ∷ 0xFFF2_8293 ∷ 0x01C2_800B ∷ 0x0002_8663 ∷ 0x01D0_128B ∷ 0xFC1F_F06F ∷ 0x01D0_128B ∷ 0x0000_300B
    ∷ 0x01D2_800B ∷ 0x0000_128B ∷ 0x0051_3023 ∷ 0x01D0_128B ∷ 0x0000_400B ∷ 0x0100_128B ∷ 0x0110_130B
    ∷ 0x0120_138B ∷ 0x0130_1E0B ∷ 0x0140_1E8B ∷ 0x0150_1F0B ∷ 0x0160_1F8B ∷ 0x0000_400B ∷ []

-- the first of two harts behind the fork: the registers that added code works with hold anything, and their entry
-- values stand in slots 16 to 22; slot 23 has the number of turns less 1
abbrev pub forked_hart : Hart
forked_hart =
    record {
      pc = address 1;
      regs = 0 ∷ 0 ∷ 0x2_0000 ∷ 0 ∷ 0 ∷ 55 ∷ 66 ∷ 77 ∷ 3 ∷ 4 ∷ series 18 0 0 ++ (88 ∷ 99 ∷ 11 ∷ 22 ∷ []);
      slots = 100 ∷ (2 ^ 64 - 5) ∷ series 21 0 0 ++ (2 ∷ series 8 0 0);
      memory = begun.memory;
      log = [];
      number = 0;
      harts = 2;
    }

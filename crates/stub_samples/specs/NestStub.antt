-- The whole added code of the nest with two cells, which goes round 20 times here: registers are saved at place 0, the
-- words of its check follow from place 7 on, the fork is at place 99, and where the check fails the code goes on at
-- place 160.
use Rattle.std.specs.Prelude.{List, ℕ, [], ◌∷◌, ◌++◌}
use Rattle.rv64_decode.specs.Hart.{Hart, address}
use Rattle.loop_data.specs.Runs.{State}
use Rattle.loop_samples.specs.Checked.{nest_check, counting_at}
use Rattle.loop_samples.specs.NestLoop.{counting}
use Rattle.loop_samples.specs.Samples.{series}
use Rattle.alias_checks.specs.declared.lists.Check.{Check}
use Rattle.copy_samples.specs.NestCopies.{begun, divided_words}

-- the state in which the nest begins
abbrev pub rounds : State
rounds = record { next = counting.next; regs = counting_at 0x2_0000 20; memory = begun.memory }

-- its check, in the memory of the sample: code that may be read, and data that may be written too
abbrev pub round_check : Check
round_check = record nest_check { areas = (0x1_0000, 0x1_0028, 5) ∷ (0x2_0000, 0x2_0010, 6) ∷ [] }

-- the words that save registers
abbrev pub save_words : List ℕ
save_words =
    0x0102_800B ∷ 0x0113_000B ∷ 0x0123_800B ∷ 0x013E_000B ∷ 0x014E_800B ∷ 0x015F_000B ∷ 0x016F_800B ∷ []

-- those of the check, as they are counted by hand: two cells, the turns of the nest, and the passes of its inner loop
abbrev pub check_words : List ℕ
check_words =
    0x0001_0293 ∷ 0x0002_8293 ∷ 0x0072_F313 ∷ 0x0003_0463 ∷ 0x0000_006F ∷ 0x01F2_D313 ∷ 0x0003_0463
    ∷ 0x0000_006F ∷ 0x0082_8313 ∷ 0x0002_03B7 ∷ 0x0003_839B ∷ 0x0072_C863 ∷ 0x0002_03B7 ∷ 0x0103_839B
    ∷ 0x0063_D463 ∷ 0x0000_006F ∷ 0x0002_B303 ∷ 0x0003_000B ∷ 0x0001_0293 ∷ 0x0082_8293 ∷ 0x0032_F313
    ∷ 0x0003_0463 ∷ 0x0000_006F ∷ 0x01F2_D313 ∷ 0x0003_0463 ∷ 0x0000_006F ∷ 0x0042_8313 ∷ 0x0001_03B7
    ∷ 0x0003_839B ∷ 0x0072_C863 ∷ 0x0001_03B7 ∷ 0x0283_839B ∷ 0x0263_D063 ∷ 0x0002_03B7 ∷ 0x0003_839B
    ∷ 0x0072_C863 ∷ 0x0002_03B7 ∷ 0x0103_839B ∷ 0x0063_D463 ∷ 0x0000_006F ∷ 0x0002_A303 ∷ 0x0013_000B
    ∷ 0x0000_02B7 ∷ 0x0012_829B ∷ 0x0100_1F8B ∷ 0x0000_0F37 ∷ 0x001F_0F1B ∷ 0x03EF_8FB3 ∷ 0x01F2_82B3
    ∷ 0x0004_8F93 ∷ 0x0000_0F37 ∷ 0xFFFF_0F1B ∷ 0x03EF_8FB3 ∷ 0x01F2_82B3 ∷ 0x0000_0337 ∷ 0x0013_031B
    ∷ 0x4050_02B3 ∷ 0x0262_E3B3 ∷ 0x0003_8463 ∷ 0x0000_006F ∷ 0x0262_C2B3 ∷ 0x0002_D463 ∷ 0x0000_006F
    ∷ 0x0100_0313 ∷ 0x0062_D463 ∷ 0x0000_006F ∷ 0x0010_0313 ∷ 0x01F3_1313 ∷ 0x0053_5463 ∷ 0x0000_006F
    ∷ 0xFFF2_8293 ∷ 0x0172_800B ∷ 0x0000_02B7 ∷ 0x0012_829B ∷ 0x0004_0F93 ∷ 0x0000_0F37 ∷ 0xFFFF_0F1B
    ∷ 0x03EF_8FB3 ∷ 0x01F2_82B3 ∷ 0x0000_0337 ∷ 0x0013_031B ∷ 0x4050_02B3 ∷ 0x0262_E3B3 ∷ 0x0003_8463
    ∷ 0x0000_006F ∷ 0x0262_C2B3 ∷ 0x0002_D463 ∷ 0x0000_006F ∷ 0x01F2_D313 ∷ 0x0003_0463 ∷ 0x0000_006F
    ∷ 0x0182_800B ∷ []

-- the same, with the jumps aimed at where the check fails
abbrev pub aimed_words : List ℕ
aimed_words =
    0x0001_0293 ∷ 0x0002_8293 ∷ 0x0072_F313 ∷ 0x0003_0463 ∷ 0x2540_006F ∷ 0x01F2_D313 ∷ 0x0003_0463
    ∷ 0x2480_006F ∷ 0x0082_8313 ∷ 0x0002_03B7 ∷ 0x0003_839B ∷ 0x0072_C863 ∷ 0x0002_03B7 ∷ 0x0103_839B
    ∷ 0x0063_D463 ∷ 0x2280_006F ∷ 0x0002_B303 ∷ 0x0003_000B ∷ 0x0001_0293 ∷ 0x0082_8293 ∷ 0x0032_F313
    ∷ 0x0003_0463 ∷ 0x20C0_006F ∷ 0x01F2_D313 ∷ 0x0003_0463 ∷ 0x2000_006F ∷ 0x0042_8313 ∷ 0x0001_03B7
    ∷ 0x0003_839B ∷ 0x0072_C863 ∷ 0x0001_03B7 ∷ 0x0283_839B ∷ 0x0263_D063 ∷ 0x0002_03B7 ∷ 0x0003_839B
    ∷ 0x0072_C863 ∷ 0x0002_03B7 ∷ 0x0103_839B ∷ 0x0063_D463 ∷ 0x1C80_006F ∷ 0x0002_A303 ∷ 0x0013_000B
    ∷ 0x0000_02B7 ∷ 0x0012_829B ∷ 0x0100_1F8B ∷ 0x0000_0F37 ∷ 0x001F_0F1B ∷ 0x03EF_8FB3 ∷ 0x01F2_82B3
    ∷ 0x0004_8F93 ∷ 0x0000_0F37 ∷ 0xFFFF_0F1B ∷ 0x03EF_8FB3 ∷ 0x01F2_82B3 ∷ 0x0000_0337 ∷ 0x0013_031B
    ∷ 0x4050_02B3 ∷ 0x0262_E3B3 ∷ 0x0003_8463 ∷ 0x1780_006F ∷ 0x0262_C2B3 ∷ 0x0002_D463 ∷ 0x16C0_006F
    ∷ 0x0100_0313 ∷ 0x0062_D463 ∷ 0x1600_006F ∷ 0x0010_0313 ∷ 0x01F3_1313 ∷ 0x0053_5463 ∷ 0x1500_006F
    ∷ 0xFFF2_8293 ∷ 0x0172_800B ∷ 0x0000_02B7 ∷ 0x0012_829B ∷ 0x0004_0F93 ∷ 0x0000_0F37 ∷ 0xFFFF_0F1B
    ∷ 0x03EF_8FB3 ∷ 0x01F2_82B3 ∷ 0x0000_0337 ∷ 0x0013_031B ∷ 0x4050_02B3 ∷ 0x0262_E3B3 ∷ 0x0003_8463
    ∷ 0x1140_006F ∷ 0x0262_C2B3 ∷ 0x0002_D463 ∷ 0x1080_006F ∷ 0x01F2_D313 ∷ 0x0003_0463 ∷ 0x0FC0_006F
    ∷ 0x0182_800B ∷ []

abbrev pub stub_words : List ℕ
stub_words = save_words ++ (aimed_words ++ divided_words)

-- the only hart, at the first word
abbrev pub entering : Hart
entering =
    record {
      pc = address 0;
      regs = rounds.regs;
      slots = series 32 0 0;
      memory = rounds.memory;
      log = [];
      number = 0;
      harts = 1;
    }

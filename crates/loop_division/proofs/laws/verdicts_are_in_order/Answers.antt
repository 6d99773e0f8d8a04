use Rattle.loop_division.proofs.AllVerdicts.{headers_rise, few_loops}
use Rattle.loop_division.proofs.laws.verdicts_are_in_order.Goals as goal

pub returns : goal.returns
returns c elf G shapes all loadable verdicts =
    record {
      ascending = headers_rise elf G shapes all verdicts;
      few = few_loops c.reached_words.ensures.code elf G shapes all loadable verdicts;
    }

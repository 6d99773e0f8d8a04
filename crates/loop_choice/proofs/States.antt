-- A state at a loop has the loop's words in memory.
use Rattle.std.proofs.Common.{Some, sym, ◌∙◌}
use Rattle.loop_data.specs.LoopWords.{IsLoopWord}
use Rattle.loop_data.proofs.NestVisits.{found_instr}
use Rattle.loop_choice.specs.States.{ProgramLaw}
use Rattle.loop_choice.proofs.RunAreas.{state_lie, code_stays, whole_areas}

pub program_law : ProgramLaw
program_law elf G shape C nest s load graph at =
    record {
      words = λ u h.
          let w : IsLoopWord G u = nest.words u h in
          code_stays elf G load graph s at.at.areas u 0 (Some w.instr) w.means ∙ sym (found_instr G u (Some w.instr) graph.ordered w.means);
      whole = whole_areas 0 s.memory (state_lie elf G load graph s at.at.areas);
    }

use Rattle.one_hart.proofs.Whole.{ending_law, step_law}
use Rattle.one_hart.proofs.one_hart_runs_the_executable.Goals as goal

pub returns : goal.returns
returns c = record {
  ending = ending_law c.the_only_hart_executes_added_code.ensures c.entries_lead_to_later_arrivals.ensures c.serial_states_are_whole.ensures;
  steps = step_law c.the_only_hart_executes_added_code.ensures c.entries_lead_to_later_arrivals.ensures c.serial_states_are_whole.ensures;
}

use Rattle.stack_slots.proofs.OneList.{one_list}
use Rattle.stack_slots.proofs.laws.one_list_of_cells.Goals as goal

pub returns : goal.returns
returns c = one_list

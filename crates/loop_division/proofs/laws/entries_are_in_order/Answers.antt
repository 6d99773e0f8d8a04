use Rattle.loop_division.proofs.Ascending.{order_law}
use Rattle.loop_division.proofs.laws.entries_are_in_order.Goals as goal

pub returns : goal.returns
returns c = order_law

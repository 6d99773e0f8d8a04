use Rattle.std.proofs.Common.{ℕ}
use Rattle.loop_data.specs.Flows.{rows, IsMarked, IsRowRank, AreSetBelow}
use Rattle.loop_data.proofs.flow.order_of.Given as goal

abbrev pub invariant-loop : goal.invariant-loop
invariant-loop l = IsMarked (rows l.sources) l.flags.items l.order.items × ((rank : ℕ → ℕ) → IsRowRank (rows l.sources) rank → AreSetBelow (rows l.sources) rank l.counter l.flags.items)

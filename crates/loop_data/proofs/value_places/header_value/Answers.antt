use Rattle.std.proofs.Common.{◌-◌, subst, ◌<◌, ◌≤◌, arith}
use Rattle.loop_data.proofs.NamedFacts.{header_of_cell}
use Rattle.loop_data.proofs.ValueFills.{header_of_none}
use Rattle.loop_data.proofs.value_places.header_value.Goals as goal

pub returns-then-r-len : goal.returns-then-r-len
returns-then-r-len c = header_of_cell c.args.cells.now c.args.r (omega arith) c.requires (subst (λ n. c.args.r - 32 < n) c.len.ensures.value c.if-r-len.true)

pub returns-else-r-len : goal.returns-else-r-len
returns-else-r-len c = header_of_none c.args.cells.now c.args.r (omega arith) (subst (λ n. n ≤ c.args.r - 32) c.len.ensures.value (omega arith))

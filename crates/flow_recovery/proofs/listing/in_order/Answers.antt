use Rattle.std.proofs.Common.{◌∙◌, subst}
use Rattle.std.specs.List.Sorted.{IsPermutation}
use Rattle.flow_recovery.proofs.Listed.{increasing, same_members}
use Rattle.flow_recovery.proofs.listing.in_order.Goals as goal

-- the addresses found, as they are sorted
moved : (c : goal.After-sort_unstable) → IsPermutation c.args.found.now.keys c.sort_unstable.new.self.items
moved c = subst (λ xs. IsPermutation xs c.sort_unstable.new.self.items) (c.in_ok-sorted.ensures.items ∙ c.as_slice.ensures.keys) c.sort_unstable.ensures.permutation

pub returns-clause-order : goal.returns-clause-order
returns-clause-order c = increasing c.args.found.now.keys c.sort_unstable.new.self.items c.as_slice.ensures.unique (moved c) c.sort_unstable.ensures.sorted

pub returns-clause-each : goal.returns-clause-each
returns-clause-each c = same_members c.args.found.now.keys c.sort_unstable.new.self.items (moved c)

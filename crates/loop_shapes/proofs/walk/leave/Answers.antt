use Rattle.std.proofs.Common.{option_to_list, ◌∙◌}
use Rattle.std.proofs.lemmas.Result.{on_ok_weaker}
use Rattle.loop_shapes.proofs.Walking.{below_front}
use Rattle.loop_shapes.proofs.walk.leave.Goals as goal

pub returns-then-has-clause-walk : goal.returns-then-has-clause-walk
returns-then-has-clause-walk c = record { stack = below_front c.args.count c.args.walk.now.stack.items c.pop.new.self.items (option_to_list c.pop.result) c.pop.ensures.items c.requires.walk.stack; entered = c.requires.walk.entered; left = c.requires.walk.left }

pub returns-clause-walk : goal.returns-clause-walk
returns-clause-walk c = on_ok_weaker c.add.result (λ set. record { stack = below_front c.args.count c.args.walk.now.stack.items c.pop.new.self.items (option_to_list c.pop.result) c.pop.ensures.items c.requires.walk.stack; entered = c.requires.walk.entered; left = record { count = set.count ∙ c.requires.walk.left.count; indexed = set.indexed } }) c.add.ensures.set

use Rattle.distance_vectors.proofs.Sums.{product_is, product_range}
use Rattle.distance_vectors.proofs.meeting.advance.Goals as goal

pub returns-clause-value : goal.returns-clause-value
returns-clause-value c = product_is c.args.stride c.args.entry c.ranges.stride c.ranges.entry c.requires.stride c.requires.entry

pub returns-clause-range : goal.returns-clause-range
returns-clause-range c = product_range c.args.stride c.args.entry c.ranges.stride c.ranges.entry c.requires.stride c.requires.entry

use Rattle.induction.proofs.FirstReads.{bit_others}
use Rattle.induction.proofs.reads.with_others.Goals as goal

pub returns : goal.returns
returns c r l = bit_others c.args.mask c.args.others c.args.without r c.ranges.without.fits l

use Rattle.std.proofs.Common.{arith}
use Rattle.induction.proofs.MaskBits.{bit_with}
use Rattle.induction.proofs.masks.with_location.Goals as goal

pub returns : goal.returns
returns c r l = bit_with c.args.mask c.args.location r c.if-location-eq0.false (omega arith) l

use Rattle.std.proofs.Common.{refl, add-one, arith, ◌<◌, replicate}
use Rattle.rv64_decode.specs.Registers.{register}
use Rattle.alias_checks.proofs.Filled.{all_zero, filled_none, filled_more}
use Rattle.alias_checks.proofs.entry.register_values.Goals as goal

pub loop-r-init : goal.loop-r-init
loop-r-init c = filled_none (register c.args.regs.now) (replicate 48 0) refl (all_zero (replicate 48 0) refl)

pub loop-r-preserved : goal.loop-r-preserved
loop-r-preserved c =
    let h : c.loop-r.r < 48 = omega arith in
    rw add-one
    (filled_more (register c.args.regs.now) c.loop-r.r c.loop-r.values c.register.result h c.register.ensures
    c.loop-r.invariant)

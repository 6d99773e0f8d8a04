use Rattle.std.proofs.Common.{◌≡◌, ◌+◌, ◌<◌, ◌∙◌, suc, length, arith, None, false, pos, subst}
use Rattle.loop_data.specs.declared.verdict.Cell.{Cell}
use Rattle.alias_checks.specs.Entry.{entry_value, IsFilled}
use Rattle.alias_checks.proofs.Filled.{filled_more, registers_first, cell_next, all_filled}
use Rattle.alias_checks.proofs.entry.entry_values.Goals as goal

pub loop-k-init : goal.loop-k-init
loop-k-init c = registers_first c.args.cells.now c.args.regs.now c.args.mem.now _ c.register_values-values.ensures

pub loop-k-preserved : goal.loop-k-preserved
loop-k-preserved c =
    let f = entry_value c.args.cells.now c.args.regs.now c.args.mem.now in
    let d : Cell = record { base = None; offset = pos 0; wide = false; stored = false } in
    let e = c.content.ensures ∙ cell_next c.args.cells.now c.args.regs.now c.args.mem.now c.loop-k.k d c.loop-k-test.true in
    let h : 32 + c.loop-k.k < 48 = omega arith in
    let n : 32 + (c.loop-k.k + 1) ≡ suc (32 + c.loop-k.k) = omega arith in
    rw n (filled_more f (32 + c.loop-k.k) c.loop-k.values c.content.result h e c.loop-k.invariant)

pub returns : goal.returns
returns c =
    let n : 32 + c.loop-k.k ≡ 32 + length c.args.cells.now = omega arith in
    let f = entry_value c.args.cells.now c.args.regs.now c.args.mem.now in
    all_filled c.args.cells.now c.args.regs.now c.args.mem.now c.loop-k.values
    (subst (λ n. IsFilled f n c.loop-k.values) n c.loop-k.invariant)

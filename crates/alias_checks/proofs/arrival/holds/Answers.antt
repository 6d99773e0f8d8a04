use Rattle.std.proofs.Common.{◌∙◌, ap, sym, subst, List}
use Rattle.std.specs.List.{All}
use Rattle.loop_data.specs.declared.verdict.Cell.{Cell}
use Rattle.alias_checks.specs.Entry.{IsReadable, entry}
use Rattle.alias_checks.proofs.Bounded.{no_answer, the_answer, readable_by_bounds, pass_is}
use Rattle.alias_checks.proofs.arrival.holds.Goals as goal

pub returns-then-not-cells_pass : goal.returns-then-not-cells_pass
returns-then-not-cells_pass c =
    no_answer c.args.check.now c.args.regs.now c.args.mem.now c.requires.areas
    (pass_is c.args.check.now c.args.regs.now _ _ _ _ c.as_slice.ensures c.as_slice-cells.ensures.value
    c.cells_pass.ensures.pass c.if-not-cells_pass.true)

pub entry_values-entry-requires-clause-readable : goal.entry_values-entry-requires-clause-readable
entry_values-entry-requires-clause-readable c =
    let p =
    pass_is c.args.check.now c.args.regs.now _ _ _ _ c.as_slice.ensures c.as_slice-cells.ensures.value
    c.cells_pass.ensures.pass c.if-not-cells_pass.false in
    let a =
    readable_by_bounds c.args.check.now c.args.regs.now c.args.mem.now c.lies.ensures c.requires.areas p
    c.requires.registers in
    subst (λ (cells : List Cell). All (IsReadable c.args.regs.now c.args.mem.now) cells)
    (sym c.as_slice-cells.ensures.value) a

pub returns : goal.returns
returns c =
    let p =
    pass_is c.args.check.now c.args.regs.now _ _ _ _ c.as_slice.ensures c.as_slice-cells.ensures.value
    c.cells_pass.ensures.pass c.if-not-cells_pass.false in
    let q =
    c.entry_values-entry.ensures
    ∙ ap (λ (cells : List Cell). entry cells c.args.regs.now c.args.mem.now) c.as_slice-cells.ensures.value in
    c.turns_that_pass.ensures ∙ the_answer c.args.check.now c.args.regs.now c.args.mem.now _ c.requires.areas p q

pub turns_that_pass-requires-clause-pairs : goal.turns_that_pass-requires-clause-pairs
turns_that_pass-requires-clause-pairs c =
    λ k d h.
    let p = c.requires.pairs.each k d h in record { first = p.first; second = p.second; sized = p.sized }

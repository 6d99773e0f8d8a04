use Rattle.std.proofs.Common.{◌∙◌}
use Rattle.stack_slots.proofs.Limits.{limits_are, all_firsts}
use Rattle.stack_slots.proofs.faults.limit_of.Goals as goal

pub returns-clause-limit : goal.returns-clause-limit
returns-clause-limit c =
    limits_are c.args.words.now c.args.firsts.now c.as_slice.result.now c.as_slice-2.result.now c.far_limit-far.result c.limit_past-cells.result c.limit_past-accesses.result c.limit_past-duties.result c.or.result c.or-2.result c.or-3.result
    c.requires.firsts (c.as_slice.ensures.value ∙ c.in_ok-others.ensures) (c.as_slice-2.ensures.value ∙ c.in_ok-owing.ensures)
    c.far_limit-far.ensures c.limit_past-cells.ensures.limit c.limit_past-accesses.ensures.limit c.limit_past-duties.ensures.limit c.or.ensures c.or-2.ensures c.or-3.ensures

pub returns-clause-whole : goal.returns-clause-whole
returns-clause-whole c =
    all_firsts c.args.words.now c.args.firsts.now c.far_limit-far.result c.limit_past-cells.result c.or.result c.or-2.result c.or-3.result
    c.requires.firsts c.limit_past-cells.ensures.few c.or-2.ensures c.or-3.ensures

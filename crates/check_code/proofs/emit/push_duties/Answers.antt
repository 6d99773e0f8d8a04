use Rattle.linear_forms.specs.Forms.{IsForm}
use Rattle.loop_data.specs.declared.equations.Duty.{Duty}
use Rattle.check_code.specs.DutyCode.{duty_code}
use Rattle.check_code.proofs.Emitted.{map_item, map_end, item_further}
use Rattle.check_code.proofs.emit.push_duties.Goals as goal

pub loop-duty-preserved : goal.loop-duty-preserved
loop-duty-preserved c = record {
  words = λ fin h. c.loop-duty.invariant.words fin (map_item duty_code _ _ fin c.args.duties.now c.loop-duty.duty-index c.duty-item.result c.loop-duty-test.true c.duty-item.is c.in_ok-push_duty.ensures h);
  forms = item_further (λ (d : Duty). IsForm d.form) c.args.duties.now c.loop-duty.duty-index c.duty-item.result c.loop-duty-test.true c.loop-duty.invariant.forms c.duty-item.is c.keeps_limits.ensures;
}

pub returns-clause-words : goal.returns-clause-words
returns-clause-words c = c.loop-duty.invariant.words _ (map_end duty_code _ c.args.duties.now c.loop-duty.duty-index c.loop-duty-test.false)

use Rattle.linear_forms.specs.Forms.{IsForm}
use Rattle.loop_data.specs.declared.accesses.Access.{Access}
use Rattle.check_code.specs.AccessCode.{access_code}
use Rattle.check_code.proofs.Emitted.{map_item, map_end, item_further}
use Rattle.check_code.proofs.emit.push_accesses.Goals as goal

pub loop-access-preserved : goal.loop-access-preserved
loop-access-preserved c = record {
  words = λ fin h. c.loop-access.invariant.words fin (map_item (access_code c.args.areas.now) _ _ fin c.args.accesses.now c.loop-access.access-index c.access-item.result c.loop-access-test.true c.access-item.is c.in_ok-push_access.ensures h);
  forms = item_further (λ (a : Access). IsForm a.form) c.args.accesses.now c.loop-access.access-index c.access-item.result c.loop-access-test.true c.loop-access.invariant.forms c.access-item.is c.keeps_limits.ensures;
}

pub returns-clause-words : goal.returns-clause-words
returns-clause-words c = c.loop-access.invariant.words _ (map_end (access_code c.args.areas.now) _ c.args.accesses.now c.loop-access.access-index c.loop-access-test.false)

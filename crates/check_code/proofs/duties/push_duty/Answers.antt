use Rattle.check_code.proofs.DutyAppends.{test_words}
use Rattle.check_code.proofs.duties.push_duty.Goals as goal

pub returns : goal.returns
returns c =
    test_words _ _ _ _ _ _ c.args.duty.now.form c.args.duty.now.around c.own_form-own.result c.own_slots-slots.result c.new.result
    c.new-2.result c.own_form-own.ensures c.own_slots-slots.ensures.value c.new.ensures c.new-2.ensures
    c.in_ok-form.ensures c.in_ok-push_short.ensures c.in_ok-push_low.ensures c.in_ok-push_high.ensures c.in_ok-push_shorts.ensures

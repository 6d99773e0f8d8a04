use Rattle.check_code.proofs.TripAppends.{order_words}
use Rattle.check_code.proofs.turns.push_order.Goals as goal

pub returns : goal.returns
returns c =
    order_words _ _ _ _ _ _ _ _ c.args.signed c.args.strict c.args.up c.args.f.now c.args.g.now c.args.size _ _ _ _ _
    c.branch_of-op.ensures c.operands-first.ensures.first c.operands-first.ensures.second c.operands-first-2.ensures.first
    c.operands-first-2.ensures.second
    c.in_ok-form.ensures c.in_ok-form-2.ensures c.in_ok-push_immediate.ensures c.in_ok-push_over.ensures c.in_ok-push_count.ensures c.in_ok-need.ensures
    c.in_ok-push_immediate-2.ensures

use Rattle.std.proofs.Common.{arith}
use Rattle.loop_data.proofs.SameTerms.{terms_at}
use Rattle.loop_data.proofs.same_forms.are_same_terms.Goals as goal

pub returns-then-not-is_same_term : goal.returns-then-not-is_same_term
returns-then-not-is_same_term c =
    let l = c.loop-i-test.true in
    let n = c.if-ts-us.false in
    (λ t. absurd (cc), λ e. c.if-not-is_same_term.ensures.1 (terms_at c.args.ts.now c.args.us.now c.loop-i.i _ _ l (omega arith) e))

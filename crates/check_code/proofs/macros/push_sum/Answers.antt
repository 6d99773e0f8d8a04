use Rattle.std.proofs.Common.{refl, []}
use Rattle.linear_forms.specs.Locations.{term_of, terms_of}
use Rattle.check_code.specs.Macros.{term_code, sum_code}
use Rattle.stub_laws.proofs.Appends.{one_turn, last_turn, no_word}
use Rattle.check_code.proofs.macros.push_sum.Goals as goal

pub loop-term-preserved : goal.loop-term-preserved
loop-term-preserved c = λ fin h.
    c.loop-term.invariant fin (one_turn (λ x xs. term_code c.args.r (term_of x)) (λ l. sum_code c.args.r (terms_of l)) (λ x xs. refl) _ _ fin c.args.terms.now c.loop-term.term-index _ c.loop-term-test.true c.in_ok-push_term.ensures h)

pub returns : goal.returns
returns c = c.loop-term.invariant _ (last_turn (λ l. sum_code c.args.r (terms_of l)) [] refl _ _ c.args.terms.now c.loop-term.term-index c.loop-term-test.false (no_word _))

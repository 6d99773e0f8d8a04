use Rattle.std.proofs.Common.{refl, arith, rules}
use Rattle.hart_core.proofs.Parts.{past_acts, past_effective}
use Rattle.hart_core.proofs.harts.Harts.event.Goals as goal

pub returns-then-k-len-clause-acts : goal.returns-then-k-len-clause-acts
returns-then-k-len-clause-acts g c = λ none.
    past_acts c.args.hart c.args.self.now _ c.self.view_is (omega arith) c.in_default.is _ _ _ _

pub returns-then-k-len-clause-idle : goal.returns-then-k-len-clause-idle
returns-then-k-len-clause-idle g c =
    (λ e. (search rules, past_effective c.args.hart c.args.self.now _ c.self.view_is (omega arith)), λ e. refl)

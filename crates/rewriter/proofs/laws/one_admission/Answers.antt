use Rattle.rewriter.proofs.OneAnswer.{one_admission}
use Rattle.rewriter.proofs.laws.one_admission.Goals as goal

pub returns : goal.returns
returns c bytes = one_admission
    (record { one = c.one_division.ensures.one; apart = c.one_division.ensures.apart; refusal = c.one_division.ensures.refusal })
    bytes

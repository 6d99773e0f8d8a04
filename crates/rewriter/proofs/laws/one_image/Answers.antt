use Rattle.rewriter.proofs.OneAnswer.{one_rewriting}
use Rattle.rewriter.proofs.laws.one_image.Goals as goal

pub returns : goal.returns
returns c original = one_rewriting
    (record { one = c.one_division.ensures.one; apart = c.one_division.ensures.apart; refusal = c.one_division.ensures.refusal })
    original

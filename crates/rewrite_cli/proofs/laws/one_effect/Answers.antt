use Rattle.rewrite_cli.proofs.OneEffect.{one_effect}
use Rattle.rewrite_cli.proofs.laws.one_effect.Goals as goal

pub returns : goal.returns
returns c = one_effect
    (record {
      verdicts = c.one_division.ensures.verdicts;
      refusal = c.one_division.ensures.refusal;
      choice = c.one_choice.ensures;
      rewriting = c.one_image.ensures;
      admission = c.one_admission.ensures;
    })

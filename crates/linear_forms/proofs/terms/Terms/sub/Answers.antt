use Rattle.std.proofs.Common.{◌∙◌, sym}
use Rattle.linear_forms.specs.Locations.{terms_of}
use Rattle.linear_forms.proofs.Limits.{negative_limited}
use Rattle.linear_forms.proofs.terms.Terms.sub.Goals as goal

pub returns-in_err-negative : goal.returns-in_err-negative
returns-in_err-negative c =
    let e = negative_limited (terms_of c.as_slice.result.now) c.as_slice.ensures.terms.terms.limited in
    let h = sym e ∙ c.in_err-negative.ensures in
    absurd (cc)

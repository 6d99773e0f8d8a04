use Rattle.std.proofs.Common.{drop}
use Rattle.linear_forms.specs.Forms.{scaled_terms}
use Rattle.linear_forms.specs.Locations.{terms_of}
use Rattle.linear_forms.specs.Merging.{IsBuilt}
use Rattle.linear_forms.proofs.terms.multiply.Given as goal

abbrev pub invariant-loop-term : goal.invariant-loop-term
invariant-loop-term l = IsBuilt l.list.items (scaled_terms l.fn.by (terms_of (drop l.term-index l.terms))) (scaled_terms l.fn.by (terms_of l.terms))

use Rattle.linear_forms.specs.Forms.{integers}
use Rattle.linear_forms.proofs.Values.{IsWeighed}
use Rattle.linear_forms.proofs.form.weigh.Given as goal

abbrev pub invariant-loop-term : goal.invariant-loop-term
invariant-loop-term l = IsWeighed l.sum (integers l.entry) l.terms l.term-index

use Rattle.std.proofs.Common.{ℕ, List, drop}
use Rattle.linear_forms.specs.Locations.{terms_of}
use Rattle.stub_laws.specs.Code.{Appended}
use Rattle.check_code.specs.Macros.{sum_code}
use Rattle.check_code.proofs.macros.push_sum.Given as goal

-- what completes the words so far completes those at the start
abbrev pub invariant-loop-term : goal.invariant-loop-term
invariant-loop-term l = (fin : List ℕ) → Appended l.code.items fin (sum_code l.r (terms_of (drop l.term-index l.terms))) → Appended l.initial.code.items fin (sum_code l.r (terms_of l.terms))

-- Two accesses have one term.
use Rattle.std.specs.Prelude.{◌≡◌}
use Rattle.loop_data.specs.declared.accesses.Access.{Access}
use Rattle.loop_data.specs.declared.plans.Term.{Term}
use Rattle.dependence_tests.specs.Terms.{IsTermOf}

abbrev pub OneTermLaw : Type 0
OneTermLaw = (a b : Access) (s t : Term) → IsTermOf a b s → IsTermOf a b t → s ≡ t

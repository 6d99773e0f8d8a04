-- Arrays of a plan and a check that are as long as the kinds of entries that they keep.
use Rattle.std.specs.Prelude.{◌≡◌, length}
use Rattle.std.specs.List.{All}
use Rattle.loop_data.specs.declared.accesses.Access.{Access}
use Rattle.loop_data.specs.declared.equations.Duty.{Duty}
use Rattle.loop_data.specs.declared.plans.Plan.{Plan}
use Rattle.alias_checks.specs.declared.lists.Check.{Check}
use Rattle.induction.specs.OneClass.{HasAllRows}

-- there is an entry for each location of each loop, and a place for each depth in each duty and each access
pub record HasAllEntries (plan : Plan) (check : Check) : Type 0 where
  pub classes : HasAllRows plan.classes
  pub duties : All (λ (d : Duty). length d.around ≡ 3) check.duties
  pub accesses : All (λ (a : Access). length a.around ≡ 3) check.accesses.list.items

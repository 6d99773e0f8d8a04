use Rattle.loop_choice.proofs.OnePlan.{one_plan_and_check}
use Rattle.loop_choice.proofs.laws.one_plan.Goals as goal

pub returns : goal.returns
returns c =
    one_plan_and_check
    (record {
      cells = c.one_list_of_cells.ensures;
      class = c.one_class.ensures.root;
      inner = c.one_class.ensures.inner;
      classes = c.one_class.ensures.all;
      form = c.one_result.ensures.form;
      duties = c.one_result.ensures.duties;
      trip = c.one_trip.ensures;
      list = c.one_list_of_accesses.ensures.kept;
      pairs = c.one_list_of_pairs.ensures;
    })
    c.nests.ensures

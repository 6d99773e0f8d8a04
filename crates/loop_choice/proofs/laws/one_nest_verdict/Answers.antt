use Rattle.loop_choice.proofs.OneVerdict.{one_nest_verdict}
use Rattle.loop_choice.proofs.laws.one_nest_verdict.Goals as goal

pub returns : goal.returns
returns c =
    one_nest_verdict
    (record {
      cells = c.one_list_of_cells.ensures;
      class = c.one_class.ensures.root;
      inner = c.one_class.ensures.inner;
      carried = c.one_class.ensures.carried;
      none_carried = c.one_class.ensures.none;
      form = c.one_result.ensures.form;
      unconfirmed = c.one_result.ensures.unconfirmed;
      trip = c.one_trip.ensures;
      list = c.one_list_of_accesses.ensures.list;
      irregular = c.one_list_of_accesses.ensures.irregular;
      none_irregular = c.one_list_of_accesses.ensures.none;
      distance = c.one_distance.ensures;
    })

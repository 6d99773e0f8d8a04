use Rattle.walks.proofs.Walking.{walk_law, end_law}
use Rattle.walks.proofs.one_hart_counts_the_walk.Goals as goal

pub returns-clause-walk : goal.returns-clause-walk
returns-clause-walk c =
    walk_law (record { graphs = c.one_graph.ensures; lists = c.one_list.ensures; plans = c.one_plan.ensures })
    c.the_only_hart_counts_its_events.ensures c.entries_lead_to_later_arrivals.ensures c.serial_states_are_whole.ensures

pub returns-clause-end : goal.returns-clause-end
returns-clause-end c =
    end_law (record { graphs = c.one_graph.ensures; lists = c.one_list.ensures; plans = c.one_plan.ensures })
    c.the_only_hart_counts_its_events.ensures c.entries_lead_to_later_arrivals.ensures c.serial_states_are_whole.ensures

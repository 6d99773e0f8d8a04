use Rattle.walks.proofs.Unique.{one_walk, entries_law, more_law, plain_law}
use Rattle.walks.proofs.Walking.{on_law, reach_law}
use Rattle.walks.proofs.there_is_one_walk.Goals as goal

pub returns-clause-one : goal.returns-clause-one
returns-clause-one c = one_walk (record { graphs = c.one_graph.ensures; lists = c.one_list.ensures; plans = c.one_plan.ensures })

pub returns-clause-on : goal.returns-clause-on
returns-clause-on c =
    on_law (record { graphs = c.one_graph.ensures; lists = c.one_list.ensures; plans = c.one_plan.ensures })
    c.the_only_hart_counts_its_events.ensures c.entries_lead_to_later_arrivals.ensures c.serial_states_are_whole.ensures

pub returns-clause-entries : goal.returns-clause-entries
returns-clause-entries c = entries_law

pub returns-clause-more : goal.returns-clause-more
returns-clause-more c = more_law

pub returns-clause-reach : goal.returns-clause-reach
returns-clause-reach c =
    reach_law (record { graphs = c.one_graph.ensures; lists = c.one_list.ensures; plans = c.one_plan.ensures })
    c.the_only_hart_counts_its_events.ensures c.entries_lead_to_later_arrivals.ensures c.serial_states_are_whole.ensures

pub returns-clause-plain : goal.returns-clause-plain
returns-clause-plain c = plain_law

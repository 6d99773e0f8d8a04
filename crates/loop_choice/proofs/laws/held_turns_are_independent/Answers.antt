use Rattle.loop_choice.proofs.Independent.{independence_law, stay_law}
use Rattle.loop_choice.proofs.laws.held_turns_are_independent.Goals as goal

pub returns-clause-independent : goal.returns-clause-independent
returns-clause-independent c =
    independence_law (record {
      laws = record {
        results = c.forms_are_right.ensures.results;
        asked = c.uses_ask_for_cells.ensures;
        turns = c.trips_tell_stays.ensures.turns;
        passes = c.trips_tell_stays.ensures.passes;
        addresses = c.addresses_are_values.ensures;
        listed = c.each_access_is_listed.ensures.each;
        values = c.held_values_do_not_wrap.ensures.addresses;
        duties = c.held_values_do_not_wrap.ensures.duties;
      };
      some_pass = c.one_pass.ensures.some;
      found = c.cells_are_found.ensures.found;
      holds = c.answers_tell_tests.ensures;
      entry = c.entry_values_are_of_states.ensures;
      apart = c.held_turns_are_apart.ensures;
    })

pub returns-clause-stay : goal.returns-clause-stay
returns-clause-stay c =
    stay_law (record {
      laws = record {
        results = c.forms_are_right.ensures.results;
        asked = c.uses_ask_for_cells.ensures;
        turns = c.trips_tell_stays.ensures.turns;
        passes = c.trips_tell_stays.ensures.passes;
        addresses = c.addresses_are_values.ensures;
        listed = c.each_access_is_listed.ensures.each;
        values = c.held_values_do_not_wrap.ensures.addresses;
        duties = c.held_values_do_not_wrap.ensures.duties;
      };
      some_pass = c.one_pass.ensures.some;
      found = c.cells_are_found.ensures.found;
      holds = c.answers_tell_tests.ensures;
      entry = c.entry_values_are_of_states.ensures;
      apart = c.held_turns_are_apart.ensures;
    })

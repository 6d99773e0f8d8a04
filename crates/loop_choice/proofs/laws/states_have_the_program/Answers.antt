use Rattle.loop_choice.proofs.Independent.{words_law, stored_law}
use Rattle.loop_choice.proofs.States.{program_law}
use Rattle.loop_choice.proofs.laws.states_have_the_program.Goals as goal

pub returns-clause-program : goal.returns-clause-program
returns-clause-program c = program_law

pub returns-clause-words : goal.returns-clause-words
returns-clause-words c =
    words_law (record {
      laws = record {
        results = c.forms_are_right.ensures.results;
        asked = c.uses_ask_for_cells.ensures;
        turns = c.trips_tell_stays.ensures.turns;
        passes = c.trips_tell_stays.ensures.passes;
        addresses = c.addresses_are_values.ensures;
        listed = c.each_access_is_listed.ensures.each;
        values = c.held_values_do_not_wrap.ensures.addresses;
        duties = c.held_values_do_not_wrap.ensures.duties;
      };
      some_pass = c.one_pass.ensures.some;
      found = c.cells_are_found.ensures.found;
      holds = c.answers_tell_tests.ensures;
      entry = c.entry_values_are_of_states.ensures;
      apart = c.held_turns_are_apart.ensures;
    })

pub returns-clause-stored : goal.returns-clause-stored
returns-clause-stored c =
    stored_law (record {
      laws = record {
        results = c.forms_are_right.ensures.results;
        asked = c.uses_ask_for_cells.ensures;
        turns = c.trips_tell_stays.ensures.turns;
        passes = c.trips_tell_stays.ensures.passes;
        addresses = c.addresses_are_values.ensures;
        listed = c.each_access_is_listed.ensures.each;
        values = c.held_values_do_not_wrap.ensures.addresses;
        duties = c.held_values_do_not_wrap.ensures.duties;
      };
      some_pass = c.one_pass.ensures.some;
      found = c.cells_are_found.ensures.found;
      holds = c.answers_tell_tests.ensures;
      entry = c.entry_values_are_of_states.ensures;
      apart = c.held_turns_are_apart.ensures;
    })

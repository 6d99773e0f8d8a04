use Rattle.apart_turns.proofs.Apart.{turns_apart}
use Rattle.apart_turns.proofs.laws.held_turns_are_apart.Goals as goal

pub returns : goal.returns
returns c G levels nest words C at check t s p are pairs same used held le told cells =
    turns_apart G levels nest words C at check t s p are same used held le told cells c.entry_values_are_of_states.ensures c.addresses_are_values.ensures c.each_access_is_listed.ensures.each c.held_values_do_not_wrap.ensures.addresses pairs
    c.tested_pairs_are_apart.ensures c.terms_tell_of_accesses.ensures.test c.accesses_are_placed.ensures

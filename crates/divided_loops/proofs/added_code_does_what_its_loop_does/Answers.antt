use Rattle.divided_loops.proofs.Adding.{added_law}
use Rattle.divided_loops.proofs.added_code_does_what_its_loop_does.Goals as goal

pub returns : goal.returns
returns c = added_law (record {
  sounds = c.runs_keep_words.ensures;
  saves = c.registers_are_saved.ensures;
  refuses = c.registers_are_restored.ensures;
  sizes = c.copies_stand_in_order.ensures.size;
  places = c.parts_are_in_place.ensures;
  ends = c.stubs_stand.ensures.ends;
  regions = c.a_hart_executes_its_block.ensures;
  replays = c.turns_share_no_byte.ensures.replayed;
  leaves = c.cells_are_written_back.ensures;
})

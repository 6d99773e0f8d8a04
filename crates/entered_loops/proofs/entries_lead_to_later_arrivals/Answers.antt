use Rattle.entered_loops.proofs.Leading.{entry_law}
use Rattle.entered_loops.proofs.entries_lead_to_later_arrivals.Goals as goal

pub returns : goal.returns
returns c =
    entry_law c.nests.ensures c.cells_are_found.ensures.numbered c.cells_are_limited.ensures.few c.judged_checks_are_told.ensures.room
    c.stubs_stand.ensures.stands c.judged_loops_are_divided_by_their_code.ensures c.run_is_serial.ensures

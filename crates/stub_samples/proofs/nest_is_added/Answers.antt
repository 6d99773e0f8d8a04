use Rattle.stub_samples.proofs.NestStub.{has_stub, is_added, is_asked, enters, does}
use Rattle.stub_samples.proofs.NestForks.{leaves_first}
use Rattle.stub_samples.proofs.nest_is_added.Goals as goal

pub returns-clause-stub : goal.returns-clause-stub
returns-clause-stub c = has_stub c.stubs_stand.ensures.stands

pub returns-clause-added : goal.returns-clause-added
returns-clause-added c = is_added c.stubs_stand.ensures.stands c.nest_may_be_copied.ensures.body c.nest_may_be_copied.ensures.ordered

pub returns-clause-asked : goal.returns-clause-asked
returns-clause-asked c = is_asked c.nest_is_divided.ensures.moves c.nest_is_asked.ensures.told

pub returns-clause-enters : goal.returns-clause-enters
returns-clause-enters c = enters

pub returns-clause-does : goal.returns-clause-does
returns-clause-does c =
    (does c.added_code_does_what_its_loop_does.ensures (is_added c.stubs_stand.ensures.stands c.nest_may_be_copied.ensures.body c.nest_may_be_copied.ensures.ordered)
    (is_asked c.nest_is_divided.ensures.moves c.nest_is_asked.ensures.told) c.nest_is_asked.ensures.told).0

pub returns-clause-faultless : goal.returns-clause-faultless
returns-clause-faultless c =
    (does c.added_code_does_what_its_loop_does.ensures (is_added c.stubs_stand.ensures.stands c.nest_may_be_copied.ensures.body c.nest_may_be_copied.ensures.ordered)
    (is_asked c.nest_is_divided.ensures.moves c.nest_is_asked.ensures.told) c.nest_is_asked.ensures.told).1

pub returns-clause-forks : goal.returns-clause-forks
returns-clause-forks c =
    leaves_first
    (does c.added_code_does_what_its_loop_does.ensures
    (is_added c.stubs_stand.ensures.stands c.nest_may_be_copied.ensures.body c.nest_may_be_copied.ensures.ordered)
    (is_asked c.nest_is_divided.ensures.moves c.nest_is_asked.ensures.told) c.nest_is_asked.ensures.told).0

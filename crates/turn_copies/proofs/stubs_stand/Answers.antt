use Rattle.turn_copies.proofs.StubParts.{stub_law, end_law}
use Rattle.turn_copies.proofs.stubs_stand.Goals as goal

pub returns-clause-stands : goal.returns-clause-stands
returns-clause-stands c = stub_law

pub returns-clause-ends : goal.returns-clause-ends
returns-clause-ends c = end_law

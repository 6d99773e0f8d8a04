use Rattle.stack_slots.proofs.FoundCells.{numbered_law, found_law, bases_law, offsets_law}
use Rattle.stack_slots.proofs.laws.cells_are_found.Goals as goal

pub returns-clause-numbered : goal.returns-clause-numbered
returns-clause-numbered c = numbered_law

pub returns-clause-found : goal.returns-clause-found
returns-clause-found c = found_law

pub returns-clause-bases : goal.returns-clause-bases
returns-clause-bases c = bases_law

pub returns-clause-offsets : goal.returns-clause-offsets
returns-clause-offsets c = offsets_law

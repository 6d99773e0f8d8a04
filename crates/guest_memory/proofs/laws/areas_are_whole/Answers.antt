use Rattle.guest_memory.proofs.Loaded.{areas-lie}
use Rattle.guest_memory.proofs.WholeAreas.{whole_law, aligned_law}
use Rattle.guest_memory.proofs.laws.areas_are_whole.Goals as goal

pub returns-clause-loaded : goal.returns-clause-loaded
returns-clause-loaded c = areas-lie

pub returns-clause-whole : goal.returns-clause-whole
returns-clause-whole c = whole_law

pub returns-clause-aligned : goal.returns-clause-aligned
returns-clause-aligned c = aligned_law

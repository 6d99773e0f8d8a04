use Rattle.guest_memory.proofs.Kept.{after-keeps, span-keeps, span-bytes, keep_self, keep_on, keep-lie, fetch-keeps}
use Rattle.guest_memory.proofs.laws.areas_stay.Goals as goal

pub returns-clause-access : goal.returns-clause-access
returns-clause-access c = after-keeps

pub returns-clause-buffer : goal.returns-clause-buffer
returns-clause-buffer c = span-keeps

pub returns-clause-bytes : goal.returns-clause-bytes
returns-clause-bytes c = span-bytes

pub returns-clause-same : goal.returns-clause-same
returns-clause-same c = keep_self

pub returns-clause-again : goal.returns-clause-again
returns-clause-again c = keep_on

pub returns-clause-lie : goal.returns-clause-lie
returns-clause-lie c = keep-lie 0

pub returns-clause-code : goal.returns-clause-code
returns-clause-code c = fetch-keeps

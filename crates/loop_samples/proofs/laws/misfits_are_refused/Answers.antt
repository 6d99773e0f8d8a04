use Rattle.loop_samples.proofs.Misfits.{not_unloaded, not_moving, not_beside, not_all_kept, not_fast, not_private, seen_are, not_low, not_short, not_readable, not_writable, not_executable, not_alone, not_left}
use Rattle.loop_samples.proofs.laws.misfits_are_refused.Goals as goal

pub returns-clause-unloaded : goal.returns-clause-unloaded
returns-clause-unloaded c = not_unloaded

pub returns-clause-moving : goal.returns-clause-moving
returns-clause-moving c = not_moving

pub returns-clause-beside : goal.returns-clause-beside
returns-clause-beside c = not_beside

pub returns-clause-kept : goal.returns-clause-kept
returns-clause-kept c = not_all_kept

pub returns-clause-fast : goal.returns-clause-fast
returns-clause-fast c = not_fast

pub returns-clause-counter : goal.returns-clause-counter
returns-clause-counter c = not_private

pub returns-clause-seen : goal.returns-clause-seen
returns-clause-seen c = seen_are

pub returns-clause-low : goal.returns-clause-low
returns-clause-low c = not_low

pub returns-clause-short : goal.returns-clause-short
returns-clause-short c = not_short

pub returns-clause-readable : goal.returns-clause-readable
returns-clause-readable c = not_readable

pub returns-clause-writable : goal.returns-clause-writable
returns-clause-writable c = not_writable

pub returns-clause-executable : goal.returns-clause-executable
returns-clause-executable c = not_executable

pub returns-clause-alone : goal.returns-clause-alone
returns-clause-alone c = not_alone

pub returns-clause-gap : goal.returns-clause-gap
returns-clause-gap c = not_left

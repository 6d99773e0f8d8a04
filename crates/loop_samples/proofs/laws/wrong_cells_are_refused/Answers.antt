use Rattle.loop_samples.proofs.Refused.{not_kept, not_untouched, not_narrow}
use Rattle.loop_samples.proofs.laws.wrong_cells_are_refused.Goals as goal

pub returns-clause-kept : goal.returns-clause-kept
returns-clause-kept c = not_kept

pub returns-clause-unused : goal.returns-clause-unused
returns-clause-unused c = not_untouched

pub returns-clause-narrow : goal.returns-clause-narrow
returns-clause-narrow c = not_narrow

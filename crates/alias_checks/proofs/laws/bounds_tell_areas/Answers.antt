use Rattle.alias_checks.proofs.StartBounds.{start_bounds, kept_bounds}
use Rattle.alias_checks.proofs.laws.bounds_tell_areas.Goals as goal

pub returns : goal.returns
returns c = record { start = start_bounds; kept = kept_bounds }

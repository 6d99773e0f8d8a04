use Rattle.std.proofs.Common.{◌∙◌, map, ap, List}
use Rattle.loop_data.specs.Points.{Point}
use Rattle.register_equations.proofs.Ending.{bare_ats}
use Rattle.register_equations.proofs.passes.solved_points.Goals as goal

pub set_places-requires-clause-words : goal.set_places-requires-clause-words
set_places-requires-clause-words c =
    ap (λ (ps : List Point). map (λ (p : Point). p.at) ps) c.in_ok-points.ensures ∙ bare_ats c.as_slice.result.now ∙ c.as_slice.ensures

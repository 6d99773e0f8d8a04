use Rattle.std.proofs.Common.{Contains, subst}
use Rattle.loop_data.specs.Targets.{Targets, successors}
use Rattle.flow_recovery.proofs.Following.{leads_to_target}
use Rattle.flow_recovery.proofs.reaching.follow.Goals as goal

pub add-requires-in-Branch-2-clause-leads : goal.add-requires-in-Branch-2-clause-leads
add-requires-in-Branch-2-clause-leads c code =
    let target = c.in-Branch.target in
    c.requires.leads target
    (subst (λ (t : Targets). Contains (successors t) target) c.flow_at.ensures (leads_to_target c.args.at target c.flow_at.result c.in-Branch.is)) code

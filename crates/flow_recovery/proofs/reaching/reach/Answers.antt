use Rattle.std.proofs.Common.{get_or, ap, arith}
use Rattle.loop_data.specs.Reaching.{entry}
use Rattle.flow_recovery.proofs.Closure.{LeadTo-turn, LeadTo-end}
use Rattle.flow_recovery.proofs.Found.{Contains-grown, length-grown}
use Rattle.flow_recovery.proofs.reaching.reach.Goals as goal

pub add-requires-clause-leads : goal.add-requires-clause-leads
add-requires-clause-leads c code = entry code

pub loop-done-preserved : goal.loop-done-preserved
loop-done-preserved c =
    let old = c.loop-done.found.keys in
    let new = c.visit.new.found.keys in
    let told = c.loop-done.invariant in
    let grown = c.in_ok-visit.ensures.grows in
    record {
      reached = c.in_ok-visit.ensures.reached;
      entry = λ code. Contains-grown old new c.args.elf.now.entry grown (told.entry code);
      lead = LeadTo-turn c.args.elf.now old new c.loop-done.done _ c.requires.apart told.reached told.lead (omega arith)
          (ap (λ l. get_or l c.loop-done.done 0) c.as_slice.ensures.keys) grown c.in_ok-visit.ensures.visited;
      within = let l = length-grown old new grown in omega arith;
    }

pub returns-clause-reached : goal.returns-clause-reached
returns-clause-reached c =
    let told = c.loop-done.invariant in
    LeadTo-end c.args.elf.now c.loop-done.found.keys c.loop-done.done told.reached told.lead (omega arith) told.entry

use Rattle.loop_data.proofs.FactWalks.{fact_law, arrival_law}
use Rattle.loop_data.proofs.laws.facts_hold.Goals as goal

pub returns-clause-visit : goal.returns-clause-visit
returns-clause-visit c = fact_law

pub returns-clause-arrival : goal.returns-clause-arrival
returns-clause-arrival c = arrival_law

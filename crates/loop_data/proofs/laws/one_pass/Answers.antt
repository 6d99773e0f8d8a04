use Rattle.loop_data.proofs.FactUnique.{one_pass}
use Rattle.loop_data.proofs.FactsExist.{facts_exist}
use Rattle.loop_data.proofs.laws.one_pass.Goals as goal

pub returns-clause-some : goal.returns-clause-some
returns-clause-some c N B l nest among = facts_exist N B l nest among

pub returns-clause-only : goal.returns-clause-only
returns-clause-only c N B l V W nest among first second v r h = one_pass N B l nest among V W first second v h r

use Rattle.loop_data.specs.Reaching.{entry}
use Rattle.flow_recovery.proofs.Closure.{reached_code}
use Rattle.flow_recovery.proofs.Segments.{code_aligned, code_within, entry_is_code}
use Rattle.flow_recovery.proofs.laws.reached_words.Goals as goal

pub returns-clause-aligned : goal.returns-clause-aligned
returns-clause-aligned c elf a r = code_aligned elf a (reached_code elf a r)

pub returns-clause-code : goal.returns-clause-code
returns-clause-code c elf a r = code_within elf a (reached_code elf a r)

pub returns-clause-entry : goal.returns-clause-entry
returns-clause-entry c elf loadable = entry (entry_is_code elf loadable)

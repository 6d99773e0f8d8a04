use Rattle.alias_checks.proofs.Holding.{holds_forth, holds_back}
use Rattle.alias_checks.proofs.laws.answers_tell_tests.Goals as goal

pub returns : goal.returns
returns c =
    λ check regs m t are. (
      holds_forth c.terms_tell_of_accesses.ensures.test check regs m t are,
      holds_back c.terms_tell_of_accesses.ensures.test check regs m t are,
    )

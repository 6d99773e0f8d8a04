use Rattle.rv64_meaning.proofs.Allowed.{allowed_all}
use Rattle.rv64_meaning.proofs.tests.at.Goals as goal

pub exec-requires : goal.exec-requires
exec-requires c = allowed_all _ (λ a. tt) _

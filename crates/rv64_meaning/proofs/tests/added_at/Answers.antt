use Rattle.rv64_meaning.proofs.Allowed.{allowed_all}
use Rattle.rv64_meaning.proofs.tests.added_at.Goals as goal

pub exec_x-requires-clause-access : goal.exec_x-requires-clause-access
exec_x-requires-clause-access c = allowed_all _ (λ a. tt) _

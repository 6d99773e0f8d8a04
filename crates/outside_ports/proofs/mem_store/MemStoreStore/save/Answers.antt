use Rattle.std.proofs.Common.{refl}
use Rattle.outside_ports.proofs.mem_store.MemStoreStore.save.Goals as goal

pub returns-then-is_err-clause-fails : goal.returns-then-is_err-clause-fails
returns-then-is_err-clause-fails c = rw (← c.self.view_is) (λ e. c.begin.ensures.failed.0 (cc), λ h. refl)

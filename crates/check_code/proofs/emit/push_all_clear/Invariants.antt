use Rattle.std.proofs.Common.{ℕ, List, drop}
use Rattle.stub_laws.specs.Code.{Appended}
use Rattle.check_code.specs.CheckCode.{all_clear_code}
use Rattle.check_code.proofs.emit.push_all_clear.Given as goal

abbrev pub invariant-loop-i : goal.invariant-loop-i
invariant-loop-i l = (fin : List ℕ) → Appended l.code.items fin (all_clear_code (drop l.i l.cells)) → Appended l.initial.code.items fin (all_clear_code l.cells)

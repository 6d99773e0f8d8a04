use Rattle.std.proofs.Common.{ℕ, List, drop}
use Rattle.stub_laws.specs.Code.{Appended}
use Rattle.check_code.specs.CheckCode.{all_keep_off_code}
use Rattle.check_code.proofs.emit.push_all_keep_off.Given as goal

abbrev pub invariant-loop-cell : goal.invariant-loop-cell
invariant-loop-cell l = (fin : List ℕ) → Appended l.code.items fin (all_keep_off_code (drop l.cell-index l.cells) l.accesses) → Appended l.initial.code.items fin (all_keep_off_code l.cells l.accesses)

use Rattle.std.proofs.Common.{ℕ, List, drop}
use Rattle.std.specs.Prelude.{flat_map}
use Rattle.stub_laws.specs.Code.{Appended}
use Rattle.check_code.specs.MeetCode.{keep_off_code}
use Rattle.check_code.proofs.emit.push_keep_off_row.Given as goal

abbrev pub invariant-loop-access : goal.invariant-loop-access
invariant-loop-access l = (fin : List ℕ) → Appended l.code.items fin (flat_map (keep_off_code l.cell) (drop l.access-index l.accesses)) → Appended l.initial.code.items fin (flat_map (keep_off_code l.cell) l.accesses)

use Rattle.std.proofs.Common.{ℕ, List, drop}
use Rattle.std.specs.Prelude.{flat_map}
use Rattle.stub_laws.specs.Code.{Appended}
use Rattle.check_code.specs.CheckCode.{pair_at_code}
use Rattle.check_code.proofs.emit.push_pairs.Given as goal

abbrev pub invariant-loop-pair : goal.invariant-loop-pair
invariant-loop-pair l = (fin : List ℕ) → Appended l.code.items fin (flat_map (pair_at_code l.accesses) (drop l.pair-index l.pairs)) → Appended l.initial.code.items fin (flat_map (pair_at_code l.accesses) l.pairs)

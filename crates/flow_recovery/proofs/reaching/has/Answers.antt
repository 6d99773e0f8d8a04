use Rattle.std.specs.Cmp.{nat_eq_equiv}
use Rattle.std.proofs.lemmas.Map.Views.{hash_set_contains_iff, exact_unsigned_eq}
use Rattle.flow_recovery.proofs.reaching.has.Goals as goal

pub returns : goal.returns
returns c = rw c.contains.ensures (hash_set_contains_iff nat_eq_equiv exact_unsigned_eq c.args.found.now c.args.at)

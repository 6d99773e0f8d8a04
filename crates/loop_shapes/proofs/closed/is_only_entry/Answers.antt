use Rattle.std.proofs.Common.{refl}
use Rattle.std.proofs.lemmas.List.Elements.{Contains-get_or}
use Rattle.loop_shapes.proofs.Parts.{entry_all}
use Rattle.loop_shapes.proofs.closed.is_only_entry.Goals as goal

pub bounds-starts-i : goal.bounds-starts-i
bounds-starts-i c = c.requires _ (Contains-get_or c.args.found.now c.loop-i.i-index 0 c.loop-i-test.true)

pub returns : goal.returns
returns c = (λ _. entry_all c.args.starts.now c.args.found.now c.args.header c.loop-i.i-index c.loop-i-test.false c.loop-i.invariant, λ _. refl)

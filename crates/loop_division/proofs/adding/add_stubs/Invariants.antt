use Rattle.std.proofs.Common.{◌≤◌, ◌*◌, ◌^◌, drop}
use Rattle.loop_division.specs.Adding.{AreAdded}
use Rattle.loop_division.proofs.adding.add_stubs.Given as goal

abbrev pub invariant-loop-place : goal.invariant-loop-place
invariant-loop-place l =
    AreAdded l.elf l.graph l.shapes l.places (drop l.place-index l.places) l.added.entries.items l.added.code.items
    l.added.count × (l.added.count ≤ l.place-index * 2 ^ 18)

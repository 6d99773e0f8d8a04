use Rattle.std.proofs.Common.{◌≡◌, ◌+◌, ◌*◌, ◌≤◌, ◌++◌, drop}
use Rattle.outliner.specs.Sizes.{places_from, loop_code}
use Rattle.outliner.proofs.places.places_of.Given as goal

-- the places so far and those of the words that are left are all
abbrev pub invariant-loop-k : goal.invariant-loop-k
invariant-loop-k l = record {
  whole : places_from l.level (loop_code l.graph l.cells) l.p l.level.body ≡ l.places.items ++ places_from l.level (loop_code l.graph l.cells) l.place (drop l.k l.level.body);
  few : l.place ≤ l.p + 3 * l.k;
}

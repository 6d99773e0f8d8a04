use Rattle.std.proofs.Common.{◌≡◌, ◌+◌, ◌-◌, ◌*◌, ◌≤◌, length}
use Rattle.turn_copies.specs.StubCode.{movings_from, movings, advances_code}
use Rattle.outliner.specs.Moves.{roles_in}
use Rattle.outliner.proofs.stub.begin_size.Given as goal

-- the words so far and those of the locations that are left are all
abbrev pub invariant-loop-k : goal.invariant-loop-k
invariant-loop-k l = record {
  whole : l.size + length (advances_code (movings_from (roles_in l.classes) l.k (48 - l.k))) ≡ length (advances_code (movings (roles_in l.classes))) + 8;
  few : l.size ≤ 8 + 6 * l.k;
}

use Rattle.std.proofs.Common.{ℕ, ◌≡◌, ◌<◌, ◌≤◌, get_or}
use Rattle.rv64_decode.specs.Aim.{Aimed}
use Rattle.rv64_decode.proofs.aiming.aim.Given as goal

abbrev pub invariant-loop-i : goal.invariant-loop-i
invariant-loop-i l = record {
  before : (k : ℕ) → k < l.i → Aimed l.no k (get_or l.fn.code k 0) (get_or l.code k 0);
  after : (k : ℕ) → l.i ≤ k → get_or l.code k 0 ≡ get_or l.fn.code k 0;
}
